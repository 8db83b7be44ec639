-- `refusals::needs::wanted` meets its contract. The loop's invariant: `count`, with the count of the pages that are left, is the whole count, so that counting may stop once
-- `count` is above the limit.
use Rattle.std.proofs.Common.{◌≡◌, List, ℕ, ◌+◌, ◌-◌, ◌≤◌}
use Rattle.book.specs.Need.{wanted}
use Rattle.book.specs.Book.{entry}
use Rattle.store.specs.Abs.{book_of}
use Rattle.refusals.proofs.needs.wanted.Given as goal

abbrev pub invariant-loop-i : goal.invariant-loop-i
invariant-loop-i l = record {
  few : l.count ≤ l.i;
  left : (x : List ℕ) → l.count + wanted (l.n - l.i) l.object (l.page.0 + l.i) (entry (book_of l.states.pages.store.now x)) ≡ wanted l.n l.object l.page.0 (entry (book_of l.states.pages.store.now x));
}
