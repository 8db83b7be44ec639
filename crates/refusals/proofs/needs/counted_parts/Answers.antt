-- `refusals::needs::counted_parts` meets its contract: the first page and the last, each by itself.
use Rattle.std.proofs.Common.{ℕ, ◌*◌, ◌/◌, ap, ◌∙◌, add_assoc, arith, rules}
use Rattle.book.specs.Need.{state_of, partly}
use Rattle.book.specs.Book.{entry}
use Rattle.store.specs.Abs.{book_of}
use Rattle.refusals.specs.Spans.{span_is, parts_counted}
use Rattle.refusals.proofs.needs.counted_parts.Goals as goal

pub returns : goal.returns
returns g c =
    let a = c.args in
    let e = a.within.extent in
    let p = c.span_of-span in
    let h = p.ensures in
    record {
      told = λ each counts x.
          let page : ℕ → ℕ = λ q. each (state_of e.object q (entry (book_of a.states.now.pages.store.now x))) in
          parts_counted e.offset e.n p.result h.0 h.1 h.2 page _ _
          (c.partly.ensures.told each (λ t b e. counts t b (search rules)) x ∙ ap (λ q. partly (span_is p.result) page q p.result.head) c.from_offset-first.ensures)
          (c.partly-2.ensures.told each (λ t b e. counts t b (search rules)) x ∙ ap (λ q. partly (span_is p.result) page q p.result.tail) (c.from_offset-last.ensures ∙ ap (λ (k : ℕ). k / 4096) (add_assoc e.offset p.result.head (p.result.whole * 4096))));
      few = omega (arith, c.partly.ensures.one, c.partly-2.ensures.one);
    }
