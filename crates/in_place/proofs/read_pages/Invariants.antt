-- `in_place::read_pages`: the bytes stored so far, and those to come, are the read (`Begun`); a turn stores the next page's part (`begun_next`).
use Rattle.std.proofs.Common.{◌≡◌, length}
use Rattle.book.specs.Book.{entry}
use Rattle.store.specs.Abs.{book_of}
use Rattle.reads.specs.Reading.{Begun}
use Rattle.in_place.proofs.read_pages.Given as goal

abbrev pub invariant-loop-part : goal.invariant-loop-part
invariant-loop-part l = record {
  can_next : (goal.iterator-loop-part).can_next l.part-iterator;
  is_finite : (goal.iterator-loop-part).is_finite l.part-iterator;
  offset : l.part-iterator.offset ≡ l.offset;
  n : l.part-iterator.n ≡ length l.initial.buf;
  begun : Begun l.object l.offset (length l.initial.buf) (entry (book_of l.pages.store.now l.pool)) l.buf l.part-iterator.done;
}
