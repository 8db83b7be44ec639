use Rattle.std.proofs.Common.{ℕ, ◌+◌, length, subst, sym, rules}
use Rattle.ranges.specs.Range.{line}
use Rattle.book.specs.Book.{entry}
use Rattle.store.specs.Abs.{book_of}
use Rattle.reads.specs.Reading.{Begun, begun_all, begun_next}
use Rattle.in_place.proofs.read_pages.Goals as goal

pub loop-part-preserved : goal.loop-part-preserved
loop-part-preserved c =
    let l = c.loop-part in
    let a = c.args in
    let N = c.in-Some.ensures.steps in
    let p = c.in-Some.part in
    let P : ℕ → Type 0 = Begun a.object a.offset (length a.buf.now) (entry (book_of a.pages.now.store.now a.pool.now)) c.read_part-slot.new.buf in
    let turn : P (l.part-iterator.done + p.n) =
    begun_next a.pages.now.store.now a.pages.now.charted.table (search rules) a.pool.now c.requires.pool a.object a.offset (length a.buf.now) l.part-iterator.done p.n p.place (line a.object p.page.0) l.buf c.read_part-slot.new.buf
    (search rules) (search rules) (search rules) (search rules) (search rules) (search rules) l.invariant.begun in
    record {
      can_next = tt;
      is_finite = tt;
      offset = search rules;
      n = search rules;
      begun = subst P (sym N.3) turn;
    }

pub returns : goal.returns
returns c =
    let a = c.args in
    begun_all a.object a.offset (length a.buf.now) (entry (book_of a.pages.now.store.now a.pool.now)) _ c.loop-part.part-iterator.done (search rules) (search rules) c.loop-part.invariant.begun
