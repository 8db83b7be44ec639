-- `Entry::lacking_zero` meets its contract: the parts need frames, the whole pages one slot.
use Rattle.std.proofs.Common.{◌≡◌, min, ap, ◌∙◌, arith, rules}
use Rattle.book.specs.Need.{common}
use Rattle.book.specs.Book.{entry, lacking, lowest}
use Rattle.store.specs.Abs.{book_of}
use Rattle.refusals.specs.Spans.{zero_needs}
use Rattle.refusals.proofs.Entry.lacking_zero.Goals as goal

pub returns : goal.returns
returns c =
    let s = c.args.self.now.sound.store.now in
    let e = c.args.within.extent in
    let p = c.span_of-span in
    let h = p.ensures in
    let m : c.min.result ≡ min 1 p.result.whole = omega (arith, c.min.ensures) in
    λ x. c.lacking.ensures x
    ∙ ap (λ k. lowest (lacking (entry (book_of s x)) k))
    (zero_needs e.offset e.n p.result h.0 h.1 h.2 s e.object _ _ x (rw c.states.ensures.store at (c.counted_parts-frames.ensures.told common (λ t b e. search rules) x)) m)
