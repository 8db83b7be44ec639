-- `Entry::lacking_copy` meets its contract: at equal places whole pages are shared, else all is bytes.
use Rattle.std.proofs.Common.{◌≡◌, ◌%◌, ap, sym, ◌∙◌, rules}
use Rattle.book.specs.Need.{lacks}
use Rattle.book.specs.Book.{entry, lacking, lowest}
use Rattle.store.specs.Abs.{book_of}
use Rattle.refusals.specs.Spans.{equal_needs, unequal_needs}
use Rattle.refusals.proofs.Entry.lacking_copy.Goals as goal

pub returns-then-place : goal.returns-then-place
returns-then-place c =
    let s = c.args.self.now.sound.store.now in
    let p = c.args.between.passage in
    λ x. rw c.target.ensures at (c.lacking_bytes.ensures x)
    ∙ ap (λ k. lowest (lacking (entry (book_of s x)) k))
    (unequal_needs s p.source p.from p.object p.to p.n x (λ h. c.if-place.true (c.place.ensures ∙ h ∙ sym c.place-2.ensures)))

pub returns : goal.returns
returns c =
    let s = c.args.self.now.sound.store.now in
    let p = c.args.between.passage in
    let h : p.from % 4096 ≡ p.to % 4096 = sym c.place.ensures ∙ c.if-place.false ∙ c.place-2.ensures in
    λ x. c.lacking.ensures x
    ∙ ap (λ k. lowest (lacking (entry (book_of s x)) k))
    (equal_needs s p.source p.from p.object p.to p.n x _ _ h (rw (c.states.ensures.store, c.target-2.ensures) at (c.counted_parts-frames.ensures.told lacks (λ t b e. search rules) x)) (rw c.origin.ensures at (c.met_whole-slots.ensures.0 x)))
