-- `Entry::lacking_bytes` meets its contract: the count may stop above the free frames.
use Rattle.std.proofs.Common.{◌∙◌}
use Rattle.book.specs.Need.{counted}
use Rattle.book.specs.Book.{entry}
use Rattle.store.specs.Abs.{book_of}
use Rattle.refusals.specs.Needs.{lacking_upto}
use Rattle.refusals.proofs.Entry.lacking_bytes.Goals as goal

pub returns : goal.returns
returns c =
    let e = c.args.within.extent in
    λ x. let w = entry (book_of c.args.self.now.sound.store.now x) in
    c.lacking.ensures x ∙ lacking_upto w c.counted.result (counted e.object e.offset e.n w) 0 (rw (← c.free_frames-spare.ensures.frames.0 x) (rw c.states.ensures.store at (c.counted.ensures x)))
