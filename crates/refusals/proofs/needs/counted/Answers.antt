-- `refusals::needs::counted` meets its contract: at most one page more than there are frames is looked at.
use Rattle.std.proofs.Common.{◌≡◌, suc, min, arith}
use Rattle.book.specs.Page.{touched}
use Rattle.refusals.specs.Needs.{counted_first}
use Rattle.refusals.proofs.needs.counted.Goals as goal

pub returns : goal.returns
returns c =
    let s = c.args.states.now.pages.store.now in
    let e = c.args.within.extent in
    let k : c.min-n.result ≡ min (touched 4096 e.offset e.n) (suc s.frames) = omega (arith, c.min-n.ensures, c.touched.ensures) in
    λ x. rw (← counted_first s e.object e.offset e.n _ k x, ← c.from_offset-page.ensures) (c.wanted.ensures x)
