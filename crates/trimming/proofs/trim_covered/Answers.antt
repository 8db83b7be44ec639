use Rattle.std.proofs.Common.{◌∙◌, arith}
use Rattle.lists.specs.Mapped.{mapped_none}
use Rattle.trimming.specs.Trimming.{kept_covered, mapped_all, turn}
use Rattle.trimming.proofs.trim_covered.Goals as goal

pub loop-p-init : goal.loop-p-init
loop-p-init c = mapped_none (kept_covered c.args.cover.now) c.args.places.now

pub loop-p-preserved : goal.loop-p-preserved
loop-p-preserved c =
    let l = c.loop-p in
    turn (kept_covered c.args.cover.now) c.args.places.now l.places l.p-index c.loop-p-test.true l.invariant _ c.kept_by.ensures

pub returns : goal.returns
returns c = c.loop-p.invariant ∙ mapped_all (kept_covered c.args.cover.now) c.args.places.now c.loop-p.p-index (omega arith)
