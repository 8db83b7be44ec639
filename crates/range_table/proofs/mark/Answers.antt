use Rattle.std.proofs.Common.{arith}
use Rattle.range_table.specs.Rows.{held_end, held_first, held_next}
use Rattle.range_table.proofs.mark.Goals as goal
use Rattle.range_table.proofs.mark.Goals.{then-b-lt513, else-b-lt513}

pub loop-r-init : goal.loop-r-init
loop-r-init c = record { full = omega arith; marked = held_first c.args.ranges.now _ c.requires }

pub loop-r-preserved : goal.loop-r-preserved
loop-r-preserved c =
    let l = c.loop-r in
    elim c.if-b-lt513.branch [
      | then-b-lt513 w ↦ record {
        full = omega arith;
        marked = rw w.held-is (held_next c.args.ranges.now l.r-index c.number-b.result l.held c.loop-r-test.true c.number-b.ensures l.invariant.marked l.invariant.full w.if-b-lt513.true);
      }
      | else-b-lt513 w ↦ record {
        full = omega arith;
        marked = rw w.held-is (held_end c.args.ranges.now l.r-index c.number-b.result l.held c.loop-r-test.true c.number-b.ensures l.invariant.marked w.if-b-lt513.false);
      }
    ]
