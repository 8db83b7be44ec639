use Rattle.std.proofs.Common.{sym, arith}
use Rattle.ranges.specs.Cut.{back_none}
use Rattle.table.specs.Pieces.{back_part}
use Rattle.table.proofs.PageRange.back.Goals as goal

pub returns-then-end-e : goal.returns-then-end-e
returns-then-end-e c = sym (back_none _ _ (omega arith))

pub returns : goal.returns
returns c = back_part _ _ _ _ (omega arith) (omega arith) c.shortened.ensures
