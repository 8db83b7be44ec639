use Rattle.std.proofs.Common.{sym, arith}
use Rattle.ranges.specs.Cut.{front_none}
use Rattle.table.specs.Pieces.{front_part}
use Rattle.table.proofs.PageRange.front.Goals as goal

pub returns-then-a-first : goal.returns-then-a-first
returns-then-a-first c = sym (front_none _ _ (omega arith))

pub returns : goal.returns
returns c = front_part _ _ _ _ (omega arith) (omega arith) c.new_from.ensures
