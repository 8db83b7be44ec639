-- `cut_range` meets its contract, by the splice.
use Rattle.std.proofs.Common.{arith}
use Rattle.range_table.specs.Made.{cut_spliced}
use Rattle.range_table.proofs.cut_range.Goals as goal

pub splice-requires-clause-room : goal.splice-requires-clause-room
splice-requires-clause-room c = let P = c.requires in (P.span.0, P.span.1, omega (arith, P.table.0.few))

pub returns : goal.returns
returns c = let P = c.requires in cut_spliced c.args.s.now P.table.0 _ _ P.span.0 P.span.1 _ c.splice.ensures
