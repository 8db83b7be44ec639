-- `put_range` meets its contract, by the splice.
use Rattle.std.proofs.Common.{arith}
use Rattle.ranges.specs.Few.{carve_more}
use Rattle.table.specs.Table.{ranged_of}
use Rattle.table.specs.Searching.{used_length}
use Rattle.store.specs.Abs.{used}
use Rattle.range_table.specs.Made.{put_spliced}
use Rattle.range_table.proofs.put_range.Goals as goal

pub splice-requires-clause-room : goal.splice-requires-clause-room
splice-requires-clause-room c =
    let s = c.args.s.now in
    let T = c.requires.table.0 in
    let S = c.requires.small in
    let len = S.1 in
    let ends = S.0.ends in
    let C = carve_more c.first.result c.end.result 0 (ranged_of (used s)) (omega arith) T.rising in
    (omega arith, omega (arith, C, used_length s.ranges s.count T, S.2), omega (arith, S.2))

pub returns : goal.returns
returns c =
    let S = c.requires.small in
    put_spliced c.args.s.now c.requires.table.0 c.args.n S.0 S.1 S.2 _ _ (omega (arith, c.first.ensures, S.0.ends)) (omega (arith, c.end.ensures, S.0.ends)) _ c.splice.ensures
