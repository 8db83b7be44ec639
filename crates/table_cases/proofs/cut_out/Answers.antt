use Rattle.std.proofs.Common.{arith}
use Rattle.std.specs.Prelude.{take}
use Rattle.ranges.specs.Few.{carve_more}
use Rattle.table.specs.Table.{ranged_of}
use Rattle.table.specs.Searching.{used_length}
use Rattle.table_cases.proofs.cut_out.Goals as goal

pub cut_range-requires-clause-span : goal.cut_range-requires-clause-span
cut_range-requires-clause-span c =
    let a = c.args in
    let h = c.requires in
    let w = c.two-s.result in
    let e = c.two-s.ensures in
    let m = carve_more a.a a.e 0 (ranged_of (take w.count w.ranges)) (omega arith) e.0.rising in
    let n = used_length w.ranges w.count e.0 in
    let f = e.2 in
    (h, omega arith)
