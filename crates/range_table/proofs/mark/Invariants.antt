-- `mark` meets its contract: the numbers that the ranges so far hold are marked.
use Rattle.std.proofs.Common.{◌≡◌, length, take}
use Rattle.table.specs.Table.{ranges_of}
use Rattle.range_table.specs.Rows.{Held}
use Rattle.range_table.proofs.mark.Given as goal

abbrev pub invariant-loop-r : goal.invariant-loop-r
invariant-loop-r l = record { full : length l.held ≡ 513; marked : Held (ranges_of (take l.r-index l.ranges)) l.held }
