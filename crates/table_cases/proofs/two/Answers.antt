-- a blank store has a table with no range
use Rattle.std.proofs.Common.{arith}
use Rattle.std.specs.Prelude.{replicate, drop, ◌≡◌}
use Rattle.std.proofs.lemmas.List.{length-replicate}
use Rattle.lists.specs.Every.{All}
use Rattle.ranges.specs.Range.{Rising}
use Rattle.store.specs.Ranges.{zeros_all}
use Rattle.table.specs.declared.PageRange.{PageRange}
use Rattle.table.specs.Table.{Table, ranged_of, zero_range}
use Rattle.table_cases.proofs.two.Goals as goal

zero_table : Table (replicate 512 zero_range) 0
unfolding ranged_of Rising
zero_table = record { full = length-replicate {A = PageRange} 512 zero_range; few = omega arith; small = λ i h. absurd (omega arith); rising = tt }

zero_blank : All (λ r. r ≡ zero_range) (drop 0 (replicate 512 zero_range))
zero_blank = zeros_all 512

pub put_range-requires-clause-table : goal.put_range-requires-clause-table
put_range-requires-clause-table c =
    let e = c.blank-s.ensures.no_range in
    rw (e.0, e.1) (zero_table, zero_blank)
