-- `starts_before` meets its contract: the ranges of the table begin one after the other, so that halving finds those before the page.
use Rattle.std.proofs.Common.{ltb, rules}
use Rattle.std.specs.List.Sorted.{IsPartitionedBy}
use Rattle.std.proofs.lemmas.List.Sorted.{IsPartitionPoint-from_clause}
use Rattle.table.specs.Searching.{begins, parted_before, point_before}
use Rattle.range_table.proofs.starts_before.Goals as goal

pub returns : goal.returns
returns c =
    let s = c.args.s.now in
    let parted : IsPartitionedBy (λ r. ltb (begins r) c.args.g) c.used.result.now = rw c.used.ensures.rows (parted_before s.ranges s.count c.requires c.args.g) in
    let point = IsPartitionPoint-from_clause (λ r. ltb (begins r) c.args.g) _ _ c.partition_point.ensures.partitioned parted (λ a r q k. search rules) in
    point_before s.ranges s.count c.requires c.args.g _ (rw c.used.ensures.rows at c.partition_point.ensures.bound) (rw c.used.ensures.rows at point)
