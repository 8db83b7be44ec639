-- `last_by` meets its contract: the table is parted by where ranges begin.
use Rattle.std.proofs.Common.{leb, rules}
use Rattle.std.specs.List.Sorted.{IsPartitionedBy}
use Rattle.std.proofs.lemmas.List.Sorted.{IsPartitionPoint-from_clause}
use Rattle.table.specs.Searching.{begins, last_is, parted_by, point_by}
use Rattle.range_table.proofs.last_by.Goals as goal

pub returns : goal.returns
returns c =
    let s = c.args.s.now in
    let parted : IsPartitionedBy (λ r. leb (begins r) c.args.g) c.used.result.now = rw c.used.ensures.rows (parted_by s.ranges s.count c.requires c.args.g) in
    let point = IsPartitionPoint-from_clause (λ r. leb (begins r) c.args.g) _ _ c.partition_point.ensures.partitioned parted (λ a r q k. search rules) in
    last_is s.ranges s.count c.requires c.args.g _ _
    (point_by s.ranges s.count c.requires c.args.g _ (rw c.used.ensures.rows at c.partition_point.ensures.bound) (rw c.used.ensures.rows at point)) c.checked_sub.ensures
