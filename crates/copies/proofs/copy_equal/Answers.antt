-- `copies::copy_equal` meets its contract: head, whole pages and tail, one after the other.
use Rattle.std.proofs.Common.{ℕ, ◌≡◌, ◌+◌, ◌/◌, arith}
use Rattle.refusals.specs.Spans.{span_is_lem}
use Rattle.page_steps.specs.Lent.{same_both}
use Rattle.copies.specs.Spans.{copy_steps}
use Rattle.copies.proofs.copy_equal.Goals as goal

-- the first part begins where the copy begins
from_here : (k : ℕ) → k + 0 ≡ k
from_here k = omega arith

pub copy_bytes-requires : goal.copy_bytes-requires
copy_bytes-requires c =
    let a = c.args.copier.now.between.passage in
    let v = c.args.work.now in
    let p = c.span_of-span.result in
    let q = c.span_of-span.ensures in
    let Z = copy_steps v.store.now v.pool.now a.source a.from a.object a.to a.n c.requires _ (span_is_lem a.from a.n p q.0 q.1 q.2) in
    rw (c.part.ensures.passage, from_here a.to) Z.0.0

pub copy_range_to_object_tree-requires-clause-inside : goal.copy_range_to_object_tree-requires-clause-inside
copy_range_to_object_tree-requires-clause-inside c =
    let a = c.args.copier.now.between.passage in
    let v = c.args.work.now in
    let p = c.span_of-span.result in
    let q = c.span_of-span.ensures in
    let Z = copy_steps v.store.now v.pool.now a.source a.from a.object a.to a.n c.requires _ (span_is_lem a.from a.n p q.0 q.1 q.2) in
    let h = rw (c.part.ensures.passage, from_here a.from, from_here a.to) at c.copy_bytes.ensures in
    let A = Z.1 _ _ (h.0, h.1) in
    A.0.0

pub copy_range_to_object_tree-requires-clause-room : goal.copy_range_to_object_tree-requires-clause-room
copy_range_to_object_tree-requires-clause-room c =
    let a = c.args.copier.now.between.passage in
    let v = c.args.work.now in
    let p = c.span_of-span.result in
    let q = c.span_of-span.ensures in
    let Z = copy_steps v.store.now v.pool.now a.source a.from a.object a.to a.n c.requires _ (span_is_lem a.from a.n p q.0 q.1 q.2) in
    let h = rw (c.part.ensures.passage, from_here a.from, from_here a.to) at c.copy_bytes.ensures in
    let A = Z.1 _ _ (h.0, h.1) in
    let f : c.from_offset.result.0 ≡ (a.from + p.head) / 4096 = c.from_offset.ensures in
    rw f A.0.4

pub invariant_of-work : goal.invariant_of-work
invariant_of-work c =
    let w = c.copy_bytes.new.work in
    record { inside = (c.copy_range_to_object_tree.ensures w.pool.now w.inside).inside }

pub copy_bytes-requires-2 : goal.copy_bytes-requires-2
copy_bytes-requires-2 c =
    let a = c.args.copier.now.between.passage in
    let v = c.args.work.now in
    let p = c.span_of-span.result in
    let q = c.span_of-span.ensures in
    let Z = copy_steps v.store.now v.pool.now a.source a.from a.object a.to a.n c.requires _ (span_is_lem a.from a.n p q.0 q.1 q.2) in
    let h = rw (c.part.ensures.passage, from_here a.from, from_here a.to) at c.copy_bytes.ensures in
    let A = Z.1 _ _ (h.0, h.1) in
    let f : c.from_offset.result.0 ≡ (a.from + p.head) / 4096 = c.from_offset.ensures in
    let g : c.from_offset-2.result.0 ≡ (a.to + p.head) / 4096 = c.from_offset-2.ensures in
    rw c.part-2.ensures.passage (A.1 _ (rw (f, g) at c.copy_range_to_object_tree.ensures)).0.0

pub returns : goal.returns
returns c =
    let a = c.args.copier.now.between.passage in
    let v = c.args.work.now in
    let p = c.span_of-span.result in
    let q = c.span_of-span.ensures in
    let Z = copy_steps v.store.now v.pool.now a.source a.from a.object a.to a.n c.requires _ (span_is_lem a.from a.n p q.0 q.1 q.2) in
    let h = rw (c.part.ensures.passage, from_here a.from, from_here a.to) at c.copy_bytes.ensures in
    let A = Z.1 _ _ (h.0, h.1) in
    let f : c.from_offset.result.0 ≡ (a.from + p.head) / 4096 = c.from_offset.ensures in
    let g : c.from_offset-2.result.0 ≡ (a.to + p.head) / 4096 = c.from_offset-2.ensures in
    let k = rw c.part-2.ensures.passage at c.copy_bytes-2.ensures in
    ((A.1 _ (rw (f, g) at c.copy_range_to_object_tree.ensures)).1 _ _ (k.0, k.1), same_both v c.copy_bytes.new.work c.copy_bytes-2.new.work h.2 k.2)
