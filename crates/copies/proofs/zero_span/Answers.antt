-- `copies::zero_span` meets its contract: head, whole pages and tail, one after the other.
use Rattle.std.proofs.Common.{◌≡◌, ◌+◌, ◌/◌}
use Rattle.refusals.specs.Spans.{span_is_lem}
use Rattle.page_steps.specs.Lent.{same_both}
use Rattle.copies.specs.Spans.{zero_steps}
use Rattle.copies.proofs.zero_span.Goals as goal

pub clear_page-requires : goal.clear_page-requires
clear_page-requires c =
    let a = c.args.extent in
    let p = c.span_of-span.result in
    let q = c.span_of-span.ensures in
    let Z = zero_steps c.args.work.now.store.now c.args.work.now.pool.now a.object a.offset a.n c.requires _ (span_is_lem a.offset a.n p q.0 q.1 q.2) in
    let h = Z.0 in
    (h.1, h.2, h.3)

pub uncover-requires : goal.uncover-requires
uncover-requires c =
    let a = c.args.extent in
    let p = c.span_of-span.result in
    let q = c.span_of-span.ensures in
    let Z = zero_steps c.args.work.now.store.now c.args.work.now.pool.now a.object a.offset a.n c.requires _ (span_is_lem a.offset a.n p q.0 q.1 q.2) in
    let f : c.from_offset.result.0 ≡ (a.offset + p.head) / 4096 = c.from_offset.ensures in
    rw f (Z.1 _ _ c.clear_page.ensures.0).0

pub invariant_of-work : goal.invariant_of-work
invariant_of-work c =
    let a = c.args.extent in
    let p = c.span_of-span.result in
    let q = c.span_of-span.ensures in
    let Z = zero_steps c.args.work.now.store.now c.args.work.now.pool.now a.object a.offset a.n c.requires _ (span_is_lem a.offset a.n p q.0 q.1 q.2) in
    let f : c.from_offset.result.0 ≡ (a.offset + p.head) / 4096 = c.from_offset.ensures in
    record { inside = ((Z.1 _ _ c.clear_page.ensures.0).1 _ (rw f at c.uncover.ensures)).0.0 }

pub clear_page-requires-2 : goal.clear_page-requires-2
clear_page-requires-2 c =
    let a = c.args.extent in
    let p = c.span_of-span.result in
    let q = c.span_of-span.ensures in
    let Z = zero_steps c.args.work.now.store.now c.args.work.now.pool.now a.object a.offset a.n c.requires _ (span_is_lem a.offset a.n p q.0 q.1 q.2) in
    let f : c.from_offset.result.0 ≡ (a.offset + p.head) / 4096 = c.from_offset.ensures in
    let h = ((Z.1 _ _ c.clear_page.ensures.0).1 _ (rw f at c.uncover.ensures)).0 in
    (h.1, h.2, h.3)

pub returns : goal.returns
returns c =
    let a = c.args.extent in
    let p = c.span_of-span.result in
    let q = c.span_of-span.ensures in
    let Z = zero_steps c.args.work.now.store.now c.args.work.now.pool.now a.object a.offset a.n c.requires _ (span_is_lem a.offset a.n p q.0 q.1 q.2) in
    let f : c.from_offset.result.0 ≡ (a.offset + p.head) / 4096 = c.from_offset.ensures in
    let v = c.args.work.now in
    let w = c.clear_page.new.self in
    (((Z.1 _ _ c.clear_page.ensures.0).1 _ (rw f at c.uncover.ensures)).1 _ _ c.clear_page-2.ensures.0, same_both v w c.clear_page-2.new.self c.clear_page.ensures.1 c.clear_page-2.ensures.1)
