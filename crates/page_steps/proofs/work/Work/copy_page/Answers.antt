-- `copy_page` meets its contract: the page gets a range and a frame of its own, with a copy of its bytes.
use Rattle.std.proofs.Common.{refl, subst}
use Rattle.pages.specs.declared.Spot.{Spot}
use Rattle.pages.specs.Settling.{Placed, frame_below}
use Rattle.pages.specs.Added.{own_lodged}
use Rattle.pages.specs.Leaving.{own_gentle}
use Rattle.pages.specs.Steps.{copied_inside, copy_stepped, frame_inside}
use Rattle.pages.specs.Any.{inside_zeros}
use Rattle.page_steps.proofs.work.Work.copy_page.Goals as goal

pub settle_next-f-requires-clause-lodged : goal.settle_next-f-requires-clause-lodged
settle_next-f-requires-clause-lodged c =
    let a = c.args.address in
    let v = c.args.self.now in
    let s = v.store.now in
    let x = v.pool.now in
    let e = c.own_spot-q.ensures in
    (inside_zeros s x v.inside, rw e (own_lodged s x v.inside a.object a.page.0 a.in_object), rw e (own_gentle s x v.inside a.object a.page.0))

pub invariant_of-self : goal.invariant_of-self
invariant_of-self c =
    let a = c.args.address in
    let v = c.args.self.now in
    let H = c.requires.present in
    let F = c.settle_next-f in
    let P = subst (λ (k : Spot). Placed v.store.now k F.result F.new.s) c.own_spot-q.ensures F.ensures.1 in
    record { inside = copied_inside v.store.now v.pool.now v.inside a.object a.page.0 a.in_object F.result F.ensures.0 F.new.s c.args.from H.0 H.1 P }

pub copy_frame-requires : goal.copy_frame-requires
copy_frame-requires c =
    let v = c.args.self.now in
    let s = v.store.now in
    let x = v.pool.now in
    let F = c.settle_next-f in
    (frame_inside s x v.inside F.result (frame_below s x v.inside F.result F.ensures.0), frame_inside s x v.inside c.args.from c.requires.present.0.has.below)

pub invariant_of-self-2 : goal.invariant_of-self-2
invariant_of-self-2 c =
    let a = c.args.address in
    let v = c.args.self.now in
    let H = c.requires.present in
    let F = c.settle_next-f in
    let P = subst (λ (k : Spot). Placed v.store.now k F.result F.new.s) c.own_spot-q.ensures F.ensures.1 in
    record { inside = (copy_stepped v.store.now v.pool.now v.inside a.object a.page.0 a.in_object F.result F.ensures.0 F.new.s _ c.args.from H.0 H.1 P c.copy_frame.ensures).inside }

pub returns : goal.returns
returns c =
    let a = c.args.address in
    let v = c.args.self.now in
    let H = c.requires.present in
    let F = c.settle_next-f in
    let P = subst (λ (k : Spot). Placed v.store.now k F.result F.new.s) c.own_spot-q.ensures F.ensures.1 in
    (copy_stepped v.store.now v.pool.now v.inside a.object a.page.0 a.in_object F.result F.ensures.0 F.new.s _ c.args.from H.0 H.1 P c.copy_frame.ensures, (refl, refl))
