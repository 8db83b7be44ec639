-- `add_page` meets its contract: the spot is the added page's, the frame the highest free one.
use Rattle.std.proofs.Common.{refl, sym, subst}
use Rattle.pages.specs.declared.Spot.{Spot}
use Rattle.pages.specs.Inside.{inside_table}
use Rattle.pages.specs.Settling.{Placed, frame_below, next_frame}
use Rattle.pages.specs.Added.{spot_lodged}
use Rattle.pages.specs.Leaving.{spot_gentle}
use Rattle.pages.specs.Steps.{add_stepped, added_inside, frame_inside}
use Rattle.pages.specs.Any.{inside_zeros}
use Rattle.page_steps.proofs.work.Work.add_page.Goals as goal

pub spot_of-q-requires : goal.spot_of-q-requires
spot_of-q-requires c = let v = c.args.self.now in inside_table v.store.now v.pool.now v.inside

pub settle_next-f-requires-clause-lodged : goal.settle_next-f-requires-clause-lodged
settle_next-f-requires-clause-lodged c =
    let a = c.args.address in
    let v = c.args.self.now in
    let s = v.store.now in
    let x = v.pool.now in
    let e = c.spot_of-q.ensures in
    (inside_zeros s x v.inside, rw e (spot_lodged s x v.inside a.object a.page.0 a.in_object), rw e (spot_gentle s x v.inside a.object a.page.0))

pub invariant_of-self : goal.invariant_of-self
invariant_of-self c =
    let a = c.args.address in
    let v = c.args.self.now in
    let F = c.settle_next-f in
    let P = subst (λ (k : Spot). Placed v.store.now k F.result F.new.s) c.spot_of-q.ensures F.ensures.1 in
    record { inside = added_inside v.store.now v.pool.now v.inside a.object a.page.0 a.in_object F.result F.ensures.0 F.new.s P }

pub zero_frame-requires : goal.zero_frame-requires
zero_frame-requires c =
    let v = c.args.self.now in
    let F = c.settle_next-f in
    frame_inside v.store.now v.pool.now v.inside F.result (frame_below v.store.now v.pool.now v.inside F.result F.ensures.0)

pub invariant_of-self-2 : goal.invariant_of-self-2
invariant_of-self-2 c =
    let a = c.args.address in
    let v = c.args.self.now in
    let F = c.settle_next-f in
    let P = subst (λ (k : Spot). Placed v.store.now k F.result F.new.s) c.spot_of-q.ensures F.ensures.1 in
    record { inside = (add_stepped v.store.now v.pool.now v.inside a.object a.page.0 a.in_object F.result F.ensures.0 F.new.s _ P c.zero_frame.ensures).inside }

pub returns : goal.returns
returns c =
    let a = c.args.address in
    let v = c.args.self.now in
    let F = c.settle_next-f in
    let P = subst (λ (k : Spot). Placed v.store.now k F.result F.new.s) c.spot_of-q.ensures F.ensures.1 in (
      (add_stepped v.store.now v.pool.now v.inside a.object a.page.0 a.in_object F.result F.ensures.0 F.new.s _ P c.zero_frame.ensures, (refl, refl)),
      sym (next_frame v.store.now v.pool.now v.inside F.result F.ensures.0),
    )
