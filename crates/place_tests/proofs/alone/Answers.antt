use Rattle.std.proofs.Common.{rules, [], ◌≡◌, arith, not, sym, ap, ◌∙◌}
use Rattle.chains.specs.Entries.{left_end, left_hit, left_low, left_next}
use Rattle.chains.specs.Falling.{left_falling}
use Rattle.store.specs.Sound.{alone?}
use Rattle.place_tests.specs.Alone.{apart_from, apart_stands, walk_alone}
use Rattle.place_tests.proofs.alone.Goals as goal

pub loop-earlier-init : goal.loop-earlier-init
loop-earlier-init c =
    record {
      can_next = tt;
      is_finite = tt;
      left = rw c.into_iter-earlier-iterator.ensures.into_iter_gives
          (left_falling c.args.chains.now.next (apart_from c.args.s.now.places c.args.f) c.args.f _ c.falling_before-earlier-items.result (omega (arith, c.requires.in_table)) (walk_alone c.args.s.now.places c.args.f c.requires.stands.1 c.args.chains.now.next c.requires.linked) c.falling_before-earlier-items.ensures);
    }

pub bounds-s-earlier : goal.bounds-s-earlier
bounds-s-earlier c =
    let r = c.requires.in_table in
    let l = left_low c.args.chains.now.next (apart_from c.args.s.now.places c.args.f) c.args.f c.in-Some.earlier _ (rw c.in-Some.ensures.steps at c.loop-earlier.invariant.left) in
    omega arith

pub offset_bounds-s-earlier : goal.offset_bounds-s-earlier
offset_bounds-s-earlier c =
    let r = c.requires.in_table in
    let l = left_low c.args.chains.now.next (apart_from c.args.s.now.places c.args.f) c.args.f c.in-Some.earlier _ (rw c.in-Some.ensures.steps at c.loop-earlier.invariant.left) in
    record { fits = omega arith }

pub returns-then-stands_at : goal.returns-then-stands_at
unfolding alone?
returns-then-stands_at c =
    left_hit c.args.chains.now.next (apart_from c.args.s.now.places c.args.f) c.args.f c.in-Some.earlier _ (rw c.in-Some.ensures.steps at c.loop-earlier.invariant.left)
    (apart_stands c.args.s.now.places c.args.f c.requires.stands.1 c.in-Some.earlier ∙ rw (← c.requires.stands.0) (ap not (sym c.stands_at.ensures ∙ c.if-stands_at.true)))

pub loop-earlier-preserved : goal.loop-earlier-preserved
loop-earlier-preserved c =
    record {
      can_next = tt;
      is_finite = tt;
      left = left_next c.args.chains.now.next (apart_from c.args.s.now.places c.args.f) c.args.f c.in-Some.earlier _ (rw c.in-Some.ensures.steps at c.loop-earlier.invariant.left)
          (apart_stands c.args.s.now.places c.args.f c.requires.stands.1 c.in-Some.earlier ∙ rw (← c.requires.stands.0) (ap not (sym c.stands_at.ensures ∙ c.if-stands_at.false)));
    }

pub returns : goal.returns
unfolding alone?
returns c =
    let e : c.loop-earlier.earlier-iterator ≡ [] = search rules in
    left_end c.args.chains.now.next (apart_from c.args.s.now.places c.args.f) c.args.f (rw e at c.loop-earlier.invariant.left)
