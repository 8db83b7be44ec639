use Rattle.std.proofs.Common.{rules, [], ◌≡◌, ◌+◌, true, sym, ◌∙◌, arith}
use Rattle.lists.specs.Every.{all_below}
use Rattle.chains.specs.Entries.{left_end, left_hit, left_low, left_next, left_same}
use Rattle.chains.specs.Falling.{left_falling}
use Rattle.range_tests.specs.Agree.{alike_to, same_agrees, walk_agree}
use Rattle.range_tests.proofs.agrees.Goals as goal

pub loop-j-init : goal.loop-j-init
loop-j-init c =
    record {
      can_next = tt;
      is_finite = tt;
      left = rw c.into_iter-j-iterator.ensures.into_iter_gives
          (left_falling c.args.chains.now.next (alike_to c.args.s.now.ranges c.args.i) c.args.i _ c.falling_before-j-items.result (omega (arith, c.requires.in_table))
          (walk_agree c.args.s.now.ranges c.args.chains.now.next (c.args.i + 1) c.args.i c.requires.linked (omega arith)) c.falling_before-j-items.ensures);
    }

pub bounds-s-j : goal.bounds-s-j
bounds-s-j c =
    let r = c.requires.in_table in
    let l = left_low c.args.chains.now.next (alike_to c.args.s.now.ranges c.args.i) c.args.i c.in-Some.j _ (rw c.in-Some.ensures.steps at c.loop-j.invariant.left) in
    omega arith

pub offset_bounds-s-j : goal.offset_bounds-s-j
offset_bounds-s-j c =
    let r = c.requires.in_table in
    let l = left_low c.args.chains.now.next (alike_to c.args.s.now.ranges c.args.i) c.args.i c.in-Some.j _ (rw c.in-Some.ensures.steps at c.loop-j.invariant.left) in
    record { fits = omega arith }

pub returns-then-eq : goal.returns-then-eq
returns-then-eq c =
    let l = left_low c.args.chains.now.next (alike_to c.args.s.now.ranges c.args.i) c.args.i c.in-Some.j _ (rw c.in-Some.ensures.steps at c.loop-j.invariant.left) in
    let q : all_below (alike_to c.args.s.now.ranges c.args.i) (c.in-Some.j + 1) ≡ true =
    same_agrees c.args.s.now.ranges c.args.i c.in-Some.j l c.requires.before (search rules) in
    sym q ∙ left_same c.args.chains.now.next (alike_to c.args.s.now.ranges c.args.i) c.args.i c.in-Some.j _ (rw c.in-Some.ensures.steps at c.loop-j.invariant.left)

pub returns-then-not-same_kind : goal.returns-then-not-same_kind
returns-then-not-same_kind c = left_hit c.args.chains.now.next (alike_to c.args.s.now.ranges c.args.i) c.args.i c.in-Some.j _ (rw c.in-Some.ensures.steps at c.loop-j.invariant.left) (search rules)

pub loop-j-preserved : goal.loop-j-preserved
loop-j-preserved c =
    record {
      can_next = tt;
      is_finite = tt;
      left = left_next c.args.chains.now.next (alike_to c.args.s.now.ranges c.args.i) c.args.i c.in-Some.j _ (rw c.in-Some.ensures.steps at c.loop-j.invariant.left) (search rules);
    }

pub returns : goal.returns
returns c =
    let e : c.loop-j.j-iterator ≡ [] = search rules in
    left_end c.args.chains.now.next (alike_to c.args.s.now.ranges c.args.i) c.args.i (rw e at c.loop-j.invariant.left)
