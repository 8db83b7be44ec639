use Rattle.std.proofs.Common.{[], ◌∙◌, ◌≡◌, arith, length, sym, rules}
use Rattle.lookup.specs.Holders.{holders_private, holders_shared, left_falling, left_few, left_low, left_miss, left_one, left_two}
use Rattle.lookup.proofs.sharing.Goals as goal

pub loop-slot-init : goal.loop-slot-init
loop-slot-init c =
    let s = c.args.store.now in
    let t = c.requires.1 in
    record {
      can_next = tt;
      is_finite = tt;
      left = rw c.into_iter-slot-iterator.ensures.into_iter_gives
          (left_falling s.ranges s.count c.args.charts.now.ranges c.args.backing c.requires.0 (omega arith) c.falling-slot-items.result (rw c.chain_by.ensures at c.falling-slot-items.ensures));
    }

pub bounds-store-slot : goal.bounds-store-slot
bounds-store-slot c =
    let s = c.args.store.now in
    let t = c.requires.1 in
    let l = left_low s.ranges s.count c.args.charts.now.ranges c.args.backing c.loop-slot.met c.in-Some.slot _ (rw c.in-Some.ensures.steps at c.loop-slot.invariant.left) in
    omega arith

pub offset_bounds-store-slot : goal.offset_bounds-store-slot
offset_bounds-store-slot c =
    let s = c.args.store.now in
    let t = c.requires.1 in
    let l = left_low s.ranges s.count c.args.charts.now.ranges c.args.backing c.loop-slot.met c.in-Some.slot _ (rw c.in-Some.ensures.steps at c.loop-slot.invariant.left) in
    record { fits = omega arith }

pub returns-then-met : goal.returns-then-met
returns-then-met c =
    let s = c.args.store.now in
    let t = c.requires.1 in
    let n : length s.ranges ≡ 512 = search rules in
    let l = left_low s.ranges s.count c.args.charts.now.ranges c.args.backing c.loop-slot.met c.in-Some.slot _ (rw c.in-Some.ensures.steps at c.loop-slot.invariant.left) in
    holders_shared s c.args.backing
    (left_two s.ranges s.count c.args.charts.now.ranges c.args.backing c.loop-slot.met c.in-Some.slot _ (rw c.in-Some.ensures.steps at c.loop-slot.invariant.left)
    (omega arith) (sym c.number.ensures ∙ c.if-number-backing.true) c.if-met.true)

pub loop-slot-preserved-then-number-backing : goal.loop-slot-preserved-then-number-backing
loop-slot-preserved-then-number-backing c =
    let s = c.args.store.now in
    let t = c.requires.1 in
    let n : length s.ranges ≡ 512 = search rules in
    let l = left_low s.ranges s.count c.args.charts.now.ranges c.args.backing c.loop-slot.met c.in-Some.slot _ (rw c.in-Some.ensures.steps at c.loop-slot.invariant.left) in
    record {
      can_next = tt;
      is_finite = tt;
      left = left_one s.ranges s.count c.args.charts.now.ranges c.args.backing c.loop-slot.met c.in-Some.slot _ (rw c.in-Some.ensures.steps at c.loop-slot.invariant.left)
          (omega arith) (sym c.number.ensures ∙ c.if-number-backing.true) c.if-met.false;
    }

pub loop-slot-preserved : goal.loop-slot-preserved
loop-slot-preserved c =
    let s = c.args.store.now in
    record {
      can_next = tt;
      is_finite = tt;
      left = left_miss s.ranges s.count c.args.charts.now.ranges c.args.backing c.loop-slot.met c.in-Some.slot _ (rw c.in-Some.ensures.steps at c.loop-slot.invariant.left)
          (λ e. c.if-number-backing.false (c.number.ensures ∙ e));
    }

pub returns : goal.returns
returns c =
    let s = c.args.store.now in
    let e : c.loop-slot.slot-iterator ≡ [] = search rules in
    holders_private s c.args.backing (left_few s.ranges s.count c.args.charts.now.ranges c.args.backing c.loop-slot.met (rw e at c.loop-slot.invariant.left))
