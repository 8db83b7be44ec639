use Rattle.std.proofs.Common.{ap, sym, ◌∙◌, [], not, arith, rules, length, ◌≡◌}
use Rattle.chains.specs.Entries.{left_end, left_next}
use Rattle.chains.specs.Falling.{left_falling}
use Rattle.window_search.specs.Windows.{in_table, met_none, outside, walk_windows}
use Rattle.window_search.proofs.Windows.walk.Goals as goal

pub loop-i-init : goal.loop-i-init
loop-i-init c =
    let s = c.args.self.now in
    let p = c.args.place in
    record {
      can_next = tt;
      is_finite = tt;
      left = rw c.into_iter-i-iterator.ensures.into_iter_gives
          (left_falling s.chains.now.next (outside s.ranges.now p) (length s.ranges.now) _ c.falling-i-items.result (omega (arith, s.few))
          (rw c.chain_by.ensures (walk_windows s.ranges.now (length s.ranges.now) s.chains.now s.chained p)) c.falling-i-items.ensures);
    }

pub returns-then-has : goal.returns-then-has
returns-then-has c =
    let s = c.args.self.now in
    let e = sym c.has.ensures ∙ c.if-has.true in
    (in_table s.ranges.now c.args.place c.in-Some.i e, e)

pub loop-i-preserved : goal.loop-i-preserved
loop-i-preserved c =
    let s = c.args.self.now in
    record {
      can_next = tt;
      is_finite = tt;
      left = left_next s.chains.now.next (outside s.ranges.now c.args.place) (length s.ranges.now) c.in-Some.i _
          (rw c.in-Some.ensures.steps at c.loop-i.invariant.left) (ap not (sym c.has.ensures ∙ c.if-has.false));
    }

pub returns : goal.returns
returns c =
    let s = c.args.self.now in
    let e : c.loop-i.i-iterator ≡ [] = search rules in
    met_none s.ranges.now c.args.place (sym (left_end s.chains.now.next (outside s.ranges.now c.args.place) (length s.ranges.now) (rw e at c.loop-i.invariant.left)))
