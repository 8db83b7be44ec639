use Rattle.std.proofs.Common.{◌≡◌, List, [], length, ap, arith, rules}
use Rattle.window_cover.specs.declared.Interval.{Interval}
use Rattle.window_cover.specs.Intervals.{falling_start, falling_next, falling_hit, falling_low, falling_ended}
use Rattle.window_cover.proofs.Cover.first_of.Goals as goal

pub loop-i-init : goal.loop-i-init
loop-i-init g c =
    record {
      can_next = tt;
      is_finite = tt;
      ahead = rw c.into_iter-i-iterator.ensures.into_iter_gives (falling_start _ c.args.self.now c.args.h c.falling-i-items.result c.requires.in_heads c.falling-i-items.ensures);
    }

pub returns-in_err-get-clause-first : goal.returns-in_err-get-clause-first
returns-in_err-get-clause-first g c = λ chain F.
    let l = falling_low _ c.args.self.now c.args.h c.in-Some.i _ (rw c.in-Some.ensures.steps at c.loop-i.invariant.ahead) chain F in
    let n = ap (λ (s : List Interval). length s) c.as_slice-intervals.ensures.value in
    absurd (omega (arith, l, n, c.in_err-get.ensures.lookup.3))

pub returns-then-call-clause-first : goal.returns-then-call-clause-first
returns-then-call-clause-first g c =
    let e = (c.in_ok-get.ensures.lookup.3).1 (record { backing = 0; first = 0; end = 0 }) in
    falling_hit _ c.args.self.now c.args.h c.in-Some.i _ (rw c.in-Some.ensures.steps at c.loop-i.invariant.ahead) (rw (e, c.as_slice-intervals.ensures.value) at c.if-call.ensures)

pub loop-i-preserved : goal.loop-i-preserved
loop-i-preserved g c =
    let e = (c.in_ok-get.ensures.lookup.3).1 (record { backing = 0; first = 0; end = 0 }) in
    record {
      can_next = tt;
      is_finite = tt;
      ahead = falling_next _ c.args.self.now c.args.h c.in-Some.i _ (rw c.in-Some.ensures.steps at c.loop-i.invariant.ahead)
          (λ l. rw (e, c.as_slice-intervals.ensures.value) at c.if-call.ensures);
    }

pub returns-clause-first : goal.returns-clause-first
returns-clause-first g c =
    let e : c.loop-i.i-iterator ≡ [] = search rules in
    falling_ended _ c.args.self.now c.args.h (rw e at c.loop-i.invariant.ahead)
