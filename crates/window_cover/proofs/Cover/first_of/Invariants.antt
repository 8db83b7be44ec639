-- The loop's invariant: no interval of the chain before the entries that are left passes the test.
use Rattle.window_cover.specs.Intervals.{AheadFalling}
use Rattle.window_cover.proofs.Cover.first_of.Given as goal

abbrev pub invariant-loop-i : goal.invariant-loop-i
invariant-loop-i g l = record {
  can_next : (goal.iterator-loop-i g).can_next l.i-iterator;
  is_finite : (goal.iterator-loop-i g).is_finite l.i-iterator;
  ahead : AheadFalling (λ a t. g.F.Fn.post l.test (a, tt) t) l.self l.h l.i-iterator;
}
