-- The loop's invariant: the chains of the first `i` ranges are made.
use Rattle.std.proofs.Common.{◌≡◌, length}
use Rattle.charts.specs.Charts.{RangeChains}
use Rattle.window_search.proofs.chains_of.Given as goal

abbrev pub invariant-loop-i : goal.invariant-loop-i
invariant-loop-i l = record { heads : length l.chains.heads ≡ 1024; next : length l.chains.next ≡ 1024; chained : RangeChains l.ranges l.i l.chains }
