-- The ranges from `r` on rise exactly if all do.
use Rattle.std.proofs.Common.{◌≡◌, drop}
use Rattle.range_tests.specs.Shape.{rises?}
use Rattle.range_tests.proofs.rise.Given as goal

abbrev pub invariant-loop-r : goal.invariant-loop-r
invariant-loop-r l = rises? l.live l.low (drop l.r-index l.ranges) ≡ rises? l.live 0 l.ranges
