-- The ranges below `i` pass, and are chained.
use Rattle.std.proofs.Common.{◌≡◌, true}
use Rattle.lists.specs.Every.{all_below}
use Rattle.charts.specs.Charts.{chain_by}
use Rattle.range_tests.specs.Agree.{alike_to}
use Rattle.range_tests.specs.Chaining.{Charted}
use Rattle.range_tests.specs.Fit.{fitting_at}
use Rattle.range_tests.proofs.chain_ranges.Given as goal

abbrev pub invariant-loop-i : goal.invariant-loop-i
invariant-loop-i l = record {
  charted : Charted (chain_by l.s.ranges) l.i l.chains;
  agree : all_below (λ j. all_below (alike_to l.s.ranges j) j) l.i ≡ true;
  fit : all_below (fitting_at l.s.ranges) l.i ≡ true;
}
