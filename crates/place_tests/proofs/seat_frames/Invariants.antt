-- The frames before frame `first + k` pass, and are chained.
use Rattle.std.proofs.Common.{◌≡◌, ◌+◌}
use Rattle.store.specs.Abs.{used}
use Rattle.place_tests.specs.Placed.{Seated}
use Rattle.place_tests.proofs.seat_frames.Given as goal

abbrev pub invariant-loop-k : goal.invariant-loop-k
invariant-loop-k g l = record {
  seated : Seated l.s (l.first + l.k) l.chains;
  ranges : g.F.Finder.ranges l.finder ≡ used l.s;
}
