-- The frames of the words before `word` pass, and are chained.
use Rattle.std.proofs.Common.{◌≡◌, ◌*◌, min}
use Rattle.store.specs.Abs.{used}
use Rattle.place_tests.specs.Placed.{Seated}
use Rattle.place_tests.proofs.seat_words.Given as goal

abbrev pub invariant-loop-i : goal.invariant-loop-i
invariant-loop-i l = record {
  seated : Seated l.s (min l.s.frames (l.i * 64)) l.chains;
  ranges : l.seeking.windows.ranges.now ≡ used l.s;
}
