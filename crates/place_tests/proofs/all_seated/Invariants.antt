-- The ranges before `r` pass.
use Rattle.std.proofs.Common.{◌≡◌, true}
use Rattle.lists.specs.Every.{all_below}
use Rattle.place_tests.specs.Seats.{seated_at}
use Rattle.place_tests.proofs.all_seated.Given as goal

abbrev pub invariant-loop-r : goal.invariant-loop-r
invariant-loop-r l = all_below (seated_at l.s.ranges l.s.places l.s.frames) l.r-index ≡ true
