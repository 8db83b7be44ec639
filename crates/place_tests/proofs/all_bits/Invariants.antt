-- The frames of the words below `i` pass.
use Rattle.std.proofs.Common.{◌≡◌, true, ◌*◌}
use Rattle.lists.specs.Every.{all_below}
use Rattle.place_tests.specs.Bits.{kept?}
use Rattle.place_tests.proofs.all_bits.Given as goal

abbrev pub invariant-loop-i : goal.invariant-loop-i
invariant-loop-i l = all_below (kept? l.s.frames l.s.places l.s.free) (l.i * 64) ≡ true
