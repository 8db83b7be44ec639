-- The loop's invariant: the places before `p` are counted.
use Rattle.std.proofs.Common.{◌≡◌, count_by, take}
use Rattle.places.specs.Places.{is_vacant}
use Rattle.freeing.proofs.vacant_frames.Given as goal

abbrev pub invariant-loop-p : goal.invariant-loop-p
invariant-loop-p l = l.vacant ≡ count_by is_vacant (take l.p-index l.places)
