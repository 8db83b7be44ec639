-- The loop's invariant: the places before `p` are trimmed.
use Rattle.std.proofs.Common.{◌≡◌}
use Rattle.lists.specs.Mapped.{mapped}
use Rattle.trimming.specs.Trimming.{kept_covered}
use Rattle.trimming.proofs.trim_covered.Given as goal

abbrev pub invariant-loop-p : goal.invariant-loop-p
invariant-loop-p l = l.places ≡ mapped (kept_covered l.cover) l.initial.places l.p-index
