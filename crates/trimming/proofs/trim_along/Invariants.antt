-- The loop's invariant: the first `f` places are trimmed.
use Rattle.std.proofs.Common.{◌≡◌}
use Rattle.lists.specs.Mapped.{mapped}
use Rattle.trimming.specs.Trimming.{kept}
use Rattle.trimming.proofs.trim_along.Given as goal

abbrev pub invariant-loop-f : goal.invariant-loop-f
invariant-loop-f l = l.places ≡ mapped (kept l.windows.ranges.now) l.initial.places l.f-counter
