-- The loop's invariant: the ranges before `r` are turned into their parts.
use Rattle.std.proofs.Common.{◌≡◌}
use Rattle.lists.specs.Mapped.{mapped}
use Rattle.shares.specs.Moved.{moved_range}
use Rattle.whole_pages.proofs.move_parts.Given as goal

abbrev pub invariant-loop-r : goal.invariant-loop-r
invariant-loop-r l = let t = l.stretch in l.ranges ≡ mapped (moved_range t.first t.end t.object t.to.0) l.initial.ranges l.r-index
