-- The loop's invariant: the intervals are those of the windows of the ranges before `r`.
use Rattle.window_cover.specs.Intervals.{CoversSized}
use Rattle.window_cover.proofs.Cover.fill.Given as goal

abbrev pub invariant-loop-r : goal.invariant-loop-r
invariant-loop-r l = CoversSized l.ranges l.r-index l.self
