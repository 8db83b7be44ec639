-- The loop's invariant: no interval has the place, in the chain of its block of one of the sizes before `size`.
use Rattle.window_cover.specs.Intervals.{Missed}
use Rattle.window_cover.proofs.Cover.find.Given as goal

abbrev pub invariant-loop-size : goal.invariant-loop-size
invariant-loop-size l = Missed l.self l.place l.size-index
