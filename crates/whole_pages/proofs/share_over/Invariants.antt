-- `share_over` meets its contract: the ranges of the table at the start, as far as the loop has come, are shared.
use Prim.Native.Nat.{◌+◌}
use Rattle.shares.specs.Sharing.{Sharing}
use Rattle.shares.specs.Tidied.{tidied}
use Rattle.whole_pages.proofs.share_over.Given as goal

abbrev pub invariant-loop-r : goal.invariant-loop-r
invariant-loop-r l = let t = l.stretch in Sharing l.initial.s t.first t.end t.object t.to.0 (l.start + l.r-index) (tidied l.s)
