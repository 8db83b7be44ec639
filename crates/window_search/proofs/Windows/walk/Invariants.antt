-- The walk has the rest of the chain of the place's backing before it.
use Rattle.std.proofs.Common.{length}
use Rattle.chains.specs.Entries.{Left}
use Rattle.window_search.specs.Windows.{outside}
use Rattle.window_search.proofs.Windows.walk.Given as goal

abbrev pub invariant-loop-i : goal.invariant-loop-i
invariant-loop-i l = record {
  can_next : (goal.iterator-loop-i).can_next l.i-iterator;
  is_finite : (goal.iterator-loop-i).is_finite l.i-iterator;
  left : Left l.self.chains.now.next (outside l.self.ranges.now l.place) (length l.self.ranges.now) l.i-iterator;
}
