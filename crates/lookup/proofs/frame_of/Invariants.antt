-- `lookup::frame_of` meets its contract. The walk has the rest of the chain of the place before it.
use Rattle.chains.specs.Entries.{Left}
use Rattle.lookup.specs.Charted.{lacks}
use Rattle.lookup.proofs.frame_of.Given as goal

abbrev pub invariant-loop-frame : goal.invariant-loop-frame
invariant-loop-frame l = record {
  can_next : (goal.iterator-loop-frame).can_next l.frame-iterator;
  is_finite : (goal.iterator-loop-frame).is_finite l.frame-iterator;
  left : Left l.charts.frames.next (lacks l.s.places l.backing l.index) l.s.frames l.frame-iterator;
}
