-- The walk has the rest of the chain of the place before it.
use Rattle.chains.specs.Entries.{Left}
use Rattle.place_tests.specs.Seats.{missing}
use Rattle.place_tests.proofs.Frames.stands.Given as goal

abbrev pub invariant-loop-frame : goal.invariant-loop-frame
invariant-loop-frame l = record {
  can_next : (goal.iterator-loop-frame).can_next l.frame-iterator;
  is_finite : (goal.iterator-loop-frame).is_finite l.frame-iterator;
  left : Left l.self.chains.now.next (missing l.self.s.now.places l.backing) l.self.s.now.frames l.frame-iterator;
}
