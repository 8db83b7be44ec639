-- The walk has the rest of the chain before it.
use Rattle.chains.specs.Entries.{Left}
use Rattle.place_tests.specs.Alone.{apart_from}
use Rattle.place_tests.proofs.alone.Given as goal

abbrev pub invariant-loop-earlier : goal.invariant-loop-earlier
invariant-loop-earlier l = record {
  can_next : (goal.iterator-loop-earlier).can_next l.earlier-iterator;
  is_finite : (goal.iterator-loop-earlier).is_finite l.earlier-iterator;
  left : Left l.chains.next (apart_from l.s.places l.f) l.f l.earlier-iterator;
}
