-- The walk has the rest of the chain before it. A range of the very backing agrees with all before it, and so then does range `i`.
use Rattle.chains.specs.Entries.{Left}
use Rattle.range_tests.specs.Agree.{alike_to}
use Rattle.range_tests.proofs.agrees.Given as goal

abbrev pub invariant-loop-j : goal.invariant-loop-j
invariant-loop-j l = record {
  can_next : (goal.iterator-loop-j).can_next l.j-iterator;
  is_finite : (goal.iterator-loop-j).is_finite l.j-iterator;
  left : Left l.chains.next (alike_to l.s.ranges l.i) l.i l.j-iterator;
}
