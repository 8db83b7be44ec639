-- `lookup::sharing` meets its contract. The walk has the rest of the chain of the backing before it, and `met` says whether a holder was met.
use Rattle.lookup.specs.Holders.{MeetsLeft}
use Rattle.lookup.proofs.sharing.Given as goal

abbrev pub invariant-loop-slot : goal.invariant-loop-slot
invariant-loop-slot l = record {
  can_next : (goal.iterator-loop-slot).can_next l.slot-iterator;
  is_finite : (goal.iterator-loop-slot).is_finite l.slot-iterator;
  left : MeetsLeft l.store.ranges l.store.count l.charts.ranges l.backing l.met l.slot-iterator;
}
