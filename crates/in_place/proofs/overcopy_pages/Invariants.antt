-- `in_place::overcopy_pages` meets its contract. The loop's invariant: the bytes of the parts so far are copied, and the store is as it was.
use Rattle.std.proofs.Common.{◌≡◌}
use Rattle.moves.specs.Copying.{Copying}
use Rattle.in_place.proofs.overcopy_pages.Given as goal

abbrev pub invariant-loop-part : goal.invariant-loop-part
invariant-loop-part l = record {
  can_next : (goal.iterator-loop-part).can_next l.part-iterator;
  is_finite : (goal.iterator-loop-part).is_finite l.part-iterator;
  offset : l.part-iterator.offset ≡ l.passage.to;
  n : l.part-iterator.n ≡ l.passage.n;
  copying : Copying l.states.pages.store.now l.initial.pool l.passage.source l.passage.from l.passage.object l.passage.to l.passage.n l.part-iterator.done l.states.pages.store.now l.pool;
}
