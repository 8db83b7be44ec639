-- `in_place::overwrite_pages` meets its contract. The loop's invariant: the bytes of the parts so far are written, and the store is as it was.
use Rattle.std.proofs.Common.{◌≡◌, length}
use Rattle.writes.specs.Going.{Going}
use Rattle.in_place.proofs.overwrite_pages.Given as goal

abbrev pub invariant-loop-part : goal.invariant-loop-part
invariant-loop-part l = record {
  can_next : (goal.iterator-loop-part).can_next l.part-iterator;
  is_finite : (goal.iterator-loop-part).is_finite l.part-iterator;
  offset : l.part-iterator.offset ≡ l.offset;
  n : l.part-iterator.n ≡ length l.src;
  going : Going l.states.pages.store.now l.initial.pool l.object l.offset l.src l.part-iterator.done l.states.pages.store.now l.pool;
}
