-- `page_writes::write_pages` meets its contract: the loop of a write, page after page.
use Rattle.std.proofs.Common.{◌≡◌, length}
use Rattle.writes.specs.Going.{Going}
use Rattle.page_steps.specs.Lent.{Same}
use Rattle.page_writes.proofs.write_pages.Given as goal

abbrev pub invariant-loop-part : goal.invariant-loop-part
invariant-loop-part l = record {
  can_next : (goal.iterator-loop-part).can_next l.part-iterator;
  is_finite : (goal.iterator-loop-part).is_finite l.part-iterator;
  offset : l.part-iterator.offset ≡ l.offset;
  n : l.part-iterator.n ≡ length l.src;
  going : Going l.initial.work.store.now l.initial.work.pool.now l.object l.offset l.src l.part-iterator.done l.work.store.now l.work.pool.now;
  same : Same l.initial.work l.work;
}
