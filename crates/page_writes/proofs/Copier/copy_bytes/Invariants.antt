-- `copy_bytes` meets its contract: the loop of a write, page after page, of what is read of the source.
use Rattle.std.proofs.Common.{◌≡◌}
use Rattle.moves.specs.Copying.{Copying}
use Rattle.page_steps.specs.Lent.{Same}
use Rattle.page_writes.proofs.Copier.copy_bytes.Given as goal

abbrev pub invariant-loop-part : goal.invariant-loop-part
invariant-loop-part l = record {
  can_next : (goal.iterator-loop-part).can_next l.part-iterator;
  is_finite : (goal.iterator-loop-part).is_finite l.part-iterator;
  offset : l.part-iterator.offset ≡ l.self.between.passage.to;
  n : l.part-iterator.n ≡ l.self.between.passage.n;
  copying : Copying l.initial.work.store.now l.initial.work.pool.now l.self.between.passage.source l.self.between.passage.from l.self.between.passage.object l.self.between.passage.to l.self.between.passage.n l.part-iterator.done l.work.store.now l.work.pool.now;
  same : Same l.initial.work l.work;
}
