-- Which lines are answered so far, and what is left (`Done`). Nothing is put out only while the whole chunk is left, so a first turn is made.
use Rattle.std.proofs.Common.{◌≡◌, ◌≤◌, length}
use Rattle.console.specs.Answers.{Done}
use Rattle.console.proofs.Console.answer_lines.Given as goal

abbrev pub invariant-loop-end : goal.invariant-loop-end
invariant-loop-end l = record {
  left : length l.rest ≤ length l.chunk;
  fresh : length l.rest ≡ length l.chunk → length l.self.out.items ≡ 0;
  done : Done l.fn.self.store l.fn.self.pool.now l.fn.self.held.items l.chunk l.self.store l.self.pool.now l.self.held.items l.rest l.self.out.items;
}

abbrev pub decreases-loop-end : goal.decreases-loop-end
decreases-loop-end l = length l.rest
