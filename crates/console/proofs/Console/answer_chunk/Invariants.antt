-- The lines answered so far (`Upto`); `answer_lines` goes on.
use Rattle.std.proofs.Common.{length}
use Rattle.console.specs.Answers.{Upto}
use Rattle.console.proofs.Console.answer_chunk.Given as goal

abbrev pub invariant-loop-rest : goal.invariant-loop-rest
invariant-loop-rest l = Upto l.initial.self.store l.initial.self.pool.now l.initial.self.held.items l.chunk l.self.store l.self.pool.now l.self.held.items l.rest

abbrev pub decreases-loop-rest : goal.decreases-loop-rest
decreases-loop-rest l = length l.rest
