-- `console::Console::answer_last`: nothing held (`last_none`), or what is held is a line (`last_some`).
use Rattle.std.proofs.Common.{rules}
use Rattle.console.specs.Answers.{last_none, last_some}
use Rattle.console.proofs.Console.answer_last.Goals as goal

pub returns-then-not-is_empty : goal.returns-then-not-is_empty
returns-then-not-is_empty c = last_some _ _ _ _ _ _ (search rules) (rw (← c.deref.ensures.0, ← c.clear.ensures) c.speak.ensures)

pub returns-else-not-is_empty : goal.returns-else-not-is_empty
returns-else-not-is_empty c = rw c.clear.ensures (last_none _ _ _ (search rules))
