-- `console::Console::finish`: the line is what is held and the part, cut; where nothing is held, it is the part (`spoke_whole`).
use Rattle.std.proofs.Common.{rules}
use Rattle.console.specs.Answers.{spoke_whole}
use Rattle.console.proofs.Console.finish.Goals as goal

pub returns-then-is_empty-clause-spoke : goal.returns-then-is_empty-clause-spoke
returns-then-is_empty-clause-spoke c = spoke_whole _ _ _ _ _ _ _ _ _ (search rules) c.min-n.ensures c.speak.ensures
