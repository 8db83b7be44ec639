use Rattle.std.proofs.Common.{rules}
use Rattle.console.specs.Answers.{upto_none, upto_more, upto_all}
use Rattle.console.proofs.Console.answer_chunk.Goals as goal

pub loop-rest-init : goal.loop-rest-init
loop-rest-init c = upto_none _ _ _ _

pub loop-rest-preserved : goal.loop-rest-preserved
loop-rest-preserved c = upto_more c.loop-rest.invariant c.answer_lines-rest.ensures.done

pub returns : goal.returns
returns c = upto_all _ c.loop-rest.invariant (search rules)
