use Rattle.std.proofs.Common.{sym, ◌∙◌}
use Rattle.soundness.specs.Parts.{agreeing?, ranges_fail, ranges_say}
use Rattle.soundness.proofs.examine_ranges.Goals as goal

pub returns-then-slots-clause-answer : goal.returns-then-slots-clause-answer
unfolding agreeing?
returns-then-slots-clause-answer c =
    ranges_say c.args.s.now (sym c.slots.ensures.answer ∙ c.if-slots.true) (c.slots.ensures.within c.if-slots.true) c.chain_ranges.result c.chain_ranges.ensures.answer

pub returns-then-slots-clause-agreeing : goal.returns-then-slots-clause-agreeing
unfolding agreeing?
returns-then-slots-clause-agreeing c = λ t. sym c.chain_ranges.ensures.answer ∙ t

pub returns-else-slots-clause-answer : goal.returns-else-slots-clause-answer
returns-else-slots-clause-answer c =
    c.if-slots.false ∙ ranges_fail c.args.s.now (sym c.slots.ensures.answer ∙ c.if-slots.false)
