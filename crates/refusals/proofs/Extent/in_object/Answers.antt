use Rattle.std.proofs.Common.{sym, ◌∙◌}
use Rattle.refusals.specs.Refuse.{decides, applies, passes, none_left}
use Rattle.refusals.proofs.Extent.in_object.Goals as goal

pub returns-then-past_end-clause-number : goal.returns-then-past_end-clause-number
returns-then-past_end-clause-number c = decides _ _ (applies (sym c.past_end.ensures ∙ c.if-past_end.true))

pub returns-clause-number : goal.returns-clause-number
returns-clause-number c = decides _ _ (passes (sym c.past_end.ensures ∙ c.if-past_end.false) none_left)
