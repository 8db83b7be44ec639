-- `replies::counts`: both numbers are told where it is done.
use Rattle.std.proofs.Common.{rules, ap₂, ◌∙◌, ◌∷◌, [], get_or}
use Rattle.calls.specs.With.{did_with}
use Rattle.replies.specs.Line.{spoken}
use Rattle.replies.specs.Replies.{spoke_refused, spoke_answered}
use Rattle.replies.proofs.counts.Goals as goal

pub returns-in_err-numbers : goal.returns-in_err-numbers
returns-in_err-numbers c = λ x. spoke_refused c.from_residual.result c.in_err-numbers.field-0.0 (search rules) (did_with _ _ _ _ _ c.in_err-numbers.ensures x)

pub returns : goal.returns
unfolding spoken
returns c =
    λ x. spoke_answered (did_with _ _ _ _ _ c.in_ok-numbers.ensures x)
    (c.new.ensures ∙ ap₂ (λ d e. 0 ∷ get_or d 0 0 ∷ get_or d 1 0 ∷ get_or e 0 0 ∷ get_or e 1 0 ∷ []) c.two.ensures c.two-2.ensures)
