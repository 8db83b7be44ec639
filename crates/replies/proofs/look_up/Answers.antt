-- `replies::look_up`: the state is told where it is done.
use Rattle.std.proofs.Common.{rules, ap, ◌∙◌, ◌∷◌, []}
use Rattle.calls.specs.With.{did_with}
use Rattle.replies.specs.Line.{spoken}
use Rattle.replies.specs.Replies.{spoke_refused, spoke_answered}
use Rattle.replies.proofs.look_up.Goals as goal

pub returns-in_err-state : goal.returns-in_err-state
returns-in_err-state c = λ x. spoke_refused c.from_residual.result c.in_err-state.field-0.0 (search rules) (did_with _ _ _ _ _ c.in_err-state.ensures x)

pub returns : goal.returns
unfolding spoken
returns c = λ x. spoke_answered (did_with _ _ _ _ _ c.in_ok-state.ensures x) (c.new.ensures ∙ ap (λ b. 0 ∷ b ∷ []) c.state_byte.ensures)
