-- `replies::add`: the frame is told where it is done.
use Rattle.std.proofs.Common.{rules, ap, ◌∙◌, ◌∷◌, [], get_or}
use Rattle.replies.specs.Line.{spoken}
use Rattle.replies.specs.Replies.{spoke_refused, spoke_answered}
use Rattle.replies.proofs.add.Goals as goal

pub returns-in_err-added : goal.returns-in_err-added
returns-in_err-added c = spoke_refused c.from_residual.result c.in_err-added.field-0.0 (search rules) c.in_err-added.ensures

pub returns : goal.returns
unfolding spoken
returns c = spoke_answered c.in_ok-added.ensures (c.new.ensures ∙ ap (λ d. 0 ∷ get_or d 0 0 ∷ get_or d 1 0 ∷ []) c.two.ensures)
