-- `replies::command::Command::parse`: the fields are the table's (`fields_call`).
use Rattle.std.proofs.Common.{◌≡◌, List, ℕ, eqb, length, Some, ap, sym, ◌∙◌, option_map}
use Rattle.std.specs.Bool.{then_some}
use Rattle.lists.specs.Test.{by-test}
use Rattle.replies.specs.declared.command.Command.{Command}
use Rattle.replies.specs.Line.{call_of}
use Rattle.replies.specs.Command.{call_for}
use Rattle.replies.specs.Fields.{fields_call, whole}
use Rattle.replies.proofs.command.Command.parse.Goals as goal

nothing_left : (c : Command) (y : List ℕ) → option_map call_for (then_some (eqb (length y) 0) c) ≡ whole (Some (call_for c, y))
nothing_left c y = by-test (eqb (length y) 0) (λ t. rw t) (λ f. rw f)

pub returns-in_err-command : goal.returns-in_err-command
returns-in_err-command c =
    rw c.from_residual-in_err-command.ensures
    (ap whole (sym c.in_err-command.ensures) ∙ fields_call _ _ ∙ ap call_of (sym c.in_ok-code.ensures.cases.0))

pub returns : goal.returns
returns c =
    rw (c.then_some.ensures, c.is_empty.ensures)
    (nothing_left c.in_ok-command.command _ ∙ ap whole (sym c.in_ok-command.ensures) ∙ fields_call _ _ ∙ ap call_of (sym c.in_ok-code.ensures.cases.0))
