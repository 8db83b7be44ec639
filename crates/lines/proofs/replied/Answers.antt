-- `lines::replied`: a line that is too long or malformed has no call; any other has that of its bytes.
use Rattle.std.proofs.Common.{arith, ap, sym, ◌∙◌}
use Rattle.replies.specs.Line.{call_of}
use Rattle.replies.specs.Replies.{ignored, replied_call, replied_none}
use Rattle.lines.specs.Parse.{parse_long, parse_malformed, parse_bytes}
use Rattle.lines.proofs.replied.Goals as goal

pub returns-then-line-gt512 : goal.returns-then-line-gt512
returns-then-line-gt512 c = replied_none _ _ _ _ _ _ (parse_long _ (omega arith)) (ignored _ _ _ c.malformed.ensures)

pub returns-in_default : goal.returns-in_default
returns-in_default c =
    replied_none _ _ _ _ _ _ (parse_malformed _ (omega arith) c.in_default.ensures) (ignored _ _ _ c.malformed-in_default.ensures)

pub returns-in_default-parse : goal.returns-in_default-parse
returns-in_default-parse c =
    replied_none _ _ _ _ _ _
    (parse_bytes _ (omega arith) _ c.in-Some.ensures ∙ ap call_of (sym c.deref.ensures.0) ∙ sym c.in_default-parse.ensures)
    (ignored _ _ _ c.malformed-in_default-parse.ensures)

pub returns : goal.returns
returns c =
    replied_call _ _ _ _ _ _ _
    (parse_bytes _ (omega arith) _ c.in-Some.ensures ∙ ap call_of (sym c.deref.ensures.0) ∙ sym c.in-Some-parse.ensures)
    c.answer.ensures
