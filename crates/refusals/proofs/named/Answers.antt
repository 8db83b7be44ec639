-- `refusals::named` meets its contract.
use Rattle.std.proofs.Common.{sym, ◌∙◌}
use Rattle.refusals.specs.Refuse.{decides, applies, passes, none_left, name_high, name_dead, name_live}
use Rattle.refusals.proofs.named.Goals as goal
use Rattle.refusals.proofs.named.Goals.{then-object-gt31-via-then-object-gt31, then-object-gt31-via-else-object-gt31+then-not-is_live}

pub returns-then-object-gt31 : goal.returns-then-object-gt31
returns-then-object-gt31 c =
    let s = c.args.s.now in
    elim c.then-object-gt31.branch [
      | then-object-gt31-via-then-object-gt31 w ↦ decides _ _ (applies (name_high s c.args.object w.if-object-gt31.true))
      | then-object-gt31-via-else-object-gt31+then-not-is_live w ↦ decides _ _ (applies (name_dead s c.args.object w.if-object-gt31.false (sym w.is_live.ensures ∙ w.if-not-is_live.true)))
    ]

pub returns : goal.returns
returns c = decides _ _ (passes (name_live c.args.s.now c.args.object c.if-object-gt31.false (sym c.is_live.ensures ∙ c.if-not-is_live.false)) none_left)
