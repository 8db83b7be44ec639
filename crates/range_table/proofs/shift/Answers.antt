-- `shift` meets its contract: the rows moved, or left where they are, and the slots behind them set to zero.
use Rattle.std.proofs.Common.{◌≡◌, refl, ◌-◌, length, drop, replicate, length-drop, length-take-le, ap, ap₂, ◌∙◌, arith, rules}
use Rattle.store.specs.declared.Store.{Store}
use Rattle.table.specs.Table.{zero_range}
use Rattle.store.specs.With.{with_ranges}
use Rattle.range_table.specs.Edit.{moved_none, shifted, with_moved}
use Rattle.range_table.proofs.shift.Goals as goal
use Rattle.range_table.proofs.shift.Goals.{then-from-to, else-from-to}

pub returns : goal.returns
returns c =
    let a = c.args in
    let s = a.s.now in
    let P = c.requires.room in
    let full : length s.ranges ≡ 512 = elim c.if-from-to.branch [
      | then-from-to w ↦ omega arith
      | else-from-to w ↦ omega (arith, ap (λ (q : Store). length q.ranges) w.s-is)
    ] in
    let u : c.if-from-to.s ≡ with_moved a.to a.from (s.count - a.from) s = elim c.if-from-to.branch [
      | then-from-to w ↦ w.s-is ∙ ap (λ l. with_ranges l s) w.copy_within.ensures.after
      | else-from-to w ↦ w.s-is ∙ moved_none s a.to a.from (s.count - a.from) w.if-from-to.false
    ] in
    let z : c.fill.new.self ≡ replicate (s.count - c.min.result) zero_range =
    c.fill.ensures.after (λ y h. search rules) ∙ ap₂ (λ n r. replicate n r) (length-take-le _ (drop c.min.result c.if-from-to.s.ranges) (simp length-drop (omega arith))) refl in
    shifted s full a.from a.to P.0 P.1 P.2 c.requires.blank c.if-from-to.s c.min.result c.fill.new.self u c.min.ensures z
