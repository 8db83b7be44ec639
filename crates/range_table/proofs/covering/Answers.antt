-- `covering` meets its contract: of the ranges that begin by the page, the last may reach past it.
use Rattle.std.proofs.Common.{◌≡◌, sym, ◌∙◌, arith}
use Rattle.ranges.specs.Range.{upto}
use Rattle.store.specs.With.{range_at}
use Rattle.table.specs.Table.{ranged}
use Rattle.range_table.proofs.Recursions.{picked_some}
use Rattle.table.specs.Searching.{last_covers, last_few, last_none}
use Rattle.range_table.proofs.covering.Goals as goal

pub returns-in_err-k : goal.returns-in_err-k
returns-in_err-k c =
    let s = c.args.s.now in
    c.from_residual.ensures ∙ sym (last_none s.ranges s.count c.requires c.args.g (sym c.last_by.ensures ∙ c.in_err-k.was))

pub offset_bounds-s-k : goal.offset_bounds-s-k
offset_bounds-s-k c =
    let s = c.args.s.now in
    record { fits = omega (arith, c.requires.few, last_few s.ranges s.count c.requires c.args.g c.in_ok-k.k (sym c.last_by.ensures ∙ c.in_ok-k.was)) }

pub bounds-s-k : goal.bounds-s-k
bounds-s-k c =
    let s = c.args.s.now in
    omega (arith, c.requires.few, last_few s.ranges s.count c.requires c.args.g c.in_ok-k.k (sym c.last_by.ensures ∙ c.in_ok-k.was))

pub returns : goal.returns
returns c =
    let s = c.args.s.now in
    let k = c.in_ok-k.k in
    let found = sym c.last_by.ensures ∙ c.in_ok-k.was in
    let ends = (c.requires.small k (last_few s.ranges s.count c.requires c.args.g k found)).ends in
    let e : c.end.result ≡ upto (ranged (range_at s k)) = omega (arith, c.end.ensures, ends) in
    c.then_some.ensures ∙ rw e (picked_some _ k) ∙ sym (last_covers s.ranges s.count c.requires c.args.g k found)
