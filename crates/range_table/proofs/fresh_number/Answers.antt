use Rattle.std.proofs.Common.{◌≡◌, ◌-◌, ◌+◌, true, false, drop, take, length, arith, ap, ◌∙◌, rules, tests}
use Rattle.std.proofs.lemmas.Iterator.{IsFirst-from_position, YieldsList-from_slice}
use Rattle.std.proofs.lemmas.List.{length-map}
use Rattle.ranges.specs.Table.{fresh}
use Rattle.table.specs.Table.{ranges_of}
use Rattle.range_table.specs.Rows.{fresh_found, held_start}
use Rattle.range_table.proofs.fresh_number.Goals as goal

pub mark-requires : goal.mark-requires
mark-requires c = held_start

pub returns : goal.returns
unfolding ranges_of
returns c =
    let s = c.args.s.now in
    let us = c.used-ranges.result.now in
    let e : length us + 1 - 1 ≡ length us = omega arith in
    let rest = c.iter.ensures.rest ∙ ap (λ k. take k (drop 1 c.mark.new.held)) e in
    let first = IsFirst-from_position _ _ _ (λ h. h ≡ false) (λ h. h ≡ true) c.position.ensures.ran (YieldsList-from_slice _ rest)
    (λ x q k. search (rules, tests)) (λ x q k. search (rules, tests)) in
    ap (λ k. 1 + k) c.unwrap_or.ensures
    ∙ fresh_found (ranges_of us) c.mark.new.held c.mark.array_long c.mark.ensures (length us) c.used-ranges.ensures.few (length-map us _) c.position.result first
    ∙ ap (λ l. fresh (ranges_of l)) c.used-ranges.ensures.rows
