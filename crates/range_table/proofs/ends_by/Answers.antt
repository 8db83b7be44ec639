-- `ends_by` meets its contract: of the ranges that begin before the page, the last may reach past it.
use Rattle.std.proofs.Common.{◌≡◌, ◌<◌, ◌-◌, ◌∙◌, arith}
use Rattle.lists.specs.Test.{by-lt}
use Rattle.ranges.specs.Range.{upto}
use Rattle.table.specs.Table.{ranged}
use Rattle.store.specs.With.{range_at}
use Rattle.table.specs.Searching.{starts_count, no_ends, ends_before, ends_there}
use Rattle.range_table.proofs.ends_by.Goals as goal

pub offset_bounds-s-k : goal.offset_bounds-s-k
offset_bounds-s-k c =
    let s = c.args.s.now in
    let k = c.in-Some.ensures in
    record { fits = omega (arith, c.requires.few, k.0, k.1, starts_count s.ranges s.count c.requires c.args.a) }

pub bounds-s-k : goal.bounds-s-k
bounds-s-k c =
    let s = c.args.s.now in
    let k = c.in-Some.ensures in
    omega (arith, c.requires.few, k.0, k.1, starts_count s.ranges s.count c.requires c.args.a)

pub returns-in-Some : goal.returns-in-Some
returns-in-Some c =
    let s = c.args.s.now in
    let k = c.in-Some.ensures in
    let inside : c.in-Some.k < s.count = omega (arith, k.0, k.1, starts_count s.ranges s.count c.requires c.args.a) in
    let ends = (c.requires.small c.in-Some.k inside).ends in
    let u : c.end.result ≡ upto (ranged (range_at s (c.starts_before-n.result - 1))) = rw (← k.1) (omega (arith, c.end.ensures, ends)) in
    rw k.1 (ends_before s.ranges s.count c.requires c.args.a c.starts_before-n.result c.starts_before-n.ensures (λ e. omega (arith, e, k.0)) (omega (arith, u, c.if-a-end.true)))

pub returns-in_default : goal.returns-in_default
returns-in_default c =
    let s = c.args.s.now in
    let k = c.in-Some.ensures in
    let inside : c.in-Some.k < s.count = omega (arith, k.0, k.1, starts_count s.ranges s.count c.requires c.args.a) in
    let ends = (c.requires.small c.in-Some.k inside).ends in
    let u : c.end.result ≡ upto (ranged (range_at s (c.starts_before-n.result - 1))) = rw (← k.1) (omega (arith, c.end.ensures, ends)) in
    ends_there s.ranges s.count c.requires c.args.a c.starts_before-n.result c.starts_before-n.ensures (λ e. omega (arith, e, k.0)) (omega (arith, u, c.if-a-end.false))

pub returns-in_default-2 : goal.returns-in_default-2
returns-in_default-2 c =
    let s = c.args.s.now in
    let n = c.starts_before-n.result in
    let k = rw c.in_default.is at c.checked_sub.ensures in
    let z : n ≡ 0 = by-lt 0 n (λ h. absurd (k h)) (λ h. omega (arith, h)) in
    z ∙ no_ends s.ranges s.count c.requires c.args.a n c.starts_before-n.ensures z
