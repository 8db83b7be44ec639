use Rattle.std.proofs.Common.{◌≡◌, true, false, drop, take, sym, ◌∙◌, ap, le-leb}
use Rattle.store.specs.Sound.{zero?}
use Rattle.range_tests.specs.Shape.{rises?}
use Rattle.range_tests.specs.Slots.{every_all, slots_parts}
use Rattle.range_tests.proofs.slots.Goals as goal

pub returns-then-rise-clause-answer : goal.returns-then-rise-clause-answer
returns-then-rise-clause-answer c =
    let s = c.args.s.now in
    let e = c.split_at.ensures in
    let r : rises? s.live 0 (take s.count s.ranges) ≡ true = ap (rises? s.live 0) (sym e.front) ∙ sym c.rise.ensures ∙ c.if-rise.true in
    rw (le-leb s.count 512 c.if-s-gt512.false, slots_parts s.ranges s.count s.live, r, every_all zero? (drop s.count s.ranges), ← e.back) c.all_zero.ensures

pub returns-else-rise-clause-answer : goal.returns-else-rise-clause-answer
returns-else-rise-clause-answer c =
    let s = c.args.s.now in
    let r : rises? s.live 0 (take s.count s.ranges) ≡ false = ap (rises? s.live 0) (sym c.split_at.ensures.front) ∙ sym c.rise.ensures ∙ c.if-rise.false in
    rw (le-leb s.count 512 c.if-s-gt512.false, slots_parts s.ranges s.count s.live, r) c.if-rise.false
