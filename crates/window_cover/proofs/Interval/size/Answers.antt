use Rattle.std.proofs.Common.{◌-◌, arith, rules}
use Rattle.window_cover.specs.Intervals.{size_told}
use Rattle.window_cover.proofs.Interval.size.Goals as goal

pub returns : goal.returns
returns c =
    let a = c.args.self in
    let l = c.checked_ilog2.ensures in
    size_told a.first (a.end - 1) c.map_or.result c.checked_ilog2.result _ (omega (arith, c.requires)) (omega (arith, c.requires)) l.none l.power_le l.next_power_gt c.map_or.ensures
    (λ k p. search rules)
