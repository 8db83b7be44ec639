use Rattle.std.proofs.Common.{◌≡◌, length, refl, arith}
use Rattle.range_table.specs.Made.{lay_none, lay_one, lay_fits}
use Rattle.range_table.proofs.lay.Goals as goal

pub returns-in-Some : goal.returns-in-Some
returns-in-Some c =
    let a = c.args in
    let full : length a.s.now.ranges ≡ 512 = omega arith in
    lay_one a.s.now _ a.at a.q _ full (lay_fits a.at a.q _ c.in-Some.is c.requires) c.in-Some.is refl

pub returns-in_default : goal.returns-in_default
returns-in_default c = lay_none c.args.s.now c.args.at c.args.q c.in_default.is
