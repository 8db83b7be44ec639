-- `take_frame` meets its contract.
use Rattle.std.proofs.Common.{◌≡◌, ◌<◌, ◌/◌, ◌^◌, get_or, length, arith, refl}
use Rattle.page_steps.specs.Depart.{word_taken}
use Rattle.page_steps.proofs.settling.take_frame.Goals as goal

pub returns : goal.returns
returns c =
    let a = c.args in
    let s = a.s.now in
    let full : length s.free ≡ 16 = omega arith in
    let fits : get_or s.free (a.f / 64) 0 < 2 ^ 64 = omega arith in
    word_taken s _ a.f _ full fits c.requires refl refl
