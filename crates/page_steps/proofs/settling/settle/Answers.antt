-- `settle` meets its contract.
use Rattle.std.proofs.Common.{refl}
use Rattle.pages.specs.Inside.{inside_table}
use Rattle.page_steps.specs.Step.{lodged_long, step_placed}
use Rattle.page_steps.proofs.settling.settle.Goals as goal

pub old_place-old-requires : goal.old_place-old-requires
old_place-old-requires c =
    inside_table c.args.s.now _ c.requires.lodged.0

pub put_range-requires-clause-table : goal.put_range-requires-clause-table
put_range-requires-clause-table c = let I = c.requires.lodged.0 in (inside_table c.args.s.now _ I, I.rest_ranges)

pub put_range-requires-clause-small : goal.put_range-requires-clause-small
put_range-requires-clause-small c =
    let a = c.args in
    let L = c.requires.lodged.1 in
    (L.small, lodged_long a.s.now a.address.object a.address.page.0 a.q L, c.requires.room.0)

pub returns : goal.returns
returns c =
    let a = c.args in
    let q = c.requires in
    let o = rw c.line.ensures.line at c.old_place-old.ensures in
    let d = rw c.number.ensures at c.depart.ensures in
    let y = rw c.number.ensures at c.take_frame.ensures in
    step_placed a.s.now q.lodged.0 a.address.object a.address.page.0 a.q q.lodged.1 q.lodged.2 a.f c.old_place-old.result o _ _ _ _ q.room.0 c.put_range.ensures d refl y
