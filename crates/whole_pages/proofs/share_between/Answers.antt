-- `share_between` meets its contract: the table is opened by as many rows as ranges are met, and their parts are laid there.
use Rattle.std.proofs.Common.{refl, arith}
use Rattle.whole_pages.specs.Laid.{span_copied, span_long, span_order, span_room, span_shared}
use Rattle.whole_pages.proofs.share_between.Goals as goal

pub overflow_sub-k : goal.overflow_sub-k
overflow_sub-k c =
    let a = c.args in
    let P = c.requires in
    let h = a.shared in
    let g = c.stretch-stretch.result in
    let E = c.stretch-stretch.ensures in
    (span_order a.s.now h.source h.from.0 h.object h.to.0 h.n g.first E.first P.inside P.room h.apart h.within.0 h.within.1 P.some a.at _ _
    c.ends_by-first.ensures (rw E.end at c.starts_before-end.ensures) P.free.0 P.free.1).0

pub overflow_add-behind : goal.overflow_add-behind
overflow_add-behind c =
    let a = c.args in
    let P = c.requires in
    let h = a.shared in
    let g = c.stretch-stretch.result in
    let E = c.stretch-stretch.ensures in
    let R = span_room a.s.now h.source h.from.0 h.object h.to.0 h.n g.first E.first P.inside P.room h.apart h.within.0 h.within.1 P.some a.at _ _
    c.ends_by-first.ensures (rw E.end at c.starts_before-end.ensures) P.free.0 P.free.1 _ refl in
    record { fits = omega arith }

pub shift-requires-clause-room : goal.shift-requires-clause-room
shift-requires-clause-room c =
    let a = c.args in
    let P = c.requires in
    let h = a.shared in
    let g = c.stretch-stretch.result in
    let E = c.stretch-stretch.ensures in
    let R = span_room a.s.now h.source h.from.0 h.object h.to.0 h.n g.first E.first P.inside P.room h.apart h.within.0 h.within.1 P.some a.at _ _
    c.ends_by-first.ensures (rw E.end at c.starts_before-end.ensures) P.free.0 P.free.1 _ refl in
    (P.inside.few_ranges, R.0, omega (arith, R.1))

pub slot_now-from-requires : goal.slot_now-from-requires
slot_now-from-requires c =
    let a = c.args in
    let P = c.requires in
    let h = a.shared in
    let g = c.stretch-stretch.result in
    let E = c.stretch-stretch.ensures in
    let R = span_room a.s.now h.source h.from.0 h.object h.to.0 h.n g.first E.first P.inside P.room h.apart h.within.0 h.within.1 P.some a.at _ _
    c.ends_by-first.ensures (rw E.end at c.starts_before-end.ensures) P.free.0 P.free.1 _ refl in
    let O = span_order a.s.now h.source h.from.0 h.object h.to.0 h.n g.first E.first P.inside P.room h.apart h.within.0 h.within.1 P.some a.at _ _
    c.ends_by-first.ensures (rw E.end at c.starts_before-end.ensures) P.free.0 P.free.1 in
    (omega (arith, O, P.inside.few_ranges), omega arith, omega (arith, R))

pub lay_parts-requires-clause-room : goal.lay_parts-requires-clause-room
lay_parts-requires-clause-room c =
    let a = c.args in
    let P = c.requires in
    let h = a.shared in
    let g = c.stretch-stretch.result in
    let E = c.stretch-stretch.ensures in
    let x = c.slot_now-from.ensures in
    span_long a.s.now h.source h.from.0 h.object h.to.0 h.n g.first E.first P.inside P.room h.apart h.within.0 h.within.1 P.some a.at _ _
    c.ends_by-first.ensures (rw E.end at c.starts_before-end.ensures) P.free.0 P.free.1 _ refl c.shift.new.s c.shift.ensures _ x.0 x.1

pub lay_parts-requires-clause-met : goal.lay_parts-requires-clause-met
lay_parts-requires-clause-met c =
    let a = c.args in
    let P = c.requires in
    let h = a.shared in
    let g = c.stretch-stretch.result in
    let E = c.stretch-stretch.ensures in
    let x = c.slot_now-from.ensures in
    rw E.end (span_copied a.s.now h.source h.from.0 h.object h.to.0 h.n g.first E.first P.inside P.room h.apart h.within.0 h.within.1 P.some a.at _ _
    c.ends_by-first.ensures (rw E.end at c.starts_before-end.ensures) P.free.0 P.free.1 _ refl c.shift.new.s c.shift.ensures _ x.0 x.1)

pub returns : goal.returns
returns c =
    let a = c.args in
    let P = c.requires in
    let h = a.shared in
    let g = c.stretch-stretch.result in
    let E = c.stretch-stretch.ensures in
    let x = c.slot_now-from.ensures in
    span_shared a.s.now h.source h.from.0 h.object h.to.0 h.n g.first E.first P.inside P.room h.apart h.within.0 h.within.1 P.some a.at _ _
    c.ends_by-first.ensures (rw E.end at c.starts_before-end.ensures) P.free.0 P.free.1 _ refl c.shift.new.s c.shift.ensures _ x.0 x.1 c.lay_parts.new.s
    (rw (E.end, E.target.0, E.target.1) at c.lay_parts.ensures)
