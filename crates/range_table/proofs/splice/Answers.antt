-- `splice` meets its contract. p is the first row met, q the one behind the last.
use Rattle.std.specs.Prelude.{None, []}
use Rattle.std.proofs.Common.{arith}
use Rattle.range_table.specs.Edit.{rows_of}
use Rattle.range_table.specs.Made.{ends_within, far_small, made_length, met_within, near_small, splice_fits}
use Rattle.range_table.proofs.splice.Goals as goal

pub replace-requires-clause-rows : goal.replace-requires-clause-rows
replace-requires-clause-rows c =
    let s = c.args.s.now in
    let P = c.requires in
    let i = ends_within s P.table.0 _ _ c.ends_by-p.ensures in
    let m = made_length [] (rows_of c.args.middle) [] in
    (P.table.0.few, omega arith, i, omega (arith, m, P.room.2))

pub offset_bounds-s-p : goal.offset_bounds-s-p
offset_bounds-s-p c =
    let s = c.args.s.now in
    let o = met_within s c.requires.table.0 _ _ _ _ c.requires.room.0 c.ends_by-p.ensures c.starts_before-q.ensures in
    record { fits = omega arith }

pub bounds-s-p : goal.bounds-s-p
bounds-s-p c =
    let s = c.args.s.now in
    let o = met_within s c.requires.table.0 _ _ _ _ c.requires.room.0 c.ends_by-p.ensures c.starts_before-q.ensures in
    omega arith

pub front-before-requires : goal.front-before-requires
front-before-requires c =
    near_small c.args.s.now c.requires.table.0 _ _ _ _ c.requires.room.0 c.ends_by-p.ensures c.starts_before-q.ensures (omega (arith, c.if-q-p.false))

pub offset_bounds-s-q : goal.offset_bounds-s-q
offset_bounds-s-q c =
    let s = c.args.s.now in
    let o = met_within s c.requires.table.0 _ _ _ _ c.requires.room.0 c.ends_by-p.ensures c.starts_before-q.ensures in
    record { fits = omega arith }

pub bounds-s-q : goal.bounds-s-q
bounds-s-q c =
    let s = c.args.s.now in
    let o = met_within s c.requires.table.0 _ _ _ _ c.requires.room.0 c.ends_by-p.ensures c.starts_before-q.ensures in
    omega arith

pub back-after-requires : goal.back-after-requires
back-after-requires c =
    far_small c.args.s.now c.requires.table.0 _ _ _ _ c.requires.room.0 c.ends_by-p.ensures c.starts_before-q.ensures (omega (arith, c.if-q-p.false))

pub replace-requires-2-clause-rows : goal.replace-requires-2-clause-rows
replace-requires-2-clause-rows c =
    let s = c.args.s.now in
    let P = c.requires in
    let ep = c.ends_by-p.ensures in
    let eq = c.starts_before-q.ensures in
    let o = met_within s P.table.0 _ _ _ _ P.room.0 ep eq in
    (o.2, o.0, o.1, splice_fits s P.table.0 _ _ P.room.0 c.args.middle P.room.1 P.room.2 _ _ ep eq (omega (arith, c.if-q-p.false)) c.front-before.result c.back-after.result c.front-before.ensures c.back-after.ensures)

pub returns-then-q-p : goal.returns-then-q-p
returns-then-q-p c =
    record {
      first = c.ends_by-p.result;
      last = c.starts_before-q.result;
      is_first = c.ends_by-p.ensures;
      is_last = c.starts_before-q.ensures;
      before = None;
      after = None;
      is_before = λ k. absurd (omega (arith, k, c.if-q-p.true));
      is_after = λ k. absurd (omega (arith, k, c.if-q-p.true));
      over = λ k. absurd (omega (arith, k, c.if-q-p.true));
      between = λ k. c.replace.ensures;
    }

pub returns : goal.returns
returns c =
    record {
      first = c.ends_by-p.result;
      last = c.starts_before-q.result;
      is_first = c.ends_by-p.ensures;
      is_last = c.starts_before-q.ensures;
      before = c.front-before.result;
      after = c.back-after.result;
      is_before = λ k. c.front-before.ensures;
      is_after = λ k. c.back-after.ensures;
      over = λ k. c.replace-2.ensures;
      between = λ k. absurd (omega (arith, k, c.if-q-p.false));
    }
