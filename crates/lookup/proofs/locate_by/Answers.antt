-- `lookup::locate_by` meets its contract: the range in the slot that is found covers the page.
use Rattle.std.specs.Prelude.{Some, None}
use Rattle.std.proofs.Common.{◌≡◌, sym, arith}
use Rattle.table.specs.Table.{covering_at, ranged_of}
use Rattle.store.specs.Abs.{used}
use Rattle.store.specs.Tabled.{covered_at}
use Rattle.look.specs.Look.{located}
use Rattle.lookup.specs.Holders.{inside_found}
use Rattle.lookup.proofs.locate_by.Goals as goal

pub offset_bounds-s-slot : goal.offset_bounds-s-slot
offset_bounds-s-slot g c =
    let s = c.args.s.now in
    let T = c.requires.table in
    let C = covered_at s.ranges s.count T c.args.g c.in-Some.slot (sym c.in-Some.ensures) in
    record { fits = omega (arith, T.few, C.inside) }

pub bounds-s-slot : goal.bounds-s-slot
bounds-s-slot g c =
    let s = c.args.s.now in
    let T = c.requires.table in
    omega (arith, T.few, (covered_at s.ranges s.count T c.args.g c.in-Some.slot (sym c.in-Some.ensures)).inside)

pub in_range-requires-clause-page : goal.in_range-requires-clause-page
in_range-requires-clause-page g c =
    let s = c.args.s.now in
    let T = c.requires.table in
    let C = covered_at s.ranges s.count T c.args.g c.in-Some.slot (sym c.in-Some.ensures) in
    (T.small c.in-Some.slot C.inside, C.low, C.high)

pub returns-in-None-clause-found : goal.returns-in-None-clause-found
unfolding located
returns-in-None-clause-found g c =
    let e : covering_at c.args.g (ranged_of (used c.args.s.now)) ≡ None = sym c.in-None.ensures in
    rw e

pub returns-in-Some : goal.returns-in-Some
unfolding located
returns-in-Some g c =
    let s = c.args.s.now in
    let e : covering_at c.args.g (ranged_of (used s)) ≡ Some c.in-Some.slot = sym c.in-Some.ensures in
    let found : c.in_range.result ≡ located s c.args.g = rw e c.in_range.ensures in
    record { found = found; inside = inside_found s c.args.g c.in_range.result found }
