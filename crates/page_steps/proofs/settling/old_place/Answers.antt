-- `old_place` meets its contract: the page is at its index in the range that covers it.
use Rattle.std.specs.Prelude.{Some}
use Rattle.std.proofs.Common.{sym, ap₂, ◌∙◌, arith, ℕ}
use Rattle.store.specs.Tabled.{covered_at, covered_missing}
use Rattle.store.specs.Edits.{slot}
use Rattle.page_steps.proofs.settling.old_place.Goals as goal

pub offset_bounds-s-k : goal.offset_bounds-s-k
offset_bounds-s-k c =
    let s = c.args.s.now in
    let C = covered_at s.ranges s.count c.requires c.args.g c.in_ok-k.k (sym c.in_ok-k.ensures) in
    record { fits = omega (arith, C.inside, c.requires.few) }

pub bounds-s-k : goal.bounds-s-k
bounds-s-k c =
    let s = c.args.s.now in
    let C = covered_at s.ranges s.count c.requires c.args.g c.in_ok-k.k (sym c.in_ok-k.ensures) in
    omega (arith, C.inside, c.requires.few)

pub index_in-requires : goal.index_in-requires
index_in-requires c =
    let s = c.args.s.now in
    let C = covered_at s.ranges s.count c.requires c.args.g c.in_ok-k.k (sym c.in_ok-k.ensures) in
    (c.requires.small c.in_ok-k.k C.inside, C.low, C.high)

pub returns-in_err-k : goal.returns-in_err-k
returns-in_err-k c = let s = c.args.s.now in rw c.from_residual.ensures (covered_missing s.ranges s.count c.requires c.args.g (sym c.in_err-k.ensures))

pub returns : goal.returns
returns c =
    let s = c.args.s.now in
    let C = covered_at s.ranges s.count c.requires c.args.g c.in_ok-k.k (sym c.in_ok-k.ensures) in
    C.slot ∙ ap₂ (λ (x y : ℕ). Some (slot x y)) (sym c.number.ensures) (sym c.index_in.ensures)
