-- `spot_of` meets its contract: by the last range that begins at or before the page.
use Rattle.std.specs.Prelude.{Some, None}
use Rattle.std.proofs.Common.{◌≡◌, ℕ, zero, suc, ◌-◌, ap, refl, sym, ◌∙◌, arith}
use Rattle.table.specs.Table.{less_one}
use Rattle.store.specs.Tabled.{last_at}
use Rattle.pages.specs.Next.{spot_last, spot_none}
use Rattle.page_steps.proofs.spots.spot_of.Goals as goal

none_before : (n : ℕ) → None ≡ less_one n → n ≡ 0
none_before zero e = refl
none_before (suc k) e = absurd (let z : ◌≡◌ {A = ℕ} 0 1 = cc in omega arith)

one_before : (n k : ℕ) → Some k ≡ less_one n → n ≡ suc k
one_before zero k e = absurd (let z : ◌≡◌ {A = ℕ} 0 1 = cc in omega arith)
one_before (suc m) k e = let z : k ≡ m = cc in ap suc (sym z)

pub offset_bounds-s-k : goal.offset_bounds-s-k
offset_bounds-s-k c =
    let s = c.args.s.now in
    let L = last_at s.ranges s.count c.requires c.line.result c.in-Some.k (one_before _ _ c.in-Some.ensures) in
    record { fits = omega (arith, L.0, c.requires.few) }

pub bounds-s-k : goal.bounds-s-k
bounds-s-k c =
    let s = c.args.s.now in
    let L = last_at s.ranges s.count c.requires c.line.result c.in-Some.k (one_before _ _ c.in-Some.ensures) in
    omega (arith, L.0, c.requires.few)

pub invariant_of-before : goal.invariant_of-before
invariant_of-before c =
    let s = c.args.s.now in
    let L = last_at s.ranges s.count c.requires c.line.result c.in-Some.k (one_before _ _ c.in-Some.ensures) in
    record { small = c.requires.small c.in-Some.k L.0; begins = omega (arith, L.1, c.line.ensures.line) }

pub returns-in-None : goal.returns-in-None
returns-in-None c =
    let a = c.args.address in
    let m = rw c.line.ensures.line at (none_before _ c.in-None.ensures) in
    c.own_spot.ensures ∙ spot_none c.args.s.now a.object a.page.0 0 (sym m) refl

pub returns-in-Some : goal.returns-in-Some
returns-in-Some c =
    let a = c.args.address in
    let s = c.args.s.now in
    let k = c.in-Some.k in
    let m = rw c.line.ensures.line at (one_before _ k c.in-Some.ensures) in
    let z : suc k - 1 ≡ k = omega arith in
    c.spot.ensures ∙ rw z at (spot_last s a.object a.page.0 (suc k) (sym m) (omega arith))
