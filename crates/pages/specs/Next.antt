-- What the searches of a page step say.
use Rattle.std.specs.Prelude.{◌≡◌, true, List, ℕ, zero, suc, ◌+◌, ◌-◌, ◌≤◌, ◌<◌, eqb, leb, get_or}
use Rattle.std.proofs.Common.{ap, sym, ◌∙◌, arith, leb-true}
use Rattle.store.specs.declared.Store.{Store}
use Rattle.lists.specs.Test.{and_right}
use Rattle.ranges.specs.Range.{Range, line, from, upto}
use Rattle.ranges.specs.Table.{holders}
use Rattle.ranges.specs.Search.{starts_before}
use Rattle.book.specs.Work.{joins}
use Rattle.table.specs.Table.{Table, ranged, ranged_of, zero_range}
use Rattle.store.specs.Abs.{used}
use Rattle.store.specs.Tabled.{last_at}
use Rattle.pages.specs.Spot.{own_spot, spot_in, spot_from, spot_of}

-- a range that is made longer stays below the limit of its indexes
pub join_index : (o p : ℕ) (rs : List Range) (r : Range) → joins o p rs r ≡ true → r.offset + (suc (line o p) - from r) ≤ 1048576
join_index o p rs r t =
    let a = and_right (eqb r.object o) _ t in
    let b = and_right (eqb (holders r.backing rs) 1) _ a in
    leb-true _ 1048576 (and_right (leb (suc (line o p) - upto r) 16) _ b)

-- the last range that begins at or before a page
pub record Last (s : Store) (g n : ℕ) : Type 0 where
  pub used : n - 1 < s.count
  pub low : from (ranged (get_or s.ranges (n - 1) zero_range)) ≤ g

pub last_range : (s : Store) → Table s.ranges s.count → (g n : ℕ) → n ≡ starts_before (suc g) (ranged_of (used s)) → 0 < n → Last s g n
last_range s T g zero e h = absurd (omega arith)
last_range s T g (suc k) e h =
    let z : suc k - 1 ≡ k = omega arith in
    let L = last_at s.ranges s.count T g k (sym e) in
    record { used = rw z L.0; low = rw z L.1 }

-- the page is settled by it
pub spot_last : (s : Store) (o p n : ℕ) → n ≡ starts_before (suc (line o p)) (ranged_of (used s)) → 0 < n → spot_in s o p (get_or s.ranges (n - 1) zero_range) ≡ spot_of s o p
unfolding spot_of
spot_last s o p zero e h = absurd (omega arith)
spot_last s o p (suc k) e h = let z : suc k - 1 ≡ k = omega arith in rw (z, ← e)

pub spot_none : (s : Store) (o p n : ℕ) → n ≡ starts_before (suc (line o p)) (ranged_of (used s)) → n ≡ 0 → own_spot s o p ≡ spot_of s o p
unfolding spot_of
spot_none s o p n e z = ap (spot_from s o p) (sym z ∙ e)
