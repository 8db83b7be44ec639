-- A range of a table that covers a page is the one that a search finds.
use Rattle.std.specs.Prelude.{◌≡◌, List, ℕ, suc, ◌+◌, ◌≤◌, ◌<◌, get_or, take, Some}
use Rattle.std.proofs.Common.{ap, arith, refl, sym, ◌∙◌, lt-ltb}
use Rattle.ranges.specs.Range.{from, upto}
use Rattle.ranges.specs.Search.{rising_next, starts_before}
use Rattle.table.specs.declared.PageRange.{PageRange}
use Rattle.table.specs.Table.{Table, covering_at, less_one, ranged, ranged_of, zero_range}
use Rattle.table.specs.Searching.{last_covers, low_more, starts_found, used_at, used_length}

module _ (R : List PageRange) (count : ℕ) (T : Table R count) (k g : ℕ) (inside : k < count) (low : from (ranged (get_or R k zero_range)) ≤ g)
    (high : g < upto (ranged (get_or R k zero_range))) where
  -- those behind it begin after the page
  behind : (i : ℕ) → k + 1 ≤ i → i < count → suc g ≤ from (ranged (get_or R i zero_range))
  behind i a b =
      omega (
        arith,
        rising_next (ranged zero_range) 0 k i (ranged_of (take count R)) T.rising (omega arith) (omega (arith, used_length R count T)),
        ap (λ r. upto r) (used_at R count T k inside),
        ap (λ r. from r) (used_at R count T i b),
      )

  pub covers_found : Some k ≡ covering_at g (ranged_of (take count R))
  covers_found =
      let e : k + 1 ≡ suc k = omega arith in
      let s = starts_found R count T (suc g) (k + 1) (omega arith) (low_more R count T (suc g) k inside (omega arith)) behind in
      let last : less_one (starts_before (suc g) (ranged_of (take count R))) ≡ Some k = ap (λ n. less_one n) (sym s ∙ e) in
      sym (last_covers R count T g k last ∙ rw (lt-ltb g (upto (ranged (get_or R k zero_range))) high) refl)
