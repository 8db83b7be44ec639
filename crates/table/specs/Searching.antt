-- The searches in the table: how many ranges begin before a page, by halving, and what the last that begins by it says.
use Rattle.std.specs.Prelude.{◌≡◌, true, false, List, zero, suc, ℕ, ◌+◌, ◌-◌, ◌≤◌, ◌<◌, min, ltb, leb, length, get_or, take, Option, Some, None}
use Rattle.std.specs.Option.{SomeIff}
use Rattle.std.specs.List.Sorted.{IsNonDecreasingBy, IsPartitionedBy, IsPartitionPoint}
use Rattle.std.proofs.Math.Path.{ap, refl}
use Rattle.std.proofs.Common.{sym, ◌∙◌, arith, get_or-take, le_refl, leb-true, leb-false, ltb-true, ltb-false}
use Rattle.std.proofs.Math.ListN.{length-map, get_or-map}
use Rattle.std.proofs.Math.Seq.{length-take-le}
use Rattle.std.proofs.lemmas.List.Sorted.{IsNonDecreasingBy-from_default, IsPartitionedBy-leb, IsPartitionedBy-ltb}
use Rattle.lists.specs.Test.{by-lt, pick}
use Rattle.ranges.specs.Range.{Ranged, from, line, upto}
use Rattle.ranges.specs.Search.{starts_before, ends_by, starts_few, starts_is, rising_next, rising_full, ends_none, ends_cut, ends_whole}
use Rattle.table.specs.declared.PageRange.{PageRange}
use Rattle.table.specs.declared.BackingPages.{BackingPages}
use Rattle.table.specs.Table.{Table, ranged, ranged_of, zero_range, covering_at, less_one, reaching}

-- where a range begins, as the code computes it of any
abbrev pub begins : PageRange → ℕ
begins r = line r.object (min r.start.0 262144)

module _ (R : List PageRange) (count : ℕ) (T : Table R count) where
  abbrev used : List (Ranged BackingPages)
  used = ranged_of (take count R)

  pub used_length : length used ≡ count
  unfolding ranged_of
  used_length = length-map (take count R) ranged ∙ length-take-le count R (omega (arith, T.few, T.full))

  pub used_at : (i : ℕ) → i < count → get_or used i (ranged zero_range) ≡ ranged (get_or R i zero_range)
  unfolding ranged_of
  used_at i h = get_or-map ranged (take count R) i zero_range ∙ ap (λ r. ranged r) (get_or-take count R i zero_range h)

  pub starts_count : (g : ℕ) → starts_before g used ≤ count
  starts_count g = omega (arith, starts_few (ranged zero_range) g used, used_length)

  -- one range begins where it does in both
  from_at : (i : ℕ) → i < count → from (get_or used i (ranged zero_range)) ≡ from (ranged (get_or R i zero_range))
  from_at i h = ap (λ r. from r) (used_at i h)

  rises : (i j : ℕ) → i < j → j < count → from (ranged (get_or R i zero_range)) < from (ranged (get_or R j zero_range))
  rises i j h k =
      omega (
        arith,
        rising_next (ranged zero_range) 0 i j used T.rising h (omega (arith, used_length)),
        rising_full (ranged zero_range) 0 i used T.rising (omega (arith, used_length)),
        ap (λ r. upto r) (used_at i (omega arith)),
        ap (λ (r : Ranged BackingPages). r.len) (used_at i (omega arith)),
        from_at j k,
      )

  -- below a range that begins before g all do
  pub low_more : (g m : ℕ) → m < count → from (ranged (get_or R m zero_range)) < g → (i : ℕ) → i < m + 1 → from (ranged (get_or R i zero_range)) < g
  low_more g m h a i k = by-lt i m (λ p. omega (arith, rises i m p h)) (λ p. let e : i ≡ m = omega arith in rw e a)

  pub starts_found : (g n : ℕ) → n ≤ count → ((i : ℕ) → i < n → from (ranged (get_or R i zero_range)) < g)
      → ((i : ℕ) → n ≤ i → i < count → g ≤ from (ranged (get_or R i zero_range))) → n ≡ starts_before g used
  starts_found g n h a b =
      starts_is (ranged zero_range) g 0 n used T.rising (omega (arith, used_length))
      (λ i k. omega (arith, a i k, from_at i (omega arith)))
      (λ i k m. omega (arith, b i k (omega (arith, used_length)), from_at i (omega (arith, used_length))))

  -- as the code computes it, they begin no later from one to the next
  begins_at : (i : ℕ) → i < count → begins (get_or (take count R) i zero_range) ≡ from (ranged (get_or R i zero_range))
  begins_at i h = let s = T.small i h in ap (λ r. begins r) (get_or-take count R i zero_range h) ∙ omega (arith, s.ends)

  long : length (take count R) ≡ count
  long = length-take-le count R (omega (arith, T.few, T.full))

  begins_rise : IsNonDecreasingBy begins (take count R)
  begins_rise =
      IsNonDecreasingBy-from_default begins (take count R) zero_range
      (λ i j l h. by-lt i j
      (λ p. omega (arith, rises i j p (omega (arith, long)), begins_at i (omega (arith, long)), begins_at j (omega (arith, long))))
      (λ p. let e : i ≡ j = omega arith in rw e (le_refl (begins (get_or (take count R) j zero_range)))))

  pub parted_before : (g : ℕ) → IsPartitionedBy (λ r. ltb (begins r) g) (take count R)
  parted_before g = IsPartitionedBy-ltb begins (take count R) g begins_rise

  pub parted_by : (g : ℕ) → IsPartitionedBy (λ r. leb (begins r) g) (take count R)
  parted_by g = IsPartitionedBy-leb begins (take count R) g begins_rise

  -- the point between those that begin before g, or by it, and the others
  module _ (g n : ℕ) (l : n ≤ length (take count R)) where
    pub point_before : IsPartitionPoint (λ r. ltb (begins r) g ≡ true) (λ r. ltb (begins r) g ≡ false) (take count R) n → n ≡ starts_before g used
    point_before P =
        starts_found g n (omega (arith, long))
        (λ i h. omega (arith, ltb-true _ _ (P.0 i zero_range (omega arith) h), begins_at i (omega (arith, long))))
        (λ i h m. omega (arith, ltb-false _ _ (P.1 i zero_range h (omega (arith, long))), begins_at i m))

    pub point_by : IsPartitionPoint (λ r. leb (begins r) g ≡ true) (λ r. leb (begins r) g ≡ false) (take count R) n → n ≡ starts_before (suc g) used
    point_by P =
        starts_found (suc g) n (omega (arith, long))
        (λ i h. omega (arith, leb-true _ _ (P.0 i zero_range (omega arith) h), begins_at i (omega (arith, long))))
        (λ i h m. omega (arith, leb-false _ _ (P.1 i zero_range h (omega (arith, long))), begins_at i m))

  -- the ranges that end by a, from those that begin before it
  pub no_ends : (a n : ℕ) → n ≡ starts_before a used → n ≡ 0 → 0 ≡ ends_by a used
  no_ends a n e z = ends_none (ranged zero_range) a 0 used T.rising (sym e ∙ z)

  pub ends_before : (a n : ℕ) → n ≡ starts_before a used → (n ≡ 0 → ⊥) → a < upto (ranged (get_or R (n - 1) zero_range)) → n - 1 ≡ ends_by a used
  ends_before a n e z h =
      ends_cut (ranged zero_range) a 0 (n - 1) used T.rising (sym e ∙ omega arith)
      (omega (arith, ap (λ r. upto r) (used_at (n - 1) (omega (arith, starts_count a)))))

  pub ends_there : (a n : ℕ) → n ≡ starts_before a used → (n ≡ 0 → ⊥) → upto (ranged (get_or R (n - 1) zero_range)) ≤ a → n ≡ ends_by a used
  ends_there a n e z h =
      let m : suc (n - 1) ≡ n = omega arith in
      sym m ∙ ends_whole (ranged zero_range) a 0 (n - 1) used T.rising (sym e ∙ sym m) (omega (arith, ap (λ r. upto r) (used_at (n - 1) (omega (arith, starts_count a)))))

  -- of the last range that begins by g
  pub last_is : (g n : ℕ) (r : Option ℕ) → n ≡ starts_before (suc g) used → SomeIff r (1 ≤ n) (n - 1) → r ≡ less_one (starts_before (suc g) used)
  last_is g n r e h = go n r h ∙ ap (λ k. less_one k) e
    where
      go : (n : ℕ) (r : Option ℕ) → SomeIff r (1 ≤ n) (n - 1) → r ≡ less_one n
      go zero None h = refl
      go zero (Some x) h = absurd (omega (arith, h.0))
      go (suc k) None h = absurd (h (omega arith))
      go (suc k) (Some x) h = let e : x ≡ k = omega (arith, h.1) in ap Some e

  pub last_few : (g k : ℕ) → less_one (starts_before (suc g) used) ≡ Some k → k < count
  last_few g k e = go (starts_before (suc g) used) refl e
    where
      go : (n : ℕ) → starts_before (suc g) used ≡ n → less_one n ≡ Some k → k < count
      go zero m f = absurd (let z : ◌≡◌ {A = ℕ} 0 1 = cc in omega arith)
      go (suc j) m f = let z : j ≡ k = cc in omega (arith, starts_count (suc g))

  pub last_none : (g : ℕ) → less_one (starts_before (suc g) used) ≡ None → covering_at g used ≡ None
  unfolding covering_at
  last_none g e = go (starts_before (suc g) used) e
    where
      go : (n : ℕ) → less_one n ≡ None → reaching g used n ≡ None
      go zero f = refl
      go (suc j) f = absurd (let z : ◌≡◌ {A = ℕ} 0 1 = cc in omega arith)

  pub last_covers : (g k : ℕ) → less_one (starts_before (suc g) used) ≡ Some k → covering_at g used ≡ pick (ltb g (upto (ranged (get_or R k zero_range)))) (Some k) None
  unfolding covering_at
  last_covers g k e = go (starts_before (suc g) used) e
    where
      go : (n : ℕ) → less_one n ≡ Some k → reaching g used n ≡ pick (ltb g (upto (ranged (get_or R k zero_range)))) (Some k) None
      go zero f = absurd (let z : ◌≡◌ {A = ℕ} 0 1 = cc in omega arith)
      go (suc j) f = let z : j ≡ k = cc in rw z (ap (λ r. pick (ltb g (upto r)) (Some k) None) (used_at k (last_few g k e)))
