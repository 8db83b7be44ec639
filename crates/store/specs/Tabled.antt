-- A sound store's table of ranges is a table in order, and the range that covers a page is found in it.
use Rattle.std.proofs.Math.Path.{◌≡◌, refl, ap}
use Rattle.std.proofs.Common.{◌∙◌, arith, get_or-take}
use Rattle.std.specs.Prelude.{List, [], ◌∷◌, map, take, get_or, Some, None}
use Prim.Native.Nat.{ℕ, zero, suc, ◌≤◌, ◌<◌}
use Rattle.std.proofs.Math.ListN.{get_or-map}
use borrow.Author.Tests.{lt-ltb, le-ltb, le-leb}
use Rattle.table.specs.declared.PageRange.{PageRange}
use Rattle.table.specs.declared.BackingPages.{BackingPages}
use Rattle.lists.specs.Test.{by-lt}
use Rattle.ranges.specs.Range.{Range, Ranged, from, upto, slot_in, slot_at}
use Rattle.ranges.specs.Reback.{reback, reback_rising}
use Rattle.ranges.specs.Search.{starts_before, starts_in, previous_is, slot_previous, slot_of, last_of}
use Rattle.table.specs.Table.{Table, number_of, ranged, ranged_of, range_of, ranges_of, zero_range, covering_at, reaching}
use Rattle.store.specs.Ranges.{ranges_ranged}
use Rattle.table.specs.Searching.{used_at, starts_count}

starts_reback : (g : ℕ) (l : List (Ranged BackingPages)) → starts_before g (map (reback number_of) l) ≡ starts_before g l
unfolding starts_before
starts_reback g [] = refl
starts_reback g (r ∷ l) = by-lt (from r) g (λ h. rw (lt-ltb (from r) g h) (ap suc (starts_reback g l))) (λ h. rw (le-ltb (from r) g h))

-- THE RANGE THAT COVERS A PAGE: the page is at its slot; if there is none, at no slot
module _ (R : List PageRange) (count : ℕ) (T : Table R count) (g : ℕ) where
  abbrev rs : List Range
  rs = ranges_of (take count R)

  abbrev us : List (Ranged BackingPages)
  us = ranged_of (take count R)

  pub same_starts : starts_before (suc g) rs ≡ starts_before (suc g) us
  same_starts = ap (λ l. starts_before (suc g) l) (ranges_ranged (take count R)) ∙ starts_reback (suc g) us

  at_slot : slot_at g rs ≡ slot_of g (last_of (range_of zero_range) (starts_before (suc g) us) rs)
  at_slot =
      slot_previous g 0 rs (rw (← ranges_ranged (take count R)) at (reback_rising number_of 0 us T.rising))
      ∙ ap (λ o. slot_of g o) (previous_is (range_of zero_range) g rs ∙ ap (λ n. last_of (range_of zero_range) n rs) same_starts)

  pub range_at_lem : (i : ℕ) → i < count → get_or rs i (range_of zero_range) ≡ range_of (get_or R i zero_range)
  unfolding ranges_of
  range_at_lem i h = get_or-map range_of (take count R) i zero_range ∙ ap (λ r. range_of r) (get_or-take count R i zero_range h)

  -- what is found, and what that says
  pub record Covered (k : ℕ) : Type 0 where
    pub inside : k < count
    pub low : from (ranged (get_or R k zero_range)) ≤ g
    pub high : g < upto (ranged (get_or R k zero_range))
    pub slot : slot_at g rs ≡ Some (slot_in g (range_of (get_or R k zero_range)))

  pub last_at : (k : ℕ) → starts_before (suc g) us ≡ suc k → (k < count) × (from (ranged (get_or R k zero_range)) ≤ g)
  last_at k e =
      let h : k < count = omega (arith, starts_count R count T (suc g)) in
      (h, omega (arith, starts_in (ranged zero_range) (suc g) k us (omega arith), ap (λ r. from r) (used_at R count T k h)))

  pub covered_missing : covering_at g us ≡ None → slot_at g rs ≡ None
  unfolding covering_at
  covered_missing e = at_slot ∙ go (starts_before (suc g) us) refl e
    where
      go : (n : ℕ) → starts_before (suc g) us ≡ n → reaching g us n ≡ None → slot_of g (last_of (range_of zero_range) n rs) ≡ None
      go zero m f = refl
      go (suc k) m f =
          let L = last_at k m in
          by-lt g (upto (ranged (get_or R k zero_range)))
          (λ u. absurd
          (let v : g < upto (get_or us k (ranged zero_range)) = omega (arith, ap (λ r. upto r) (used_at R count T k L.0)) in
          let w : Some k ≡ None = rw (lt-ltb g (upto (get_or us k (ranged zero_range))) v) at f in
          let z : ◌≡◌ {A = ℕ} 0 1 = cc in omega arith))
          (λ u. rw (range_at_lem k L.0, le-leb (from (ranged (get_or R k zero_range))) g L.1, le-ltb g (upto (ranged (get_or R k zero_range))) u))

  pub covered_at : (k : ℕ) → covering_at g us ≡ Some k → Covered k
  unfolding covering_at
  covered_at k e = go (starts_before (suc g) us) refl e
    where
      go : (n : ℕ) → starts_before (suc g) us ≡ n → reaching g us n ≡ Some k → Covered k
      go zero m f = absurd (let z : ◌≡◌ {A = ℕ} 0 1 = cc in omega arith)
      go (suc j) m f =
          let L = last_at j m in
          by-lt g (upto (ranged (get_or R j zero_range)))
          (λ u.
          let v : g < upto (get_or us j (ranged zero_range)) = omega (arith, ap (λ r. upto r) (used_at R count T j L.0)) in
          let w : Some j ≡ Some k = rw (lt-ltb g (upto (get_or us j (ranged zero_range))) v) at f in
          let z : j ≡ k = cc in
          rw (← z) (record {
            inside = L.0;
            low = L.1;
            high = u;
            slot = at_slot ∙ ap (λ n. slot_of g (last_of (range_of zero_range) n rs)) m
                ∙ rw (range_at_lem j L.0, le-leb (from (ranged (get_or R j zero_range))) g L.1, lt-ltb g (upto (ranged (get_or R j zero_range))) u);
          }))
          (λ u. absurd
          (let v : upto (get_or us j (ranged zero_range)) ≤ g = omega (arith, ap (λ r. upto r) (used_at R count T j L.0)) in
          let w : None ≡ Some k = rw (le-ltb g (upto (get_or us j (ranged zero_range))) v) at f in
          let z : ◌≡◌ {A = ℕ} 0 1 = cc in omega arith))
