-- The laws of putting a range into a gap of a table, and the table's form of a cut.
use Rattle.std.specs.Prelude.{◌≡◌, refl, ◌⊎◌, length, get_or, take, drop, Some}
use Rattle.std.proofs.Common.{ap, sym, inl, inr, ⊎_elim, add-zero, not-suc-le-zero, lt-ltb, le-ltb}
use mathlib.Core.List.{List, [], ◌∷◌, ◌++◌, append_assoc, append-nil}
use Prim.Native.Nat.{ℕ, zero, suc, ◌-◌, ◌≤◌, ◌<◌, suc-le-suc}
use native.Mathlib.Omega.{arith}
use Rattle.std.proofs.Math.Nat.{sub-zero}
use Rattle.lists.specs.Test.{by-lt}
use Rattle.ranges.specs.Range.{Range, Ranged, from, upto, skip, front, back, carve, insert, slot_in, slot_at, Rising, Clear}
use Rattle.ranges.specs.Cut.{front_some, front_none, back_some, back_none, slot_hit, slot_low, slot_high, slot_cons, front_below, Rising-weaken}

pub insert_here : {B : Type 0} (n r : Ranged B) (rs : List (Ranged B)) → from n < from r → insert n (r ∷ rs) ≡ n ∷ r ∷ rs
unfolding insert
insert_here n r rs h = rw (lt-ltb (from n) (from r) h)

pub insert_later : {B : Type 0} (n r : Ranged B) (rs : List (Ranged B)) → from r ≤ from n → insert n (r ∷ rs) ≡ r ∷ insert n rs
unfolding insert
insert_later n r rs h = rw (le-ltb (from n) (from r) h)

-- after a cut the span is clear
pub carve_clear : {B : Type 0} (a e : ℕ) (rs : List (Ranged B)) → a ≤ e → Clear a e (carve a e rs)
unfolding carve Clear
carve_clear a e [] h = tt
carve_clear a e (r ∷ rs) h =
    let ih : Clear a e (carve a e rs) = carve_clear a e rs h in
    by-lt (from r) a
    (λ p. by-lt e (upto r)
    (λ q. rw (front_some a r p, back_some e r q) (inl (omega arith), (inr (omega arith), ih)))
    (λ q. rw (front_some a r p, back_none e r q) (inl (omega arith), ih)))
    (λ p. by-lt e (upto r)
    (λ q. rw (front_none a r p, back_some e r q) (inr (omega arith), ih))
    (λ q. rw (front_none a r p, back_none e r q) ih))

pub insert_rising : {B : Type 0} (n : Ranged B) (low : ℕ) (rs : List (Ranged B)) → low ≤ from n → 0 < n.len → Clear (from n) (upto n) rs → Rising low rs → Rising low (insert n rs)
unfolding Clear Rising insert
insert_rising n low [] l k c s = (l, k, tt)
insert_rising n low (r ∷ rs) l k c s =
    ⊎_elim
    (λ b. let z : from r ≤ from n = omega arith in
    rw (insert_later n r rs z) (s.0, s.1, insert_rising n (upto r) rs b k c.1 s.2))
    (λ b. let z : from n < from r = omega arith in
    rw (insert_here n r rs z) (l, k, (b, s.1, s.2)))
    c.0

-- the pages of the range put in, and every other page
pub insert_hit : (n : Range) (g : ℕ) (rs : List Range) → from n ≤ g → g < upto n → Clear (from n) (upto n) rs → slot_at g (insert n rs) ≡ Some (slot_in g n)
unfolding Clear insert
insert_hit n g [] l k c = slot_hit g n [] l k
insert_hit n g (r ∷ rs) l k c =
    ⊎_elim
    (λ b. let z : from r ≤ from n = omega arith in let y : upto r ≤ g = omega arith in
    rw (insert_later n r rs z, slot_high g r (insert n rs) y) (insert_hit n g rs l k c.1))
    (λ b. let z : from n < from r = omega arith in
    rw (insert_here n r rs z) (slot_hit g n (r ∷ rs) l k))
    c.0

pub insert_other : (n : Range) (g : ℕ) (rs : List Range) → (g < from n) ⊎ (upto n ≤ g) → slot_at g (insert n rs) ≡ slot_at g rs
unfolding insert
insert_other n g [] o = ⊎_elim (λ h. slot_low g n [] h) (λ h. slot_high g n [] h) o
insert_other n g (r ∷ rs) o =
    by-lt (from n) (from r)
    (λ z. rw (insert_here n r rs z) (⊎_elim (λ h. slot_low g n (r ∷ rs) h) (λ h. slot_high g n (r ∷ rs) h) o))
    (λ z. rw (insert_later n r rs z) (slot_cons g r (insert n rs) rs (insert_other n g rs o)))

-- ---- the table's form of a cut

pub skip_zero : {B : Type 0} (r : Ranged B) → skip 0 r ≡ r
skip_zero r = simp (add-zero, sub-zero)

carve_after : {B : Type 0} (a e : ℕ) (rs : List (Ranged B)) → a ≤ e → Rising e rs → carve a e rs ≡ rs
unfolding carve Rising
carve_after a e [] h s = refl
carve_after a e (r ∷ rs) h s =
    let z : a ≤ from r = omega arith in
    let y : e < upto r = omega arith in
    let x : e - from r ≡ 0 = omega arith in
    let t : Rising e rs = Rising-weaken (upto r) e rs (omega arith) s.2 in
    rw (front_none a r z, back_some e r y, x, skip_zero r) (ap (λ l. r ∷ l) (carve_after a e rs h t))

rising_head : {B : Type 0} (d : Ranged B) (low : ℕ) (rs : List (Ranged B)) → Rising low rs → 0 < length rs → low ≤ from (get_or rs 0 d)
unfolding Rising
rising_head d low [] s n = absurd (not-suc-le-zero n)
rising_head d low (r ∷ rs) s n = s.0

-- `front a` of the first range that the cut meets, `back e` of the last, and nothing between
module _ {B : Type 0} (d : Ranged B) (a e : ℕ) (h : a < e) where
  -- the ranges up to number q begin in the cut, and those after them after it
  carve_tail : (q : ℕ) (low : ℕ) (rs : List (Ranged B)) → a ≤ low → Rising low rs → q < length rs
      → ((i : ℕ) → i ≤ q → from (get_or rs i d) < e)
      → Rising e (drop (suc q) rs)
      → carve a e rs ≡ back e (get_or rs q d) ++ drop (suc q) rs
  unfolding carve Rising
  carve_tail zero low [] l s n m t = absurd (not-suc-le-zero n)
  carve_tail (suc q) low [] l s n m t = absurd (not-suc-le-zero n)
  carve_tail zero low (r ∷ rs) l s n m t =
      let z : a ≤ from r = omega arith in
      rw (front_none a r z) (ap (λ k. back e r ++ k) (carve_after a e rs (omega arith) t))
  carve_tail (suc q) low (r ∷ rs) l s n m t =
      let z : a ≤ from r = omega arith in
      let y : upto r ≤ from (get_or rs 0 d) = rising_head d (upto r) rs s.2 (omega arith) in
      let x : from (get_or rs 0 d) < e = m 1 (omega arith) in
      rw (front_none a r z, back_none e r (omega arith))
      (carve_tail q (upto r) rs (omega arith) s.2 (omega arith) (λ i j. m (suc i) (suc-le-suc j)) t)

  -- the first p of the ranges end by a
  pub carve_table : (p q : ℕ) (low : ℕ) (rs : List (Ranged B)) → Rising low rs → p ≤ q → q < length rs
      → ((i : ℕ) → i < p → upto (get_or rs i d) ≤ a)
      → a < upto (get_or rs p d)
      → ((i : ℕ) → i ≤ q → from (get_or rs i d) < e)
      → Rising e (drop (suc q) rs)
      → carve a e rs ≡ take p rs ++ (front a (get_or rs p d) ++ back e (get_or rs q d) ++ drop (suc q) rs)
  unfolding carve Rising
  carve_table p q low [] s pq n b f m t = absurd (not-suc-le-zero n)
  carve_table zero zero low (r ∷ rs) s pq n b f m t =
      rw (carve_after a e rs (omega arith) t)
  carve_table (suc p) zero low (r ∷ rs) s pq n b f m t = absurd (not-suc-le-zero pq)
  carve_table zero (suc q) low (r ∷ rs) s pq n b f m t =
      let y : upto r ≤ from (get_or rs 0 d) = rising_head d (upto r) rs s.2 (omega arith) in
      let x : from (get_or rs 0 d) < e = m 1 (omega arith) in
      rw (back_none e r (omega arith), append-nil)
      (rw (carve_tail q (upto r) rs (omega arith) s.2 (omega arith) (λ i j. m (suc i) (suc-le-suc j)) t) (sym (append_assoc (front a r) (back e (get_or rs q d)) (drop (suc q) rs))))
  carve_table (suc p) (suc q) low (r ∷ rs) s pq n b f m t =
      let y : upto r ≤ a = b 0 (omega arith) in
      rw (front_below a r y s.1, back_none e r (omega arith))
      (ap (λ k. r ∷ k) (carve_table p q (upto r) rs s.2 (omega arith) (omega arith) (λ i j. b (suc i) (suc-le-suc j)) f (λ i j. m (suc i) (suc-le-suc j)) t))
