-- Searching a table: how many ranges begin before a page. The range that covers a page, or the last one before it, is found by it.
use Rattle.std.specs.Prelude.{◌≡◌, ltb, leb, length, get_or, Option, Some, None}
use Rattle.std.proofs.Math.Path.{refl}
use Rattle.std.proofs.Common.{ap, ◌∙◌, not-suc-le-zero, le_refl, arith}
use mathlib.Core.List.{List, [], ◌∷◌}
use Prim.Native.Nat.{ℕ, zero, suc, ◌≤◌, ◌<◌, zero-le}
use borrow.Author.Tests.{lt-ltb, le-ltb, le-leb, lt-leb}
use Rattle.lists.specs.Test.{pick, by-lt}
use Rattle.ranges.specs.Range.{Range, Ranged, Slot, from, upto, covers, slot_in, slot_at, Rising}
use Rattle.ranges.specs.Table.{previous, some_or}
use Rattle.ranges.specs.Cut.{slot_low}
use Rattle.ranges.specs.Find.{below_all}

unfoldable pub starts_before : {B : Type 0} → ℕ → List (Ranged B) → ℕ
starts_before g [] = 0
starts_before g (r ∷ rs) = pick (ltb (from r) g) (suc (starts_before g rs)) 0

-- how many of a table's first ranges end by page a
unfoldable pub ends_by : {B : Type 0} → ℕ → List (Ranged B) → ℕ
ends_by a [] = 0
ends_by a (r ∷ rs) = pick (leb (upto r) a) (suc (ends_by a rs)) 0

module _ {B : Type 0} (d : Ranged B) where
  pub starts_few : (g : ℕ) (rs : List (Ranged B)) → starts_before g rs ≤ length rs
  unfolding starts_before
  starts_few g [] = zero-le
  starts_few g (r ∷ rs) = by-lt (from r) g (λ l. rw (lt-ltb (from r) g l) (omega (arith, starts_few g rs))) (λ l. rw (le-ltb (from r) g l) zero-le)

  -- a table's ranges begin one after the other
  pub rising_at : (low i : ℕ) (rs : List (Ranged B)) → Rising low rs → i < length rs → low ≤ from (get_or rs i d)
  unfolding Rising
  rising_at low i [] s h = absurd (not-suc-le-zero h)
  rising_at low zero (r ∷ rs) s h = s.0
  rising_at low (suc i) (r ∷ rs) s h = omega (arith, rising_at (upto r) i rs s.2 (omega arith), s.0)

  pub rising_next : (low i j : ℕ) (rs : List (Ranged B)) → Rising low rs → i < j → j < length rs → upto (get_or rs i d) ≤ from (get_or rs j d)
  unfolding Rising
  rising_next low i j [] s l h = absurd (not-suc-le-zero h)
  rising_next low i zero (r ∷ rs) s l h = absurd (not-suc-le-zero l)
  rising_next low zero (suc j) (r ∷ rs) s l h = rising_at (upto r) j rs s.2 (omega arith)
  rising_next low (suc i) (suc j) (r ∷ rs) s l h = rising_next (upto r) i j rs s.2 (omega arith) (omega arith)

  pub rising_full : (low i : ℕ) (rs : List (Ranged B)) → Rising low rs → i < length rs → 0 < (get_or rs i d).len
  unfolding Rising
  rising_full low i [] s h = absurd (not-suc-le-zero h)
  rising_full low zero (r ∷ rs) s h = s.1
  rising_full low (suc i) (r ∷ rs) s h = rising_full (upto r) i rs s.2 (omega arith)

  -- those that begin before g, and those that do not
  pub starts_in : (g i : ℕ) (rs : List (Ranged B)) → i < starts_before g rs → from (get_or rs i d) < g
  unfolding starts_before
  starts_in g zero [] h = absurd (not-suc-le-zero h)
  starts_in g (suc i) [] h = absurd (not-suc-le-zero h)
  starts_in g zero (r ∷ rs) h =
      by-lt (from r) g (λ l. l) (λ l. absurd (not-suc-le-zero (rw (le-ltb (from r) g l) at h)))
  starts_in g (suc i) (r ∷ rs) h =
      by-lt (from r) g
      (λ l. let k : suc i < suc (starts_before g rs) = rw (lt-ltb (from r) g l) at h in starts_in g i rs (omega arith))
      (λ l. absurd (not-suc-le-zero (rw (le-ltb (from r) g l) at h)))

  pub starts_out : (g low i : ℕ) (rs : List (Ranged B)) → Rising low rs → starts_before g rs ≤ i → i < length rs → g ≤ from (get_or rs i d)
  unfolding starts_before Rising
  starts_out g low zero [] s h k = absurd (not-suc-le-zero k)
  starts_out g low (suc i) [] s h k = absurd (not-suc-le-zero k)
  starts_out g low zero (r ∷ rs) s h k =
      by-lt (from r) g (λ l. absurd (not-suc-le-zero (rw (lt-ltb (from r) g l) at h))) (λ l. l)
  starts_out g low (suc i) (r ∷ rs) s h k =
      by-lt (from r) g
      (λ l. let m : suc (starts_before g rs) ≤ suc i = rw (lt-ltb (from r) g l) at h in starts_out g (upto r) i rs s.2 (omega arith) (omega arith))
      (λ l. omega (arith, rising_at (upto r) i rs s.2 (omega arith)))

  -- a number with both properties is that one: what a search has to find
  pub starts_is : (g low n : ℕ) (rs : List (Ranged B)) → Rising low rs → n ≤ length rs → ((i : ℕ) → i < n → from (get_or rs i d) < g)
      → ((i : ℕ) → n ≤ i → i < length rs → g ≤ from (get_or rs i d)) → n ≡ starts_before g rs
  starts_is g low n rs s h a b =
      by-lt n (starts_before g rs)
      (λ l. absurd (omega (arith, starts_in g n rs l, b n (le_refl n) (omega (arith, starts_few g rs)))))
      (λ l. by-lt (starts_before g rs) n
      (λ m. absurd (omega (arith, a (starts_before g rs) m, starts_out g low (starts_before g rs) rs s (le_refl _) (omega arith))))
      (λ m. omega arith))

  pub ends_few : (a : ℕ) (rs : List (Ranged B)) → ends_by a rs ≤ length rs
  unfolding ends_by
  ends_few a [] = zero-le
  ends_few a (r ∷ rs) = by-lt a (upto r) (λ l. rw (lt-leb (upto r) a l) zero-le) (λ l. rw (le-leb (upto r) a l) (omega (arith, ends_few a rs)))

  pub ends_in : (a i : ℕ) (rs : List (Ranged B)) → i < ends_by a rs → upto (get_or rs i d) ≤ a
  unfolding ends_by
  ends_in a zero [] h = absurd (not-suc-le-zero h)
  ends_in a (suc i) [] h = absurd (not-suc-le-zero h)
  ends_in a zero (r ∷ rs) h = by-lt a (upto r) (λ l. absurd (not-suc-le-zero (rw (lt-leb (upto r) a l) at h))) (λ l. l)
  ends_in a (suc i) (r ∷ rs) h =
      by-lt a (upto r)
      (λ l. absurd (not-suc-le-zero (rw (lt-leb (upto r) a l) at h)))
      (λ l. let k : suc i < suc (ends_by a rs) = rw (le-leb (upto r) a l) at h in ends_in a i rs (omega arith))

  pub ends_out : (a low i : ℕ) (rs : List (Ranged B)) → Rising low rs → ends_by a rs ≤ i → i < length rs → a < upto (get_or rs i d)
  unfolding ends_by Rising
  ends_out a low zero [] s h k = absurd (not-suc-le-zero k)
  ends_out a low (suc i) [] s h k = absurd (not-suc-le-zero k)
  ends_out a low zero (r ∷ rs) s h k = by-lt a (upto r) (λ l. l) (λ l. absurd (not-suc-le-zero (rw (le-leb (upto r) a l) at h)))
  ends_out a low (suc i) (r ∷ rs) s h k =
      by-lt a (upto r)
      (λ l. omega (arith, rising_at (upto r) i rs s.2 (omega arith)))
      (λ l. let m : suc (ends_by a rs) ≤ suc i = rw (le-leb (upto r) a l) at h in ends_out a (upto r) i rs s.2 (omega arith) (omega arith))

  -- a number with both properties is that one
  ends_is : (a low n : ℕ) (rs : List (Ranged B)) → Rising low rs → n ≤ length rs → ((i : ℕ) → i < n → upto (get_or rs i d) ≤ a)
      → (n < length rs → a < upto (get_or rs n d)) → n ≡ ends_by a rs
  ends_is a low n rs s h b c =
      by-lt n (ends_by a rs)
      (λ l. absurd (omega (arith, ends_in a n rs l, c (omega (arith, ends_few a rs)))))
      (λ l. by-lt (ends_by a rs) n
      (λ m. absurd (omega (arith, b (ends_by a rs) m, ends_out a low (ends_by a rs) rs s (le_refl _) (omega arith))))
      (λ m. omega arith))

  -- it is the number of those that begin before a, or one less
  pub ends_none : (a low : ℕ) (rs : List (Ranged B)) → Rising low rs → starts_before a rs ≡ 0 → 0 ≡ ends_by a rs
  ends_none a low rs s e =
      ends_is a low 0 rs s zero-le (λ i l. absurd (not-suc-le-zero l))
      (λ l. omega (arith, starts_out a low 0 rs s (omega arith) l, rising_full low 0 rs s l))

  pub ends_cut : (a low n : ℕ) (rs : List (Ranged B)) → Rising low rs → starts_before a rs ≡ suc n → a < upto (get_or rs n d) → n ≡ ends_by a rs
  ends_cut a low n rs s e h =
      ends_is a low n rs s (omega (arith, starts_few a rs))
      (λ i l. omega (arith, rising_next low i n rs s l (omega (arith, starts_few a rs)), starts_in a n rs (omega arith)))
      (λ l. h)

  pub ends_whole : (a low n : ℕ) (rs : List (Ranged B)) → Rising low rs → starts_before a rs ≡ suc n → upto (get_or rs n d) ≤ a → suc n ≡ ends_by a rs
  ends_whole a low n rs s e h =
      ends_is a low (suc n) rs s (omega (arith, starts_few a rs))
      (λ i l. by-lt i n
      (λ m. omega (arith, rising_next low i n rs s m (omega (arith, starts_few a rs)), starts_in a n rs (omega arith)))
      (λ m. let z : i ≡ n = omega arith in rw z h))
      (λ l. omega (arith, starts_out a low (suc n) rs s (omega arith) l, rising_full low (suc n) rs s l))

  -- the last of the first n ranges
  abbrev pub last_of : ℕ → List (Ranged B) → Option (Ranged B)
  last_of zero rs = None
  last_of (suc n) rs = Some (get_or rs n d)

  -- "the previous range" is the last that begins before the next page
  pub previous_is : (g : ℕ) (rs : List (Ranged B)) → previous g rs ≡ last_of (starts_before (suc g) rs) rs
  unfolding previous starts_before
  previous_is g [] = refl
  previous_is g (r ∷ rs) =
      by-lt g (from r)
      (λ l. rw (lt-ltb g (from r) l, le-ltb (from r) (suc g) (omega arith)))
      (λ l. rw (le-ltb g (from r) l, lt-ltb (from r) (suc g) (omega arith))
      (ap (λ o. some_or o r) (previous_is g rs) ∙ go (starts_before (suc g) rs)))
    where
      go : (n : ℕ) → some_or (last_of n rs) r ≡ Some (get_or (r ∷ rs) n d)
      go zero = refl
      go (suc n) = refl

-- where a page is kept, by the previous range
abbrev pub slot_of : ℕ → Option Range → Option Slot
slot_of g None = None
slot_of g (Some r) = pick (covers g r) (Some (slot_in g r)) None

previous_low_none : (g low : ℕ) (rs : List Range) → Rising low rs → g < low → previous g rs ≡ None
unfolding previous Rising
previous_low_none g low [] s h = refl
previous_low_none g low (r ∷ rs) s h = rw (lt-ltb g (from r) (omega (arith, s.0)))

pub slot_previous : (g low : ℕ) (rs : List Range) → Rising low rs → slot_at g rs ≡ slot_of g (previous g rs)
unfolding slot_at previous Rising
slot_previous g low [] s = refl
slot_previous g low (r ∷ rs) s =
    by-lt g (from r)
    (λ l. rw (lt-ltb g (from r) l) (slot_low g r rs l ∙ below_all (upto r) g rs s.2 (omega arith)))
    (λ l. rw (le-ltb g (from r) l)
    (by-lt g (upto r)
    (λ u. rw (previous_low_none g (upto r) rs s.2 u, le-leb (from r) g l, lt-ltb g (upto r) u))
    (λ u. rw (le-leb (from r) g l, le-ltb g (upto r) u) (slot_previous g (upto r) rs s.2 ∙ go l u (previous g rs)))))
  where
    go : from r ≤ g → upto r ≤ g → (o : Option Range) → slot_of g o ≡ slot_of g (some_or o r)
    go l u None = rw (le-leb (from r) g l, le-ltb g (upto r) u)
    go l u (Some q) = refl
