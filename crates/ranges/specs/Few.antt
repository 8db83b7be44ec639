-- How many ranges a cut and a put leave: at most one more, and at most two.
use Rattle.std.specs.Prelude.{◌≡◌, refl, ◌⊎◌, ℕ, suc, ◌+◌, ◌≤◌, length}
use Rattle.std.proofs.Common.{ap, inl, inr, zero-le, le_refl, arith, length-append}
use mathlib.Core.List.{List, [], ◌∷◌, ◌++◌, Memᴰ}
use Rattle.lists.specs.Test.{by-lt}
use Rattle.ranges.specs.Range.{Ranged, from, upto, front, back, carve, insert, put, Rising}
use Rattle.ranges.specs.Cut.{front_some, front_none, back_some, back_none}
use Rattle.ranges.specs.Put.{insert_here, insert_later}
use Rattle.ranges.specs.Find.{rising_low}

pieces : {B : Type 0} (a e : ℕ) (r : Ranged B) → length (front a r ++ back e r) ≤ 2
pieces a e r =
    by-lt (from r) a
    (λ p. by-lt e (upto r) (λ q. rw (front_some a r p, back_some e r q) (le_refl 2)) (λ q. rw (front_some a r p, back_none e r q) (omega arith)))
    (λ p. by-lt e (upto r) (λ q. rw (front_none a r p, back_some e r q) (omega arith)) (λ q. rw (front_none a r p, back_none e r q) (omega arith)))

-- a range that the cut does not lie within leaves one piece at most
one_piece : {B : Type 0} (a e : ℕ) (r : Ranged B) → (a ≤ from r) ⊎ (upto r ≤ e) → length (front a r ++ back e r) ≤ 1
one_piece a e r (inl p) = by-lt e (upto r) (λ q. rw (front_none a r p, back_some e r q) (le_refl 1)) (λ q. rw (front_none a r p, back_none e r q) (omega arith))
one_piece a e r (inr q) = by-lt (from r) a (λ p. rw (front_some a r p, back_none e r q) (le_refl 1)) (λ p. rw (front_none a r p, back_none e r q) (omega arith))

-- a cut that lies within no range leaves no more ranges
pub carve_apart : {B : Type 0} (a e : ℕ) (rs : List (Ranged B)) → ((r : Ranged B) → Memᴰ r rs → (a ≤ from r) ⊎ (upto r ≤ e)) → length (carve a e rs) ≤ length rs
unfolding carve
carve_apart a e [] h = zero-le
carve_apart a e (r ∷ rs) h =
    omega (arith, length-append (front a r ++ back e r) (carve a e rs), one_piece a e r (h r (Memᴰ.head refl)), carve_apart a e rs (λ q m. h q (Memᴰ.tail m)))

-- any cut leaves at most one range more
pub carve_more : {B : Type 0} (a e low : ℕ) (rs : List (Ranged B)) → a ≤ e → Rising low rs → length (carve a e rs) ≤ suc (length rs)
unfolding carve Rising
carve_more a e low [] h s = zero-le
carve_more a e low (r ∷ rs) h s =
    by-lt (from r) a
    (λ p. by-lt e (upto r)
    (λ q. omega (arith, sum, pieces a e r, carve_apart a e rs (λ x m. inl (omega (arith, rising_low (upto r) x rs s.2 m)))))
    (λ q. omega (arith, sum, one_piece a e r (inr q), carve_more a e (upto r) rs h s.2)))
    (λ p. omega (arith, sum, one_piece a e r (inl p), carve_more a e (upto r) rs h s.2))
  where
    sum : length (front a r ++ back e r ++ carve a e rs) ≡ length (front a r ++ back e r) + length (carve a e rs)
    sum = length-append (front a r ++ back e r) (carve a e rs)

insert_length : {B : Type 0} (n : Ranged B) (rs : List (Ranged B)) → length (insert n rs) ≡ suc (length rs)
unfolding insert
insert_length n [] = refl
insert_length n (r ∷ rs) = by-lt (from n) (from r) (λ p. rw (insert_here n r rs p)) (λ p. rw (insert_later n r rs p) (ap suc (insert_length n rs)))

-- a range put over its span: at most two ranges more
pub put_more : {B : Type 0} (n : Ranged B) (rs : List (Ranged B)) → Rising 0 rs → length (put n rs) ≤ length rs + 2
unfolding put
put_more n rs s = omega (arith, insert_length n (carve (from n) (upto n) rs), carve_more (from n) (upto n) 0 rs (omega arith) s)
