-- How many ranges a span meets: a range put in outside the span does not change it.
use Rattle.std.specs.Prelude.{◌≡◌, ◌⊎◌, ℕ, ◌+◌, ◌-◌, ◌≤◌, ◌<◌, min, max}
use Rattle.std.proofs.Math.Path.{refl}
use Rattle.std.proofs.Common.{ap, sym, ◌∙◌, inl, inr, arith}
use Rattle.std.proofs.Math.Logic.{⊎_elim}
use mathlib.Core.List.{List, [], ◌∷◌, ◌++◌}
use Rattle.std.proofs.Math.ListN.{length, length-append}
use Rattle.lists.specs.Test.{by-lt}
use Rattle.ranges.specs.Range.{Range, line, from, upto, keep, skip, front, back, carve, insert, put}
use Rattle.ranges.specs.Table.{part, parts}
use Rattle.ranges.specs.Cut.{front_some, front_none, back_some, back_none}
use Rattle.ranges.specs.Put.{insert_here, insert_later}
use Rattle.ranges.specs.Parts.{part_some, part_none}

-- how many ranges the span meets
abbrev pub meets : ℕ → ℕ → List Range → ℕ
meets a e rs = length (parts a e rs)

meets_append : (a e : ℕ) (xs ys : List Range) → meets a e (xs ++ ys) ≡ meets a e xs + meets a e ys
unfolding parts
meets_append a e [] ys = omega arith
meets_append a e (x ∷ xs) ys = omega (arith, meets_append a e xs ys, length-append (part a e x) (parts a e (xs ++ ys)), length-append (part a e x) (parts a e xs))

meets_one : (a e : ℕ) (r : Range) → meets a e (r ∷ []) ≡ length (part a e r)
unfolding parts
meets_one a e r = omega (arith, length-append (part a e r) [])

-- a range that begins after the span or ends before it is not met
part_off : (a e : ℕ) (r : Range) → (upto r ≤ a) ⊎ (e ≤ from r) → length (part a e r) ≡ 0
part_off a e r x = ap length (part_none a e r (⊎_elim (λ (l : upto r ≤ a). omega arith) (λ (l : e ≤ from r). omega arith) x))

-- two ranges that have the same of the span
part_same : (a e : ℕ) (q r : Range) → ((max a (from r) < min e (upto r)) → max a (from q) < min e (upto q)) → ((min e (upto r) ≤ max a (from r)) → min e (upto q) ≤ max a (from q))
    → length (part a e q) ≡ length (part a e r)
part_same a e q r f g =
    by-lt (max a (from r)) (min e (upto r))
    (λ l. ap length (part_some a e q (f l)) ∙ sym (ap length (part_some a e r l)))
    (λ l. ap length (part_none a e q (g l)) ∙ sym (ap length (part_none a e r l)))

module _ (a e c d : ℕ) (h : c ≤ d) where
  -- a cut behind the span
  front_behind : e ≤ c → (r : Range) → meets a e (front c r) ≡ length (part a e r)
  unfolding parts
  front_behind l r =
      by-lt (from r) c
      (λ p. rw (front_some c r p) (meets_one a e _ ∙ part_same a e (keep (min r.len (c - from r)) r) r (λ x. omega arith) (λ x. omega arith)))
      (λ p. rw (front_none c r p) (sym (part_off a e r (inr (omega arith)))))

  back_behind : e ≤ c → (r : Range) → meets a e (back d r) ≡ 0
  unfolding parts
  back_behind l r =
      by-lt d (upto r)
      (λ p. rw (back_some d r p) (meets_one a e _ ∙ part_off a e (skip (d - from r) r) (inr (omega arith))))
      (λ p. rw (back_none d r p))

  -- a cut before it
  front_before : d ≤ a → (r : Range) → meets a e (front c r) ≡ 0
  unfolding parts
  front_before l r =
      by-lt (from r) c
      (λ p. rw (front_some c r p) (meets_one a e _ ∙ part_off a e (keep (min r.len (c - from r)) r) (inl (omega arith))))
      (λ p. rw (front_none c r p))

  back_before : d ≤ a → (r : Range) → meets a e (back d r) ≡ length (part a e r)
  unfolding parts
  back_before l r =
      by-lt d (upto r)
      (λ p. rw (back_some d r p) (meets_one a e _ ∙ part_same a e (skip (d - from r) r) r (λ x. omega arith) (λ x. omega arith)))
      (λ p. rw (back_none d r p) (sym (part_off a e r (inl (omega arith)))))

  meets_carve : (d ≤ a) ⊎ (e ≤ c) → (rs : List Range) → meets a e (carve c d rs) ≡ meets a e rs
  unfolding carve parts
  meets_carve x [] = refl
  meets_carve x (r ∷ rs) =
      omega (arith, meets_append a e (front c r ++ back d r) (carve c d rs), meets_append a e (front c r) (back d r), length-append (part a e r) (parts a e rs), meets_carve x rs, two)
    where
      two : meets a e (front c r) + meets a e (back d r) ≡ length (part a e r)
      two = ⊎_elim (λ (l : d ≤ a). omega (arith, front_before l r, back_before l r)) (λ (l : e ≤ c). omega (arith, front_behind l r, back_behind l r)) x

meets_insert : (a e : ℕ) (n : Range) → length (part a e n) ≡ 0 → (rs : List Range) → meets a e (insert n rs) ≡ meets a e rs
unfolding insert parts
meets_insert a e n z [] = meets_one a e n ∙ z
meets_insert a e n z (r ∷ rs) =
    by-lt (from n) (from r)
    (λ p. rw (insert_here n r rs p) (omega (arith, length-append (part a e n) (part a e r ++ parts a e rs))))
    (λ p. rw (insert_later n r rs p) (omega (arith, length-append (part a e r) (parts a e (insert n rs)), length-append (part a e r) (parts a e rs), meets_insert a e n z rs)))

-- a range put in outside the span
pub meets_put : (a e : ℕ) (n : Range) (rs : List Range) → (upto n ≤ a) ⊎ (e ≤ from n) → meets a e (put n rs) ≡ meets a e rs
unfolding put
meets_put a e n rs x = meets_insert a e n (part_off a e n x) (carve (from n) (upto n) rs) ∙ meets_carve a e (from n) (upto n) (omega arith) x rs

-- n pages from page q of an object s, and a range of another object
pub other_object : (s q n : ℕ) (r : Range) → (s ≡ r.object → ⊥) → q + n ≤ 262144 → r.start + r.len ≤ 262144 → (upto r ≤ line s q) ⊎ (line s q + n ≤ from r)
other_object s q n r ne h k = by-lt s r.object (λ l. inr (omega arith)) (λ l. inl (omega arith))
