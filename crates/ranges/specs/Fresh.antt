-- The smallest unused backing number is unused, and at most one more than there are ranges.
use Rattle.std.specs.Prelude.{◌≡◌, refl, ◌⊎◌, List, [], ◌∷◌, ℕ, zero, suc, ◌+◌, ◌≤◌, ◌<◌, eqb, length}
use Rattle.std.proofs.Common.{inl, inr, ⊎_elim, zero-le, arith, eqb-true, ne_eqb}
use Rattle.std.proofs.lemmas.Bool.{eqb-false}
use Rattle.lists.specs.Test.{by-test, by-eq}
use Rattle.ranges.specs.Range.{Range}
use Rattle.ranges.specs.Table.{holders, fresh, fresh_from}

-- how many ranges hold one of the k numbers from n on
total : ℕ → ℕ → List Range → ℕ
total zero n rs = 0
total (suc k) n rs = holders n rs + total k (suc n) rs

-- a range whose backing is below them does not count, and any range counts at most once
total_below : (k n : ℕ) (r : Range) (rs : List Range) → r.backing < n → total k n (r ∷ rs) ≡ total k n rs
unfolding total holders
total_below zero n r rs h = refl
total_below (suc k) n r rs h =
    rw (ne_eqb n r.backing (λ e. omega arith), total_below k (suc n) r rs (omega arith))

total_cons : (k n : ℕ) (r : Range) (rs : List Range) → total k n (r ∷ rs) ≤ suc (total k n rs)
unfolding total holders
total_cons zero n r rs = zero-le
total_cons (suc k) n r rs =
    by-test (eqb n r.backing)
    (λ t. rw (t, total_below k (suc n) r rs (omega (arith, eqb-true n r.backing t))) (omega arith))
    (λ t. rw t (omega (arith, total_cons k (suc n) r rs)))

total_nil : (k n : ℕ) → total k n [] ≡ 0
unfolding total holders
total_nil zero n = refl
total_nil (suc k) n = omega (arith, total_nil k (suc n))

total_length : (k n : ℕ) (rs : List Range) → total k n rs ≤ length rs
total_length k n [] = rw (total_nil k n) zero-le
total_length k n (r ∷ rs) = omega (arith, total_cons k n r rs, total_length k n rs)

-- the search finds an unused number, or all that it looked at are used
search_ends : (k n : ℕ) (rs : List Range) → (holders (fresh_from k n rs) rs ≡ 0) ⊎ (suc k ≤ total (suc k) n rs)
unfolding fresh_from total
search_ends zero n rs = by-eq (holders n rs) 0 (λ e. inl e) (λ e. inr (omega arith))
search_ends (suc k) n rs =
    by-test (eqb (holders n rs) 0)
    (λ t. inl (rw t (eqb-true (holders n rs) 0 t)))
    (λ t. ⊎_elim
    (λ e. inl (rw t e))
    (λ e. let z : holders n rs ≡ 0 → ⊥ = eqb-false (holders n rs) 0 t in inr (omega arith))
    (search_ends k (suc n) rs))

pub fresh_unused : (rs : List Range) → holders (fresh rs) rs ≡ 0
unfolding fresh
fresh_unused rs =
    ⊎_elim (λ e. e) (λ e. absurd (omega (arith, total_length (suc (length rs)) 1 rs))) (search_ends (length rs) 1 rs)

within_fuel : (k n : ℕ) (rs : List Range) → (n ≤ fresh_from k n rs) × (fresh_from k n rs ≤ n + k)
unfolding fresh_from
within_fuel zero n rs = omega arith
within_fuel (suc k) n rs =
    by-test (eqb (holders n rs) 0) (λ t. rw t (omega arith)) (λ t. rw t (omega (arith, within_fuel k (suc n) rs)))

pub fresh_small : (rs : List Range) → (1 ≤ fresh rs) × (fresh rs ≤ suc (length rs))
unfolding fresh
fresh_small rs = omega (arith, within_fuel (length rs) 1 rs)
