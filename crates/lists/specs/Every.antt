-- Tests of every element of a list, and of every number below n, with what they say.
use Rattle.std.specs.Prelude.{◌≡◌, Bool, false, ◌&&◌, get_or, length, take}
use Rattle.std.proofs.Math.Path.{refl}
use Rattle.std.proofs.Common.{sym, arith, add-one, eq-or-lt_of_le, le_of_suc-le-suc, not-suc-le-zero, take-suc}
use Rattle.std.proofs.Math.Bool.{true}
use Rattle.std.proofs.Math.Logic.{⊎_elim}
use mathlib.Core.List.{List, [], ◌∷◌, ◌++◌}
use Prim.Native.Nat.{ℕ, zero, suc, ◌+◌, ◌≤◌, ◌<◌}
use Rattle.lists.specs.Test.{and_left, and_right}

pub both_true : (a b : Bool) → (a && b) ≡ true → (a ≡ true) × (b ≡ true)
both_true a b h = (and_left a b h, and_right a b h)

pub true_both : (a b : Bool) → a ≡ true → b ≡ true → (a && b) ≡ true
true_both a b p q = rw (p, q)

pub none_both : (a : Bool) → (a && false) ≡ false
none_both true = refl
none_both false = refl

-- ---- numbers below n
unfoldable pub all_below : (ℕ → Bool) → ℕ → Bool
all_below P zero = true
all_below P (suc n) = P n && all_below P n

module _ (P : ℕ → Bool) where
  pub below_zero : all_below P 0 ≡ true
  unfolding all_below
  below_zero = refl

  pub below_next : (i : ℕ) → all_below P i ≡ true → P i ≡ true → all_below P (i + 1) ≡ true
  unfolding all_below
  below_next i h e = rw (add-one, e) h

  pub below_fails : (n i : ℕ) → i < n → P i ≡ false → false ≡ all_below P n
  unfolding all_below
  below_fails zero i h e = absurd (not-suc-le-zero h)
  below_fails (suc n) i h e =
      ⊎_elim (λ (q : i ≡ n). rw (← q, e)) (λ (q : i < n). rw (← below_fails n i q e) (sym (none_both (P n)))) (eq-or-lt_of_le (le_of_suc-le-suc h))

  pub below_done : (n i : ℕ) → all_below P i ≡ true → i ≤ n → n ≤ i → true ≡ all_below P n
  below_done n i h l u = let e : i ≡ n = omega arith in sym (rw (← e) h)

  pub below_at : (n : ℕ) → all_below P n ≡ true → (k : ℕ) → k < n → P k ≡ true
  unfolding all_below
  below_at zero h k l = absurd (not-suc-le-zero l)
  below_at (suc n) h k l =
      let b = both_true (P n) (all_below P n) h in
      ⊎_elim (λ (q : k ≡ n). rw q b.0) (λ (q : k < n). below_at n b.1 k q) (eq-or-lt_of_le (le_of_suc-le-suc l))

  pub at_below : (n : ℕ) → ((k : ℕ) → k < n → P k ≡ true) → all_below P n ≡ true
  unfolding all_below
  at_below zero h = refl
  at_below (suc n) h = true_both (P n) (all_below P n) (h n (omega arith)) (at_below n (λ k l. h k (omega arith)))

-- ---- elements of a list
module _ {A : Type 0} where
  unfoldable pub every : (A → Bool) → List A → Bool
  every P [] = true
  every P (x ∷ xs) = P x && every P xs

  -- each element has the property
  unfoldable pub All : (A → Type 0) → List A → Type 0
  All P [] = Unit {0}
  All P (x ∷ xs) = P x × All P xs

  module _ (P : A → Bool) where
    pub every_none : (l : List A) → every P (take 0 l) ≡ true
    unfolding every
    every_none l = refl

    every_snoc : (xs : List A) (x : A) → every P xs ≡ true → P x ≡ true → every P (xs ++ (x ∷ [])) ≡ true
    unfolding every
    every_snoc [] x h e = true_both (P x) true e refl
    every_snoc (y ∷ ys) x h e = let b = both_true (P y) (every P ys) h in true_both (P y) (every P (ys ++ (x ∷ []))) b.0 (every_snoc ys x b.1 e)

    pub every_next : (l : List A) (i : ℕ) (d : A) → i < length l → every P (take i l) ≡ true → P (get_or l i d) ≡ true → every P (take (i + 1) l) ≡ true
    every_next l i d h a e = rw (add-one, take-suc l i d h) (every_snoc (take i l) (get_or l i d) a e)

    pub every_fails : (l : List A) (n i : ℕ) (d : A) → i < n → n ≤ length l → P (get_or l i d) ≡ false → false ≡ every P (take n l)
    unfolding every
    every_fails [] n i d h k e = absurd (omega arith)
    every_fails (x ∷ xs) zero i d h k e = absurd (not-suc-le-zero h)
    every_fails (x ∷ xs) (suc n) zero d h k e = rw e
    every_fails (x ∷ xs) (suc n) (suc i) d h k e = rw (← every_fails xs n i d (le_of_suc-le-suc h) (le_of_suc-le-suc k) e) (sym (none_both (P x)))

  module _ (P : A → Bool) (Q : A → Type 0) where
    pub every_all : ((x : A) → P x ≡ true → Q x) → (l : List A) → every P l ≡ true → All Q l
    unfolding every All
    every_all f [] h = tt
    every_all f (x ∷ xs) h = let b = both_true (P x) (every P xs) h in (f x b.0, every_all f xs b.1)

    pub all_every : ((x : A) → Q x → P x ≡ true) → (l : List A) → All Q l → every P l ≡ true
    unfolding every All
    all_every f [] h = refl
    all_every f (x ∷ xs) h = true_both (P x) (every P xs) (f x h.0) (all_every f xs h.1)
