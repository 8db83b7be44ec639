-- A function of a number, tabulated: f 0, f 1, .. n of them. What is kept by number (cells by frame, names) is such a list, and each edit is one of
-- the laws below.
use Rattle.std.specs.Prelude.{◌≡◌, List, [], ◌∷◌, map, get_or, length, replicate, set}
use Rattle.std.proofs.Math.Path.{refl, ap, ap₂}
use Prim.Native.Nat.{ℕ, zero, suc, ◌<◌}
use Rattle.std.proofs.Common.{sym, ◌∙◌, arith, le_of_suc-le-suc, not-suc-le-zero, ext_get_or}

module _ {A : Type 0} where
  unfoldable pub listed : (ℕ → A) → ℕ → List A
  listed f zero = []
  listed f (suc n) = f 0 ∷ listed (λ k. f (suc k)) n

  pub length_listed : (f : ℕ → A) (n : ℕ) → length (listed f n) ≡ n
  unfolding listed
  length_listed f zero = refl
  length_listed f (suc n) = ap suc (length_listed (λ k. f (suc k)) n)

  pub get_d_listed : (f : ℕ → A) (n k : ℕ) (d : A) → k < n → get_or (listed f n) k d ≡ f k
  unfolding listed
  get_d_listed f zero k d h = absurd (not-suc-le-zero h)
  get_d_listed f (suc n) zero d h = refl
  get_d_listed f (suc n) (suc k) d h = get_d_listed (λ k. f (suc k)) n k d (le_of_suc-le-suc h)

  -- one value n times
  pub listed_one : (a : A) (n : ℕ) → listed (λ k. a) n ≡ replicate n a
  unfolding listed
  listed_one a zero = refl
  listed_one a (suc n) = ap (λ l. a ∷ l) (listed_one a n)

  pub one_at : (a : A) (n k : ℕ) → get_or (replicate n a) k a ≡ a
  one_at a zero k = refl
  one_at a (suc n) zero = refl
  one_at a (suc n) (suc k) = one_at a n k

  -- equal functions, equal lists
  pub listed_ext : (f g : ℕ → A) (n : ℕ) → ((k : ℕ) → k < n → f k ≡ g k) → listed f n ≡ listed g n
  unfolding listed
  listed_ext f g zero h = refl
  listed_ext f g (suc n) h = ap₂ (λ x y. x ∷ y) (h 0 (omega arith)) (listed_ext (λ k. f (suc k)) (λ k. g (suc k)) n (λ k l. h (suc k) (omega arith)))

  -- one value changed, one element set
  pub listed_set : (f g : ℕ → A) (n i : ℕ) → ((k : ℕ) → k < n → (k ≡ i → ⊥) → g k ≡ f k) → listed g n ≡ set (listed f n) i (g i)
  unfolding listed
  listed_set f g zero i h = refl
  listed_set f g (suc n) zero h = ap (λ x. g 0 ∷ x) (listed_ext (λ k. g (suc k)) (λ k. f (suc k)) n (λ k l. h (suc k) (omega arith) (λ e. omega arith)))
  listed_set f g (suc n) (suc i) h =
      ap₂ (λ x y. x ∷ y) (h 0 (omega arith) (λ e. omega arith)) (listed_set (λ k. f (suc k)) (λ k. g (suc k)) n i (λ k l e. h (suc k) (omega arith) (λ z. e (omega arith))))

-- a list is tabulated from its elements
pub listed_all : {A : Type 0} (d : A) (l : List A) (n : ℕ) → length l ≡ n → listed (λ k. get_or l k d) n ≡ l
listed_all d l n e =
    let m = length_listed (λ k. get_or l k d) n in
    ext_get_or d (listed (λ k. get_or l k d) n) l (m ∙ sym e) (λ i h. get_d_listed (λ k. get_or l k d) n i d (omega (arith, m)))

pub listed_map : {A : Type 0} {B : Type 0} (h : A → B) (f : ℕ → A) (n : ℕ) → map h (listed f n) ≡ listed (λ k. h (f k)) n
unfolding listed
listed_map h f zero = refl
listed_map h f (suc n) = ap (λ x. h (f 0) ∷ x) (listed_map h (λ k. f (suc k)) n)
