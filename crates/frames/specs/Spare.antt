-- The free map as the run book's list of free frames, the highest first.
use Rattle.std.specs.Prelude.{◌≡◌, false, Some, None}
use Rattle.std.proofs.Math.Path.{refl}
use Rattle.std.proofs.Common.{ap, sym, ◌∙◌, eqb-true}
use mathlib.Core.List.{List, [], ◌∷◌, tail}
use Prim.Native.Nat.{ℕ, zero, suc, ◌+◌, ◌≤◌, ◌<◌}
use native.Mathlib.Omega.{arith}
use Rattle.lists.specs.Test.{by-test}
use Rattle.lists.specs.Every.{All}
use Rattle.frames.specs.Free.{Falling, TakenOut, free_bit, head_of, highest_below, is_free, spare_of}

-- ---- maps with the same bits have the same list
pub spare_ext : (a b : List ℕ) (n : ℕ) → ((k : ℕ) → k < n → free_bit a k ≡ free_bit b k) → spare_of a n ≡ spare_of b n
unfolding spare_of
spare_ext a b zero h = refl
spare_ext a b (suc n) h = rw (h n (omega arith), spare_ext a b n (λ k l. h k (omega arith)))

-- ---- lists of frames
pub falling_wider : (m n : ℕ) (l : List ℕ) → m ≤ n → Falling m l → Falling n l
unfolding Falling
falling_wider m n [] h f = tt
falling_wider m n (x ∷ xs) h f = (let l = f.0 in omega arith, f.1)

head_is : (l : List ℕ) (f : ℕ) → head_of l ≡ Some f → l ≡ f ∷ tail l
head_is [] f e = absurd (let z : ◌≡◌ {A = ℕ} 0 1 = cc in omega arith)
head_is (x ∷ xs) f e = let q : x ≡ f = cc in ap (λ k. k ∷ xs) q

none_is : (l : List ℕ) → head_of l ≡ None → l ≡ []
none_is [] e = refl
none_is (x ∷ xs) e = absurd (let z : ◌≡◌ {A = ℕ} 0 1 = cc in omega arith)

module _ (ws : List ℕ) where
  -- frames whose bits are clear add nothing
  pub spare_above : (n k : ℕ) → ((f : ℕ) → n ≤ f → f < n + k → is_free ws f ≡ false) → spare_of ws (n + k) ≡ spare_of ws n
  unfolding spare_of
  spare_above n zero e = let z : n + 0 ≡ n = omega arith in rw z
  spare_above n (suc k) e =
      let z : n + suc k ≡ suc (n + k) = omega arith in
      rw z (rw (e (n + k) (omega arith) (omega arith)) (spare_above n k (λ f a b. e f a (omega arith))))

  -- ---- what is in the list
  pub spare_falls : (n : ℕ) → Falling n (spare_of ws n)
  unfolding spare_of Falling
  spare_falls zero = tt
  spare_falls (suc n) =
      by-test (is_free ws n)
      (λ t. rw t (omega arith, spare_falls n))
      (λ t. rw t (falling_wider n (suc n) (spare_of ws n) (omega arith) (spare_falls n)))

  pub spare_set : (n : ℕ) → All (λ f. free_bit ws f ≡ 1) (spare_of ws n)
  unfolding spare_of All
  spare_set zero = tt
  spare_set (suc n) =
      by-test (is_free ws n)
      (λ t. rw t (eqb-true (free_bit ws n) 1 t, spare_set n))
      (λ t. rw t (spare_set n))

  -- ---- the highest free frame is the list's head
  pub highest_head : (n : ℕ) → highest_below ws n ≡ head_of (spare_of ws n)
  unfolding highest_below spare_of
  highest_head zero = refl
  highest_head (suc n) = by-test (is_free ws n) (λ t. rw t) (λ t. rw t (highest_head n))

  -- a frame is found: it is the head, below n, and its bit is set
  pub highest_found : (n f : ℕ) → highest_below ws n ≡ Some f → (spare_of ws n ≡ f ∷ tail (spare_of ws n)) × (f < n) × (free_bit ws f ≡ 1)
  unfolding Falling All
  highest_found n f e =
      let q : spare_of ws n ≡ f ∷ tail (spare_of ws n) = head_is (spare_of ws n) f (sym (highest_head n) ∙ e) in
      let a = rw q at (spare_falls n) in
      let b = rw q at (spare_set n) in
      (q, a.0, b.0)

  -- none is found: the list is empty
  pub highest_none : (n : ℕ) → highest_below ws n ≡ None → spare_of ws n ≡ []
  highest_none n e = none_is (spare_of ws n) (sym (highest_head n) ∙ e)

-- ---- the highest free frame taken out of the map leaves the tail
pub spare_taken : (ws r : List ℕ) (n f : ℕ) → TakenOut ws f r → highest_below ws n ≡ Some f → spare_of r n ≡ tail (spare_of ws n)
unfolding highest_below spare_of
spare_taken ws r zero f t e = absurd (let z : ◌≡◌ {A = ℕ} 0 1 = cc in omega arith)
spare_taken ws r (suc n) f t e =
    by-test (is_free ws n)
    (λ s. let p : Some n ≡ Some f = rw s at e in
    let q : n ≡ f = cc in
    let o : free_bit r n ≡ 0 = ap (free_bit r) q ∙ t.clear in
    rw (s, o) (spare_ext r ws n (λ k l. t.others k (λ z. omega arith))))
    (λ s. let p : highest_below ws n ≡ Some f = rw s at e in
    let l : f < n = (highest_found ws n f p).1 in
    let o : free_bit r n ≡ free_bit ws n = t.others n (λ z. omega arith) in
    rw (o, s) (spare_taken ws r n f t p))
