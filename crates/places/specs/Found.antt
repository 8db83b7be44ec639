-- What the search for a frame says.
use Rattle.std.proofs.Math.Path.{◌≡◌}
use Rattle.std.specs.Prelude.{Bool, true, length, Some, None}
use Rattle.std.proofs.Math.Bool.{false}
use mathlib.Core.List.{List, [], ◌∷◌}
use Prim.Native.Nat.{ℕ, zero, suc, ◌+◌, ◌<◌}
use Rattle.std.proofs.Common.{le_of_suc-le-suc, not-suc-le-zero, arith}
use Rattle.lists.specs.Test.{by-test}
use Rattle.places.specs.declared.Place.{Place}
use Rattle.places.specs.Places.{frame_at, place_at, stands_at}

-- frame f of a table counted from k is the first that stands at index i of backing b
pub record FirstAt (b i k : ℕ) (ps : List Place) (f : ℕ) : Type 0 where
  pub at : ℕ
  pub number : f ≡ k + at
  pub inside : at < length ps
  pub stands : stands_at b i (place_at ps at) ≡ true
  pub before : (j : ℕ) → j < at → stands_at b i (place_at ps j) ≡ false

-- one place more in front
each_cons : (P : Place → Bool) (p : Place) (ps : List Place) (n : ℕ) → P p ≡ false → ((j : ℕ) → j < n → P (place_at ps j) ≡ false)
    → (j : ℕ) → j < suc n → P (place_at (p ∷ ps) j) ≡ false
each_cons P p ps n t h zero l = t
each_cons P p ps n t h (suc j) l = h j (le_of_suc-le-suc l)

module _ (b i : ℕ) where
  pub frame_found : (k : ℕ) (ps : List Place) (f : ℕ) → frame_at b i k ps ≡ Some f → FirstAt b i k ps f
  unfolding frame_at
  frame_found k [] f e = absurd (let z : ◌≡◌ {A = ℕ} 0 1 = cc in omega arith)
  frame_found k (p ∷ ps) f e =
      by-test (stands_at b i p)
      (λ t. let q : Some k ≡ Some f = rw t at e in
      let z : k ≡ f = cc in
      record { at = 0; number = omega arith; inside = omega arith; stands = t; before = λ j l. absurd (not-suc-le-zero l) })
      (λ t. later t (frame_found (suc k) ps f (rw t at e)))
    where
      later : stands_at b i p ≡ false → FirstAt b i (suc k) ps f → FirstAt b i k (p ∷ ps) f
      later t r =
          let x = r.inside in
          let y = r.number in
          record {
            at = suc r.at;
            number = omega arith;
            inside = omega arith;
            stands = r.stands;
            before = λ j l. each_cons (stands_at b i) p ps r.at t r.before j l;
          }

  -- no frame is found: none stands there
  pub frame_none : (k : ℕ) (ps : List Place) → frame_at b i k ps ≡ None → (j : ℕ) → j < length ps → stands_at b i (place_at ps j) ≡ false
  unfolding frame_at
  frame_none k [] e j l = absurd (not-suc-le-zero l)
  frame_none k (p ∷ ps) e j l =
      by-test (stands_at b i p)
      (λ t. absurd (let q : Some k ≡ None = rw t at e in let z : ◌≡◌ {A = ℕ} 0 1 = cc in omega arith))
      (λ t. each_cons (stands_at b i) p ps (length ps) t (frame_none (suc k) ps (rw t at e)) j l)
