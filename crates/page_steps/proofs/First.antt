-- The frame that a search over the places finds, from what `position` says.
use Rattle.std.specs.Prelude.{◌≡◌, Option, Some, None, MatchOption, true, false, List, [], ◌∷◌, ℕ, zero, suc, ◌+◌, ◌<◌, length}
use Rattle.std.proofs.Common.{refl, ap, sym, ◌∙◌, arith, not-suc-le-zero}
use Rattle.std.specs.List.{AllWithin, HoldsAt}
use Rattle.places.specs.declared.Place.{Place}
use Rattle.places.specs.Places.{frame_at, nowhere, place_at, stands_at}

module _ (b i : ℕ) where
  -- it is the first place where the frame stands
  frame_first : (k : ℕ) (ps : List Place) (f : ℕ) → f < length ps → stands_at b i (place_at ps f) ≡ true → ((j : ℕ) → j < f → stands_at b i (place_at ps j) ≡ false)
      → frame_at b i k ps ≡ Some (k + f)
  unfolding frame_at
  frame_first k [] f l s e = absurd (not-suc-le-zero l)
  frame_first k (p ∷ ps) zero l s e = let n : k ≡ k + 0 = omega arith in rw s (ap Some n)
  frame_first k (p ∷ ps) (suc f) l s e =
      let n : suc k + f ≡ k + suc f = omega arith in
      rw (e 0 (omega arith)) (frame_first (suc k) ps f (omega arith) s (λ j h. e (suc j) (omega arith)) ∙ ap Some n)

  frame_nowhere : (k : ℕ) (ps : List Place) → ((j : ℕ) → j < length ps → stands_at b i (place_at ps j) ≡ false) → frame_at b i k ps ≡ None
  unfolding frame_at
  frame_nowhere k [] e = refl
  frame_nowhere k (p ∷ ps) e = rw (e 0 (omega arith)) (frame_nowhere (suc k) ps (λ j h. e (suc j) (omega arith)))

  pub frame_told : (ps : List Place) (r : Option ℕ)
      → MatchOption r (AllWithin (λ p. stands_at b i p ≡ false) ps 0 (length ps))
      (λ f. (f < length ps) × HoldsAt (λ p. stands_at b i p ≡ true) ps f × AllWithin (λ p. stands_at b i p ≡ false) ps 0 f)
      → r ≡ frame_at b i 0 ps
  frame_told ps None h = sym (frame_nowhere 0 ps (λ j l. h j nowhere (omega arith) l))
  frame_told ps (Some f) h = let n : f ≡ 0 + f = omega arith in ap Some n ∙ sym (frame_first 0 ps f h.0 (h.1 nowhere) (λ j l. h.2 j nowhere (omega arith) l))
