-- What one turn, and the end, of each loop over the table says.
use Rattle.std.specs.Prelude.{◌≡◌, true, false, List, [], ◌∷◌, ◌++◌, ℕ, ◌+◌, ◌≤◌, ◌<◌, ltb, drop, length, take, Some, None}
use Rattle.std.proofs.Common.{ap, ◌∙◌, add-one, arith, le-ltb, lt-ltb, take-suc}
use Rattle.std.proofs.Math.Path.{sym}
use Rattle.lists.specs.Test.{pick}
use Rattle.lists.specs.Rest.{left_cons, left_end}
use Rattle.places.specs.declared.Place.{Place}
use Rattle.places.specs.Places.{frame_at, nowhere, place_at, stands_at, used_count}

-- ---- the search: the first k frames are passed
module _ (b i : ℕ) (ps : List Place) (n : ℕ) (m : n ≤ length ps) where
  pub frame_turn : (k : ℕ) → k < n → stands_at b i (place_at ps k) ≡ false → frame_at b i (k + 1) (drop (k + 1) (take n ps)) ≡ frame_at b i k (drop k (take n ps))
  unfolding frame_at
  frame_turn k h e = sym (rw (left_cons n ps k nowhere h m, e) (ap (λ j. frame_at b i j (drop (k + 1) (take n ps))) (sym (add-one k))))

  pub frame_hit : (k : ℕ) → k < n → stands_at b i (place_at ps k) ≡ true → frame_at b i k (drop k (take n ps)) ≡ Some k
  unfolding frame_at
  frame_hit k h e = rw (left_cons n ps k nowhere h m, e)

  pub frame_end : (k : ℕ) → n ≤ k → frame_at b i k (drop k (take n ps)) ≡ None
  unfolding frame_at
  frame_end k h = rw (left_end n ps k h)

-- ---- the count: one frame more
used_snoc : (xs : List Place) (p : Place) → used_count (xs ++ (p ∷ [])) ≡ used_count xs + pick (ltb 0 p.backing) 1 0
unfolding used_count
used_snoc [] p = omega arith
used_snoc (x ∷ xs) p = omega (arith, used_snoc xs p)

used_more : (ps : List Place) (k : ℕ) → k < length ps → used_count (take (k + 1) ps) ≡ used_count (take k ps) + pick (ltb 0 (place_at ps k).backing) 1 0
used_more ps k h = rw (add-one, take-suc ps k nowhere h) (used_snoc (take k ps) (place_at ps k))

pub used_held : (ps : List Place) (k : ℕ) → k < length ps → 0 < (place_at ps k).backing → used_count (take (k + 1) ps) ≡ used_count (take k ps) + 1
used_held ps k h e = used_more ps k h ∙ rw (lt-ltb 0 (place_at ps k).backing e)

pub used_free : (ps : List Place) (k : ℕ) → k < length ps → (place_at ps k).backing ≤ 0 → used_count (take (k + 1) ps) ≡ used_count (take k ps)
used_free ps k h e = used_more ps k h ∙ rw (le-ltb 0 (place_at ps k).backing e) (omega arith)
