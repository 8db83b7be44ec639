-- Loops over the first n elements of a list: what is left to look at.
use Rattle.std.specs.Prelude.{◌≡◌, Bool, true, false, List, [], ◌∷◌, ℕ, suc, ◌+◌, ◌≤◌, ◌<◌, drop, get_or, length, take}
use Rattle.std.proofs.Common.{ap, ◌∙◌, arith, add-one, drop_of_length-le, length-take, get_or-take, length-take-le}
use Rattle.std.proofs.Math.Seq.{drop-cons}
use Rattle.lists.specs.Every.{every}

module _ {A : Type 0} where
  pub left_cons : (n : ℕ) (l : List A) (k : ℕ) (d : A) → k < n → n ≤ length l → drop k (take n l) ≡ get_or l k d ∷ drop (k + 1) (take n l)
  left_cons n l k d h m =
      let e : length (take n l) ≡ n = length-take-le n l m in
      let g : get_or (take n l) k d ≡ get_or l k d = get_or-take n l k d h in
      rw add-one (drop-cons (take n l) k d (omega arith) ∙ ap (λ x. x ∷ drop (suc k) (take n l)) g)

  pub left_end : (n : ℕ) (l : List A) (k : ℕ) → n ≤ k → drop k (take n l) ≡ []
  left_end n l k h = drop_of_length-le (take n l) {i = k} (omega (arith, length-take n l))

  module _ (P : A → Bool) (l : List A) where
    pub rest_turn : (k : ℕ) (d : A) → k < length l → P (get_or l k d) ≡ true → every P (drop k l) ≡ every P (drop (k + 1) l)
    unfolding every
    rest_turn k d h e = rw (add-one, drop-cons l k d h, e)

    pub rest_fails : (k : ℕ) (d : A) → k < length l → P (get_or l k d) ≡ false → every P (drop k l) ≡ false
    unfolding every
    rest_fails k d h e = rw (drop-cons l k d h, e)

    pub rest_end : (k : ℕ) → length l ≤ k → every P (drop k l) ≡ true
    unfolding every
    rest_end k h = rw (drop_of_length-le l h)
