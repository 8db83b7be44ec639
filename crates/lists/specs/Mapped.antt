-- Loops that replace each element by a function of it.
use Rattle.std.specs.Prelude.{◌≡◌, ℕ, suc, ◌+◌, ◌<◌, take, drop, get_or, set}
use Rattle.std.proofs.Math.Path.{refl, sym, ap}
use Rattle.std.proofs.Common.{◌∙◌, arith}
use mathlib.Core.List.{List, [], ◌∷◌, ◌++◌, map}
use Rattle.std.proofs.Math.Numerals.{add-one}
use Rattle.std.proofs.Math.ListN.{length, length-map}
use Rattle.std.proofs.Math.Seq.{length-take-le, drop-cons, take-suc, append_snoc}
use Rattle.std.proofs.lemmas.List.{set_at, get_or_at}

-- The loop that replaces each element by g of it, from the front.
module _ {A : Type 0} (g : A → A) where
  unfoldable pub mapped : List A → ℕ → List A
  mapped l i = map g (take i l) ++ drop i l

  pub mapped_none : (l : List A) → l ≡ mapped l 0
  unfolding mapped
  mapped_none l = refl

  pub mapped_turn : (l cur : List A) (i : ℕ) (v z : A) → i < length l → v ≡ g (get_or l i z) → cur ≡ mapped l i → set cur i v ≡ mapped l (i + 1)
  unfolding mapped
  mapped_turn l cur i v z h ev e =
      let n : length (map g (take i l)) ≡ i = length-map (take i l) g ∙ length-take-le i l (omega arith) in
      rw (e, ev, add-one, drop-cons l i z h, take-suc l i z h, map_snoc (take i l) (get_or l i z))
      (set_at (map g (take i l)) (get_or l i z) (drop (suc i) l) (g (get_or l i z)) i n ∙ sym (append_snoc (map g (take i l)) (g (get_or l i z)) (drop (suc i) l)))
    where
      map_snoc : (xs : List A) (x : A) → map g (xs ++ (x ∷ [])) ≡ map g xs ++ (g x ∷ [])
      map_snoc [] x = refl
      map_snoc (y ∷ ys) x = ap (λ (r : List A). g y ∷ r) (map_snoc ys x)

  -- what is not reached yet is as it was
  pub mapped_rest : (l cur : List A) (i : ℕ) (z : A) → i < length l → cur ≡ mapped l i → get_or cur i z ≡ get_or l i z
  unfolding mapped
  mapped_rest l cur i z h e =
      let n : length (map g (take i l)) ≡ i = length-map (take i l) g ∙ length-take-le i l (omega arith) in
      rw (e, drop-cons l i z h) (get_or_at (map g (take i l)) (get_or l i z) (drop (suc i) l) z i n)
