-- The count of set bits is the length of the list of free frames.
use Rattle.std.specs.Prelude.{◌≡◌, List, [], ◌∷◌, ◌++◌, set, take}
use Rattle.std.proofs.Math.Path.{refl, ap}
use Rattle.std.proofs.Common.{sym, ◌∙◌, ⊎_elim, div-one, eq-or-lt_of_le, le_of_suc-le-suc, not-suc-le-zero, pow-suc, add-one, eqb-true, get_or-set_other, take_all, take-suc}
use Prim.Native.Nat.{ℕ, zero, suc, ◌+◌, ◌-◌, ◌*◌, ◌/◌, ◌%◌, ◌^◌, ◌≤◌, ◌<◌}
use Rattle.std.proofs.Math.Nat.{div-div-eq-div-mul, div-eq_of_lt}
use native.Mathlib.Omega.{arith}
use Rattle.std.proofs.lemmas.Bool.{eqb-false}
use Rattle.std.specs.Int.Bits.{bit_and, and_le_l}
use Rattle.std.specs.Int.Count.{ones, ones_step}
use Rattle.std.proofs.Math.ListN.{get_or, length, length-set}
use Rattle.std.proofs.Math.Seq.{get_or-set_same}
use Rattle.lists.specs.Test.{by-eq, by-test}
use Rattle.frames.specs.Free.{TakenOut, cleared, free_bit, free_count, is_free, spare_of}
use Rattle.frames.specs.Bits.{bit_small, cleared_other, cleared_same, one_shifted}
use Rattle.frames.specs.Spare.{spare_ext}

-- one word more is counted
count_snoc : (xs : List ℕ) (w : ℕ) → free_count (xs ++ (w ∷ [])) ≡ free_count xs + ones w
count_snoc [] w = omega arith
count_snoc (x ∷ xs) w = omega (arith, count_snoc xs w)

pub count_more : (ws : List ℕ) (i : ℕ) → i < length ws → free_count (take (i + 1) ws) ≡ free_count (take i ws) + ones (get_or ws i 0)
count_more ws i h = rw (add-one, take-suc ws i 0) (count_snoc (take i ws) (get_or ws i 0))

-- one frame more is looked at
pub spare_more : (ws : List ℕ) (n : ℕ) → length (spare_of ws (suc n)) ≡ free_bit ws n + length (spare_of ws n)
unfolding spare_of
spare_more ws n =
    by-test (is_free ws n)
    (λ t. let e = eqb-true (free_bit ws n) 1 t in rw t (omega arith))
    (λ t. let e = eqb-false (free_bit ws n) 1 t in let z : free_bit ws n ≡ 0 = omega (arith, bit_small ws n) in rw t (omega arith))

module _ (ws : List ℕ) where
  bit_of : (i k : ℕ) → k < 64 → free_bit ws (i * 64 + k) ≡ get_or ws i 0 / 2 ^ k % 2
  unfolding free_bit
  bit_of i k h =
      let q : (i * 64 + k) / 64 ≡ i = omega arith in
      let m : (i * 64 + k) % 64 ≡ k = omega arith in
      rw (q, m)

  -- the bits of word i from k on, and those before, are the word's
  in_word : (i k : ℕ) → k ≤ 64 → length (spare_of ws (i * 64 + k)) + ones (get_or ws i 0 / 2 ^ k) ≡ length (spare_of ws (i * 64)) + ones (get_or ws i 0)
  in_word i zero h =
      let z : i * 64 + 0 ≡ i * 64 = omega arith in
      let o : get_or ws i 0 / 2 ^ 0 ≡ get_or ws i 0 = div-one (get_or ws i 0) in
      rw (z, o)
  in_word i (suc k) h =
      let w : ℕ = get_or ws i 0 in
      let z : i * 64 + suc k ≡ suc (i * 64 + k) = omega arith in
      let ih = in_word i k (omega arith) in
      let b = spare_more ws (i * 64 + k) in
      let c = bit_of i k (omega arith) in
      let s = ones_step (w / 2 ^ k) in
      let d : w / 2 ^ k / 2 ≡ w / 2 ^ suc k = div-div-eq-div-mul w (2 ^ k) 2 ∙ ap (λ y. w / y) (sym (pow-suc 2 k)) in
      let e : ones (w / 2 ^ k / 2) ≡ ones (w / 2 ^ suc k) = ap ones d in
      let f : length (spare_of ws (i * 64 + suc k)) ≡ length (spare_of ws (suc (i * 64 + k))) = ap (λ y. length (spare_of ws y)) z in
      omega arith

  words : (i : ℕ) → i ≤ length ws → ((k : ℕ) → get_or ws k 0 < 2 ^ 64) → length (spare_of ws (i * 64)) ≡ free_count (take i ws)
  unfolding ones
  words zero h small = unfold spare_of in refl
  words (suc i) h small =
      let ih = words i (omega arith) small in
      let a = in_word i 64 (omega arith) in
      let z : get_or ws i 0 / 2 ^ 64 ≡ 0 = div-eq_of_lt (small i) in
      let o : ones (get_or ws i 0 / 2 ^ 64) ≡ 0 = ap ones z in
      let m = count_more ws i (omega arith) in
      let n : free_count (take (i + 1) ws) ≡ free_count (take (suc i) ws) = ap (λ y. free_count (take y ws)) (add-one i) in
      let p : suc i * 64 ≡ i * 64 + 64 = omega arith in
      let q : length (spare_of ws (suc i * 64)) ≡ length (spare_of ws (i * 64 + 64)) = ap (λ y. length (spare_of ws y)) p in
      omega arith

  -- "the number of free frames is the count of set bits"
  pub count_spare : length ws ≡ 16 → ((k : ℕ) → get_or ws k 0 < 2 ^ 64) → free_count ws ≡ length (spare_of ws 1024)
  count_spare h small = sym (words 16 (omega arith) small ∙ ap free_count (take_all 16 ws (omega arith)))

-- ---- a frame taken out

-- the list is shorter by the bit that is cleared
pub spare_fewer : (ws r : List ℕ) (f : ℕ) → free_bit r f ≡ 0 → ((g : ℕ) → (g ≡ f → ⊥) → free_bit r g ≡ free_bit ws g)
    → (n : ℕ) → f < n → length (spare_of ws n) ≡ length (spare_of r n) + free_bit ws f
spare_fewer ws r f clear others zero h = absurd (not-suc-le-zero h)
spare_fewer ws r f clear others (suc n) h =
    let a = spare_more ws n in
    let b = spare_more r n in
    ⊎_elim
    (λ (q : f ≡ n). let c : free_bit r n ≡ 0 = ap (free_bit r) (sym q) ∙ clear in
    let d : free_bit ws f ≡ free_bit ws n = ap (free_bit ws) q in
    let s : length (spare_of r n) ≡ length (spare_of ws n) = ap length (spare_ext r ws n (λ k l. others k (λ z. omega arith))) in
    omega arith)
    (λ (q : f < n). let c : free_bit r n ≡ free_bit ws n = others n (λ z. omega arith) in
    let ih = spare_fewer ws r f clear others n q in
    omega arith)
    (eq-or-lt_of_le (le_of_suc-le-suc h))

module _ (ws : List ℕ) (f : ℕ) (h : length ws ≡ 16) (small : (k : ℕ) → get_or ws k 0 < 2 ^ 64) (l : f < 1024) where
  cleared_small : (k : ℕ) → get_or (cleared ws f) k 0 < 2 ^ 64
  unfolding cleared
  cleared_small k =
      let w : ℕ = get_or ws (f / 64) 0 in
      let m : ℕ = 2 ^ 64 - 1 - 2 ^ (f % 64) in
      by-eq k (f / 64)
      (λ e. rw (e, get_or-set_same ws (f / 64) (bit_and w m) 0 (omega arith)) (omega (arith, and_le_l w m, small (f / 64))))
      (λ e. rw (get_or-set_other ws (f / 64) k (bit_and w m) 0 e) (small k))

  cleared_long : length (cleared ws f) ≡ 16
  unfolding cleared
  cleared_long = simp length-set h

  -- the map with bit f cleared is the map with frame f taken out
  pub taken_out : (r : List ℕ) → r ≡ cleared ws f → TakenOut ws f r
  taken_out r e =
      let i : f / 64 < length ws = omega arith in
      let x = cleared_same ws f i in
      let y = cleared_other ws f i in
      let a = count_spare ws h small in
      let b = count_spare (cleared ws f) cleared_long cleared_small in
      let c = spare_fewer ws (cleared ws f) f x y 1024 l in
      record {
        words = e;
        clear = rw e x;
        others = λ g ne. rw e (y g ne);
        count = rw e (omega arith);
      }

  -- the store that the code makes
  pub taken_store : TakenOut ws f (set ws (f / 64) (bit_and (get_or ws (f / 64) 0) (2 ^ 64 - 1 - 1 * 2 ^ (f % 64) % 2 ^ 64)))
  taken_store =
      let e : 1 * 2 ^ (f % 64) % 2 ^ 64 ≡ 2 ^ (f % 64) = one_shifted (f % 64) (omega arith) in
      rw e (unfold cleared in taken_out (cleared ws f) refl)
