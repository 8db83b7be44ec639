-- What clearing or setting one bit of the map changes: that bit alone.
use Rattle.std.specs.Prelude.{◌≡◌, List, length, set}
use Rattle.std.proofs.Math.Path.{refl}
use Rattle.std.proofs.Common.{ap, subst, ◌∙◌, add-mul, mod-lt, mul-div_cancel, one-mul, pow-suc, pow-add, pow_pos, shl_exact, shr_lt, get_or-set_other}
use Prim.Native.Nat.{ℕ, suc, ◌+◌, ◌-◌, ◌*◌, ◌/◌, ◌%◌, ◌^◌, ◌<◌, min, max}
use Rattle.std.proofs.Math.Nat.{div-eq_of_lt, div_self, zero-div}
use native.Mathlib.Omega.{arith}
use Rattle.std.specs.Int.Bits.{bit_and, bit_or, and_step, or_step}
use Rattle.std.proofs.lemmas.Nat.{and_shr, or_shr}
use Rattle.std.proofs.Math.Pow.{high, ones_split, pow-lt, split}
use Rattle.std.proofs.Math.ListN.{get_or}
use Rattle.std.proofs.Math.Seq.{get_or-set_same}
use Rattle.lists.specs.Test.{by-eq, by-lt}
use Rattle.frames.specs.Free.{free_bit, cleared, marked}

-- ---- one word

and_bit : (a b g : ℕ) → bit_and a b / 2 ^ g % 2 ≡ min (a / 2 ^ g % 2) (b / 2 ^ g % 2)
and_bit a b g = rw (and_shr a b g) (omega (arith, and_step (a / 2 ^ g) (b / 2 ^ g)))

pub or_bit : (a b g : ℕ) → bit_or a b / 2 ^ g % 2 ≡ max (a / 2 ^ g % 2) (b / 2 ^ g % 2)
or_bit a b g = rw (or_shr a b g) (omega (arith, or_step (a / 2 ^ g) (b / 2 ^ g)))

-- the bits of 2 ^ b: bit b alone
pub one_same : (b : ℕ) → 2 ^ b / 2 ^ b % 2 ≡ 1
one_same b = rw (div_self (pow_pos b))

pub one_other : (b g : ℕ) → (g ≡ b → ⊥) → 2 ^ b / 2 ^ g % 2 ≡ 0
one_other b g ne =
    by-lt b g
    (λ l. rw (div-eq_of_lt (pow-lt l)))
    (λ l. let k : b ≡ suc (b - suc g) + g = by-eq g b (λ e. absurd (ne e)) (λ n. omega arith) in
    let x : 2 ^ b ≡ 2 ^ (b - suc g) * 2 * 2 ^ g = ap (λ (n : ℕ). 2 ^ n) k ∙ pow-add 2 (suc (b - suc g)) g ∙ ap (λ (n : ℕ). n * 2 ^ g) (pow-suc 2 (b - suc g)) in
    rw (x, mul-div_cancel (2 ^ (b - suc g) * 2) (pow_pos g)) (omega arith))

-- the bits of a complement
not_above : (j g a : ℕ) → a < 2 ^ (suc j + g) → (2 ^ (suc j + g) - 1 - a) / 2 ^ g % 2 ≡ 1 - a / 2 ^ g % 2
not_above j g a h =
    let p : ℕ = 2 ^ g in
    let q : ℕ = a / 2 ^ g in
    let m : ℕ = 2 ^ suc j - 1 in
    let lr : a % 2 ^ g < 2 ^ g = mod-lt a (pow_pos g) in
    let lq : a / 2 ^ g < 2 ^ suc j = shr_lt (suc j) g h in
    let ea : a / 2 ^ g * 2 ^ g + a % 2 ^ g ≡ a = split a g in
    let eo : 2 ^ (suc j + g) - 1 ≡ (2 ^ suc j - 1) * 2 ^ g + (2 ^ g - 1) = ones_split (suc j) g in
    let em : m ≡ (m - q) + q = omega arith in
    let ep : m * 2 ^ g ≡ (m - q) * 2 ^ g + q * 2 ^ g = ap (λ (n : ℕ). n * 2 ^ g) em ∙ add-mul (m - q) q (2 ^ g) in
    let x : 2 ^ (suc j + g) - 1 - a ≡ (m - q) * 2 ^ g + (2 ^ g - 1 - a % 2 ^ g) = omega arith in
    let l : 2 ^ g - 1 - a % 2 ^ g < 2 ^ g = omega arith in
    let e2 : 2 ^ suc j ≡ 2 ^ j * 2 = pow-suc 2 j in
    rw (x, high (m - q) g l) (omega arith)

pub not_bit : (a g : ℕ) → a < 2 ^ 64 → g < 64 → (2 ^ 64 - 1 - a) / 2 ^ g % 2 ≡ 1 - a / 2 ^ g % 2
not_bit a g h l = go (63 - g) (omega arith)
  where
    go : (j : ℕ) → suc j + g ≡ 64 → (2 ^ 64 - 1 - a) / 2 ^ g % 2 ≡ 1 - a / 2 ^ g % 2
    go j e = subst (λ (k : ℕ). a < 2 ^ k → (2 ^ k - 1 - a) / 2 ^ g % 2 ≡ 1 - a / 2 ^ g % 2) e (not_above j g a) h

-- 1 shifted left by less than 64
pub one_shifted : (b : ℕ) → b < 64 → 1 * 2 ^ b % 2 ^ 64 ≡ 2 ^ b
one_shifted b h = shl_exact {a = 1} 1 b 64 (omega arith) (omega arith) ∙ one-mul (2 ^ b)

-- ---- the map

-- a bit of a word that is 0
pub zero_bit : (ws : List ℕ) (g : ℕ) → get_or ws (g / 64) 0 ≡ 0 → free_bit ws g ≡ 0
unfolding free_bit
zero_bit ws g e = rw (e, zero-div)

pub bit_small : (ws : List ℕ) (g : ℕ) → free_bit ws g < 2
unfolding free_bit
bit_small ws g = omega arith

-- a word set anew: what its bits become, and the bits of the other words
module _ (ws : List ℕ) (f v : ℕ) (h : f / 64 < length ws) where
  word_bit : (g : ℕ) → g / 64 ≡ f / 64 → free_bit (set ws (f / 64) v) g ≡ v / 2 ^ (g % 64) % 2
  unfolding free_bit
  word_bit g e = rw (e, get_or-set_same ws (f / 64) v 0 h)

  word_others : (g : ℕ) → (g / 64 ≡ f / 64 → ⊥) → free_bit (set ws (f / 64) v) g ≡ free_bit ws g
  unfolding free_bit
  word_others g ne = rw (get_or-set_other ws (f / 64) (g / 64) v 0 ne)

module _ (ws : List ℕ) (f : ℕ) (h : f / 64 < length ws) where
  pub cleared_same : free_bit (cleared ws f) f ≡ 0
  unfolding cleared
  cleared_same =
      let w : ℕ = get_or ws (f / 64) 0 in
      let n = not_bit (2 ^ (f % 64)) (f % 64) (pow-lt {j = 64} (omega arith)) (omega arith) in
      let o = one_same (f % 64) in
      let a = and_bit w (2 ^ 64 - 1 - 2 ^ (f % 64)) (f % 64) in
      word_bit ws f (bit_and w (2 ^ 64 - 1 - 2 ^ (f % 64))) h f refl ∙ omega arith

  pub cleared_other : (g : ℕ) → (g ≡ f → ⊥) → free_bit (cleared ws f) g ≡ free_bit ws g
  unfolding cleared free_bit
  cleared_other g ne =
      let w : ℕ = get_or ws (f / 64) 0 in
      let v : ℕ = bit_and w (2 ^ 64 - 1 - 2 ^ (f % 64)) in
      by-eq (g / 64) (f / 64)
      (λ e. let n = not_bit (2 ^ (f % 64)) (g % 64) (pow-lt {j = 64} (omega arith)) (omega arith) in
      let o = one_other (f % 64) (g % 64) (λ z. ne (omega arith)) in
      let a = and_bit w (2 ^ 64 - 1 - 2 ^ (f % 64)) (g % 64) in
      let k : v / 2 ^ (g % 64) % 2 ≡ w / 2 ^ (g % 64) % 2 = omega arith in
      word_bit ws f v h g e ∙ k ∙ rw e)
      (λ e. word_others ws f v h g e)

  pub marked_same : free_bit (marked ws f) f ≡ 1
  unfolding marked
  marked_same =
      let w : ℕ = get_or ws (f / 64) 0 in
      let o = one_same (f % 64) in
      let a = or_bit w (2 ^ (f % 64)) (f % 64) in
      word_bit ws f (bit_or w (2 ^ (f % 64))) h f refl ∙ omega arith

  pub marked_other : (g : ℕ) → (g ≡ f → ⊥) → free_bit (marked ws f) g ≡ free_bit ws g
  unfolding marked free_bit
  marked_other g ne =
      let w : ℕ = get_or ws (f / 64) 0 in
      let v : ℕ = bit_or w (2 ^ (f % 64)) in
      by-eq (g / 64) (f / 64)
      (λ e. let o = one_other (f % 64) (g % 64) (λ z. ne (omega arith)) in
      let a = or_bit w (2 ^ (f % 64)) (g % 64) in
      let k : v / 2 ^ (g % 64) % 2 ≡ w / 2 ^ (g % 64) % 2 = omega arith in
      word_bit ws f v h g e ∙ k ∙ rw e)
      (λ e. word_others ws f v h g e)
