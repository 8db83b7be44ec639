-- One bit of the word of live names set or cleared, as `live | (1u32 << o)` and `live & !(1u32 << o)` do it: one name of the book set.
use Rattle.std.specs.Prelude.{◌≡◌, Bool, true, false, List, [], ◌∷◌, ℕ, ◌+◌, ◌-◌, ◌*◌, ◌/◌, ◌%◌, ◌^◌, ◌<◌, min, eqb, length, get_or, set}
use Rattle.std.proofs.Common.{ap, sym, subst, ◌∙◌, one-mul, arith, shl_exact, eq-eqb, ne_eqb}
use Rattle.std.specs.Int.Bits.{bit_and, bit_or, and_step}
use Rattle.std.proofs.lemmas.Nat.{and_shr}
use Rattle.std.proofs.Math.Pow.{field, mod-mod-pow, not_mod, pow-lt}
use Rattle.lists.specs.Listed.{listed, get_d_listed, length_listed, listed_set}
use Rattle.frames.specs.Free.{free_bit, cleared, marked}
use Rattle.frames.specs.Bits.{cleared_same, cleared_other, marked_same, marked_other}
use Rattle.store.specs.Abs.{live_bit, live_of}

-- ---- a word alone, as a map of one word

word_bit : (w g : ℕ) → g < 64 → free_bit (w ∷ []) g ≡ w / 2 ^ g % 2
unfolding free_bit
word_bit w g h =
    let q : g / 64 ≡ 0 = omega arith in
    let r : g % 64 ≡ g = omega arith in
    rw (q, r)

marked_word : (w o : ℕ) → o < 64 → marked (w ∷ []) o ≡ bit_or w (2 ^ o) ∷ []
unfolding marked
marked_word w o h =
    let q : o / 64 ≡ 0 = omega arith in
    let r : o % 64 ≡ o = omega arith in
    rw (q, r)

cleared_word : (w o : ℕ) → o < 64 → cleared (w ∷ []) o ≡ bit_and w (2 ^ 64 - 1 - 2 ^ o) ∷ []
unfolding cleared
cleared_word w o h =
    let q : o / 64 ≡ 0 = omega arith in
    let r : o % 64 ≡ o = omega arith in
    rw (q, r)

-- the bit of a word that is a map's
bit_in : (ws : List ℕ) (w g : ℕ) → g < 64 → ws ≡ w ∷ [] → w / 2 ^ g % 2 ≡ free_bit ws g
bit_in ws w g h e = sym (word_bit w g h) ∙ ap (λ l. free_bit l g) (sym e)

-- ---- the complement in 32 bits

and_bit : (a b g : ℕ) → bit_and a b / 2 ^ g % 2 ≡ min (a / 2 ^ g % 2) (b / 2 ^ g % 2)
and_bit a b g = rw (and_shr a b g) (omega (arith, and_step (a / 2 ^ g) (b / 2 ^ g)))

low_bit : (z g : ℕ) → g < 32 → z % 2 ^ 32 / 2 ^ g % 2 ≡ z / 2 ^ g % 2
low_bit z g h = go (31 - g) (omega arith)
  where
    go : (j : ℕ) → j + 1 + g ≡ 32 → z % 2 ^ 32 / 2 ^ g % 2 ≡ z / 2 ^ g % 2
    go j e = subst (λ (k : ℕ). z % 2 ^ k / 2 ^ g % 2 ≡ z / 2 ^ g % 2) e (ap (λ y. y % 2) (field z (j + 1) g) ∙ mod-mod-pow (z / 2 ^ g) j 1)

short_bit : (w o g : ℕ) → o < 32 → g < 32 → bit_and w (2 ^ 32 - 1 - 2 ^ o) / 2 ^ g % 2 ≡ bit_and w (2 ^ 64 - 1 - 2 ^ o) / 2 ^ g % 2
short_bit w o g h l =
    let m : (2 ^ 64 - 1 - 2 ^ o) % 2 ^ 32 ≡ 2 ^ 32 - 1 - 2 ^ o = not_mod {a = 2 ^ o} 32 32 (pow-lt h) in
    let b : (2 ^ 32 - 1 - 2 ^ o) / 2 ^ g % 2 ≡ (2 ^ 64 - 1 - 2 ^ o) / 2 ^ g % 2 = ap (λ y. y / 2 ^ g % 2) (sym m) ∙ low_bit (2 ^ 64 - 1 - 2 ^ o) g l in
    and_bit w (2 ^ 32 - 1 - 2 ^ o) g ∙ ap (λ y. min (w / 2 ^ g % 2) y) b ∙ sym (and_bit w (2 ^ 64 - 1 - 2 ^ o) g)

-- ---- the names

one_shifted : (o : ℕ) → o < 32 → 1 * 2 ^ o % 2 ^ 32 ≡ 2 ^ o
one_shifted o h = shl_exact {a = 1} 1 o 32 (omega arith) (omega arith) ∙ one-mul (2 ^ o)

-- one bit that is t, and every other as it was: one name set
pub live_one : (w v o : ℕ) (t : Bool) → live_bit v o ≡ t → ((g : ℕ) → g < 32 → (g ≡ o → ⊥) → v / 2 ^ g % 2 ≡ w / 2 ^ g % 2) → live_of v ≡ set (live_of w) o t
unfolding live_of
live_one w v o t e h =
    listed_set (live_bit w) (live_bit v) 32 o (λ g l ne. ap (λ z. eqb z 1) (h g l ne))
    ∙ ap (λ z. set (listed (live_bit w) 32) o z) e

-- the bit set: the name is live
pub live_set : (w o : ℕ) → o < 32 → live_of (bit_or w (1 * 2 ^ o % 2 ^ 32)) ≡ set (live_of w) o true
live_set w o h =
    let e : marked (w ∷ []) o ≡ bit_or w (2 ^ o) ∷ [] = marked_word w o (omega arith) in
    let b : bit_or w (2 ^ o) / 2 ^ o % 2 ≡ 1 = bit_in (marked (w ∷ []) o) (bit_or w (2 ^ o)) o (omega arith) e ∙ marked_same (w ∷ []) o (omega arith) in
    rw (one_shifted o h)
    (live_one w (bit_or w (2 ^ o)) o true (eq-eqb (bit_or w (2 ^ o) / 2 ^ o % 2) 1 b)
    (λ g l ne. bit_in (marked (w ∷ []) o) (bit_or w (2 ^ o)) g (omega arith) e ∙ marked_other (w ∷ []) o (omega arith) g ne ∙ word_bit w g (omega arith)))

-- the bit cleared: it is not
pub live_cleared : (w o : ℕ) → o < 32 → live_of (bit_and w (2 ^ 32 - 1 - 1 * 2 ^ o % 2 ^ 32)) ≡ set (live_of w) o false
live_cleared w o h =
    let v : ℕ = bit_and w (2 ^ 64 - 1 - 2 ^ o) in
    let e : cleared (w ∷ []) o ≡ v ∷ [] = cleared_word w o (omega arith) in
    let b : v / 2 ^ o % 2 ≡ 0 = bit_in (cleared (w ∷ []) o) v o (omega arith) e ∙ cleared_same (w ∷ []) o (omega arith) in
    let c : bit_and w (2 ^ 32 - 1 - 2 ^ o) / 2 ^ o % 2 ≡ 0 = short_bit w o o h h ∙ b in
    rw (one_shifted o h)
    (live_one w (bit_and w (2 ^ 32 - 1 - 2 ^ o)) o false (ne_eqb (bit_and w (2 ^ 32 - 1 - 2 ^ o) / 2 ^ o % 2) 1 (λ z. omega arith))
    (λ g l ne. short_bit w o g h l ∙ bit_in (cleared (w ∷ []) o) v g (omega arith) e ∙ cleared_other (w ∷ []) o (omega arith) g ne ∙ word_bit w g (omega arith)))

-- there are 32 names, and name o is live where its bit is set
pub live_length : (w : ℕ) → length (live_of w) ≡ 32
unfolding live_of
live_length w = length_listed (live_bit w) 32

pub live_at : (w o : ℕ) → o < 32 → get_or (live_of w) o false ≡ live_bit w o
unfolding live_of
live_at w o h = get_d_listed (live_bit w) 32 o false h
