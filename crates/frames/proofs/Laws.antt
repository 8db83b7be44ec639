-- What the search for the highest free frame needs: the highest bit of the last word that is not 0 is the highest of all.
use Rattle.std.specs.Prelude.{Some, None}
use mathlib.Core.Path.{◌≡◌, refl, ap, ◌∙◌}
use mathlib.Core.Logic.{⊎_elim}
use mathlib.Core.List.{List}
use Prim.Native.Nat.{ℕ, zero, suc, ◌+◌, ◌-◌, ◌*◌, ◌/◌, ◌%◌, ◌^◌, ◌≤◌, ◌<◌}
use native.Mathlib.Nat.{div-eq_of_lt-le, div-eq_of_lt, eq-or-lt_of_le, le_of_suc-le-suc, lt_of_lt_of_le, not-suc-le-zero, one-mul, pow-suc}
use native.Mathlib.Numerals.{add-one}
use native.Mathlib.Omega.{arith}
use borrow.Author.Tests.{eq-eqb}
use lib.ListN.{get_or}
use lib.Pow.{pow_mono}
use Rattle.frames.specs.Free.{Top, free_bit, highest_below}
use Rattle.frames.specs.Bits.{zero_bit}

-- the highest set bit is set
bit_top : (w r : ℕ) → Top w r → w / 2 ^ r % 2 ≡ 1
bit_top w r t =
    let e : 2 ^ (r + 1) ≡ 2 ^ r * 2 = ap (λ (k : ℕ). 2 ^ k) (add-one r) ∙ pow-suc 2 r in
    let h = t.high in
    let d : w / 2 ^ r ≡ 1 = div-eq_of_lt-le {k = 1} (2 ^ r) (rw one-mul t.low) (omega (arith, e)) in
    ap (λ (k : ℕ). k % 2) d

-- and none above it
bit_above : (w r g : ℕ) → w < 2 ^ (r + 1) → r < g → w / 2 ^ g % 2 ≡ 0
bit_above w r g h l =
    let k : r + 1 ≤ g = omega arith in
    ap (λ (k : ℕ). k % 2) (div-eq_of_lt (lt_of_lt_of_le h (pow_mono k)))

highest_at : (ws : List ℕ) (n f : ℕ) → f < n → free_bit ws f ≡ 1 → ((g : ℕ) → f < g → g < n → free_bit ws g ≡ 0) → highest_below ws n ≡ Some f
unfolding highest_below
highest_at ws zero f h e above = absurd (not-suc-le-zero h)
highest_at ws (suc n) f h e above =
    ⊎_elim
    (λ (q : f ≡ n). rw (← q, eq-eqb _ _ e))
    (λ (q : f < n). rw (above n q (omega arith)) (highest_at ws n f q e (λ g a b. above g a (omega arith))))
    (eq-or-lt_of_le (le_of_suc-le-suc h))

highest_nowhere : (ws : List ℕ) (n : ℕ) → ((g : ℕ) → g < n → free_bit ws g ≡ 0) → highest_below ws n ≡ None
unfolding highest_below
highest_nowhere ws zero none = refl
highest_nowhere ws (suc n) none = rw (none n (omega arith)) (highest_nowhere ws n (λ g a. none g (omega arith)))

-- the words above i are 0, and b is the place of word i's highest bit: the highest free frame
pub highest_word : (ws : List ℕ) (i b : ℕ) → i < 16 → Top (get_or ws i 0) b → ((k : ℕ) → i < k → k < 16 → get_or ws k 0 ≡ 0)
    → highest_below ws 1024 ≡ Some (i * 64 + b)
unfolding free_bit
highest_word ws i b h t above =
    let s = t.small in
    let q : (i * 64 + b) / 64 ≡ i = omega arith in
    let m : (i * 64 + b) % 64 ≡ b = omega arith in
    highest_at ws 1024 (i * 64 + b) (omega arith) (rw (q, m) (bit_top (get_or ws i 0) b t))
    (λ g l u. ⊎_elim
    (λ (e : i ≡ g / 64). rw (← e) (bit_above (get_or ws i 0) b (g % 64) t.high (omega arith)))
    (λ (e : i < g / 64). zero_bit ws g (above (g / 64) e (omega arith)))
    (eq-or-lt_of_le (omega arith)))

-- all words are 0: no frame is free
pub highest_zero : (ws : List ℕ) → ((k : ℕ) → k < 16 → get_or ws k 0 ≡ 0) → highest_below ws 1024 ≡ None
highest_zero ws none = highest_nowhere ws 1024 (λ g h. zero_bit ws g (none (g / 64) (omega arith)))

-- what leading zeros say of a word
pub top_of : (w z j : ℕ) → z + suc j ≡ 64 → 2 ^ j ≤ w → w < 2 ^ suc j → Top w (63 - z)
top_of w z j e lo hi =
    let q : 63 - z ≡ j = omega arith in
    rw q (record { low = lo; high = rw add-one hi; small = omega arith })

-- the words from i on are 0, and so is the one before
pub zero_more : (ws : List ℕ) (i : ℕ) → 0 < i → ((k : ℕ) → i ≤ k → k < 16 → get_or ws k 0 ≡ 0) → get_or ws (i - 1) 0 ≤ 0
    → (k : ℕ) → i - 1 ≤ k → k < 16 → get_or ws k 0 ≡ 0
zero_more ws i p all z k l u =
    ⊎_elim
    (λ (e : i - 1 ≡ k). rw (← e) (omega arith))
    (λ (e : i - 1 < k). all k (omega arith) u)
    (eq-or-lt_of_le l)
