-- The tests of a frame's place and of its bit, made as one.
use Rattle.std.specs.Prelude.{◌≡◌, refl, Bool, true, false, not, ◌&&◌, ◌||◌, List, [], ◌∷◌, ◌++◌, ℕ, zero, suc, ◌+◌, ◌-◌, ◌*◌, ◌/◌, ◌%◌, ◌^◌, ◌≤◌, ◌<◌, eqb, ltb, get_or, drop, length, take}
use Rattle.std.proofs.Common.{sym, ap, ◌∙◌, pow-suc, add-one, get_or-drop, get_or-take, le-ltb, lt-ltb}
use Rattle.std.proofs.lemmas.Bool.{false≢true}
use Rattle.std.proofs.lemmas.List.{length-take}
use Rattle.std.specs.List.{list_all}
use Rattle.std.proofs.lemmas.List.Folds.{list_all-append, list_all_more}
use Rattle.std.proofs.Math.Nat.{div-div-eq-div-mul, zero-div}
use native.Mathlib.Omega.{arith}
use Rattle.places.specs.declared.Place.{Place}
use Rattle.lists.specs.Test.{by-lt, by-test}
use Rattle.lists.specs.Every.{all_below, at_below, below_at}
use Rattle.frames.specs.Free.{free_bit}
use Rattle.frames.specs.Bits.{not_bit}
use Rattle.places.specs.Places.{nowhere, place_at}
use Rattle.store.specs.Sound.{bit?, idle?, same}

pub below_both : (P Q : ℕ → Bool) (n : ℕ) → all_below (λ f. P f && Q f) n ≡ (all_below P n && all_below Q n)
unfolding all_below
below_both P Q zero = refl
below_both P Q (suc n) = rw (below_both P Q n) (swap (P n) (Q n) (all_below P n) (all_below Q n))
  where
    swap : (a b c d : Bool) → ((a && b) && (c && d)) ≡ ((a && c) && (b && d))
    swap true true true d = refl
    swap true true false d = refl
    swap true false true d = refl
    swap true false false d = refl
    swap false b c d = refl

-- ---- frame f of n stands at p, its bit being set or not
-- a place that is zero
abbrev pub zero_place? : Place → Bool
zero_place? p = eqb p.backing 0 && eqb p.index 0

-- what both tests of it say
abbrev pub place_kept? : ℕ → ℕ → Bool → Place → Bool
place_kept? n f set p = idle? n f p && same set (ltb f n && eqb p.backing 0)

module _ (n f : ℕ) (p : Place) where
  pub bit_free : f < n → zero_place? p ≡ place_kept? n f true p
  bit_free h = rw (lt-ltb f n h) (both (eqb p.backing 0) (eqb p.index 0))
    where
      both : (b i : Bool) → (b && i) ≡ ((not b || (b && i)) && b)
      both true true = refl
      both true false = refl
      both false i = refl

  pub bit_used : f < n → not (eqb p.backing 0) ≡ place_kept? n f false p
  bit_used h = rw (lt-ltb f n h) (both (eqb p.backing 0) (eqb p.index 0))
    where
      both : (b i : Bool) → not b ≡ ((not b || (b && i)) && not b)
      both true true = refl
      both true false = refl
      both false i = refl

  pub bit_beyond : (set : Bool) → n ≤ f → (not set && zero_place? p) ≡ place_kept? n f set p
  bit_beyond set h = rw (le-ltb f n h) (both set (zero_place? p))
    where
      both : (s z : Bool) → (not s && z) ≡ (z && same s false)
      both true true = refl
      both true false = refl
      both false true = refl
      both false false = refl

-- the test of one frame
abbrev pub kept? : ℕ → List Place → List ℕ → ℕ → Bool
kept? n ps ws f = idle? n f (place_at ps f) && bit? n ps ws f

-- the next bit of a word
pub bit_next : (x k : ℕ) → x / 2 ^ k / 2 ≡ x / 2 ^ (k + 1)
bit_next x k = div-div-eq-div-mul x (2 ^ k) 2 ∙ ap (λ (n : ℕ). x / n) (sym (ap (λ (n : ℕ). 2 ^ n) (add-one k) ∙ pow-suc 2 k))

-- the test of frame a + k, whose bit is bit k of the word w
abbrev pub word_kept? : ℕ → List Place → ℕ → ℕ → ℕ → Bool
word_kept? n ps w a k = place_kept? n (a + k) (eqb (w / 2 ^ k % 2) 1) (place_at ps (a + k))

-- no bit of the word is set
pub word_used : (n : ℕ) (ps : List Place) (a k : ℕ) → a + k < n → word_kept? n ps 0 a k ≡ not (eqb (place_at ps (a + k)).backing 0)
word_used n ps a k h = rw (zero-div (2 ^ k)) (sym (bit_used n (a + k) (place_at ps (a + k)) h))

-- all bits of the word are set
pub word_free : (n : ℕ) (ps : List Place) (a k : ℕ) → k < 64 → a + k < n → word_kept? n ps 18446744073709551615 a k ≡ zero_place? (place_at ps (a + k))
word_free n ps a k l h = rw (full k l) (sym (bit_free n (a + k) (place_at ps (a + k)) h))
  where
    full : (k : ℕ) → k < 64 → 18446744073709551615 / 2 ^ k % 2 ≡ 1
    full k l = not_bit 0 k (omega arith) l ∙ rw (zero-div (2 ^ k))

-- the frames of word i
module _ (n : ℕ) (ps : List Place) (ws : List ℕ) (i : ℕ) where
  pub kept_word : (k : ℕ) → k < 64 → word_kept? n ps (get_or ws i 0) (i * 64) k ≡ kept? n ps ws (i * 64 + k)
  unfolding free_bit
  kept_word k h =
      let d : (i * 64 + k) / 64 ≡ i = omega arith in
      let m : (i * 64 + k) % 64 ≡ k = omega arith in
      rw (d, m)

  pub words_next : all_below (kept? n ps ws) (i * 64) ≡ true → all_below (word_kept? n ps (get_or ws i 0) (i * 64)) 64 ≡ true → all_below (kept? n ps ws) ((i + 1) * 64) ≡ true
  words_next p q =
      at_below (kept? n ps ws) ((i + 1) * 64)
      (λ f h. by-lt f (i * 64)
      (λ l. below_at (kept? n ps ws) (i * 64) p f l)
      (λ l.
      let e : i * 64 + (f - i * 64) ≡ f = omega arith in
      let b : f - i * 64 < 64 = omega arith in
      sym (ap (kept? n ps ws) e) ∙ sym (kept_word (f - i * 64) b) ∙ below_at (word_kept? n ps (get_or ws i 0) (i * 64)) 64 q (f - i * 64) b))

  pub words_fail : i < 16 → all_below (word_kept? n ps (get_or ws i 0) (i * 64)) 64 ≡ false → false ≡ all_below (kept? n ps ws) 1024
  words_fail l q =
      by-test (all_below (kept? n ps ws) 1024)
      (λ h. absurd (false≢true (sym q ∙ at_below (word_kept? n ps (get_or ws i 0) (i * 64)) 64 (λ k b. kept_word k b ∙ below_at (kept? n ps ws) 1024 h (i * 64 + k) (omega arith)))))
      (λ h. sym h)

-- ---- a test of each of some elements, in one go
-- one element more
pub passed_more : {A : Type 0} (P : A → Bool) (l : List A) (x : A) → list_all P (l ++ (x ∷ [])) ≡ (list_all P l && P x)
passed_more P l x = list_all-append P l (x ∷ []) ∙ ap (λ (b : Bool). list_all P l && b) (and_true (P x))
  where
    and_true : (b : Bool) → (b && true) ≡ b
    and_true true = refl
    and_true false = refl

-- the first n
pub all_passed : {A : Type 0} (P : A → Bool) (d : A) (l : List A) (Q : ℕ → Bool) (n : ℕ) → n ≤ length l → ((k : ℕ) → k < n → Q k ≡ P (get_or l k d)) → list_all P (take n l) ≡ all_below Q n
unfolding all_below
all_passed P d l Q zero m e = refl
all_passed P d l Q (suc n) m e =
    ap (λ (k : ℕ). list_all P (take k l)) (sym (add-one n)) ∙ list_all_more P l n d (omega arith)
    ∙ rw (all_passed P d l Q n (omega arith) (λ k h. e k (omega arith)), e n (omega arith)) (swap (all_below Q n) (P (get_or l n d)))
  where
    swap : (a b : Bool) → (a && b) ≡ (b && a)
    swap true true = refl
    swap true false = refl
    swap false true = refl
    swap false false = refl

-- place k of the 64 from a on
pub part_place : (ps : List Place) (a k : ℕ) → k < length (take (a + 64 - a) (drop a ps)) → (k < 64) × (get_or (take (a + 64 - a) (drop a ps)) k nowhere ≡ place_at ps (a + k))
part_place ps a k h =
    let n : a + 64 - a ≡ 64 = omega arith in
    let l : k < 64 = omega (arith, h, length-take (a + 64 - a) (drop a ps)) in
    (l, get_or-take (a + 64 - a) (drop a ps) k nowhere (omega arith) ∙ get_or-drop a ps k nowhere)
