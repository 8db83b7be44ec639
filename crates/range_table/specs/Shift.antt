-- What stands where after the rows behind a place were moved, and the splice that is then made.
use Rattle.std.specs.Prelude.{◌≡◌, refl, set, replicate}
use Rattle.std.proofs.Math.Path.{ap, ap₂, sym}
use Rattle.std.proofs.Common.{◌∙◌, add-one, length-drop, length-take-le, get_or-take, get_or-drop, get_or-append-add, take_at, drop_at}
use mathlib.Core.List.{List, [], ◌∷◌, ◌++◌}
use Prim.Native.Nat.{ℕ, zero, suc, ◌+◌, ◌-◌, ◌≤◌, ◌<◌}
use native.Mathlib.Omega.{arith}
use Rattle.std.proofs.Math.ListN.{length, get_or, take, drop, length-append, length-replicate, get_or-append, get_or-eq_default}
use Rattle.std.proofs.lemmas.List.{get_or-replicate}
use Rattle.std.proofs.Math.Seq.{append_snoc, set_split, paste, paste-zero, length-paste, length_paste_head, ext_get_or, take-length}
use Rattle.lists.specs.Test.{by-lt}
use Rattle.lists.specs.Every.{All}
use Rattle.lists.specs.Listed.{one_at}
use Rattle.lists.specs.Paste.{paste_below, paste_above}
use Rattle.lists.specs.Part.{paste_more, paste_same}
use Rattle.table.specs.declared.PageRange.{PageRange}
use Rattle.table.specs.Table.{zero_range}
use Rattle.edit.specs.Edit.{padded, spliced}

module _ {A : Type 0} where
  -- an element that was pasted
  pub paste_in : (d : List A) (at : ℕ) (s : List A) (n i : ℕ) (z : A) → at ≤ length d → n ≤ length s → i < n → get_or (paste d at s n) (at + i) z ≡ get_or s i z
  paste_in d at s n i z hd hs h =
      let l : length (take at d) ≡ at = length-take-le at d hd in
      let k : length (take at d ++ take n s) ≡ at + n = length_paste_head d at s n hd hs in
      get_or-append (take at d ++ take n s) (drop (at + n) d) z (at + i) (omega arith)
      ∙ ap (λ (j : ℕ). get_or (take at d ++ take n s) (j + i) z) (sym l)
      ∙ get_or-append-add (take at d) (take n s) i z
      ∙ get_or-take n s i z h

  -- ---- a list laid over another, from index `at` on
  unfoldable pub laid : List A → ℕ → List A → List A
  laid d at l = paste d at l (length l)

  pub laid_none : (d : List A) (at : ℕ) → d ≡ laid d at []
  unfolding laid
  laid_none d at = paste-zero d at []

  pub laid_one : (d : List A) (at : ℕ) (x : A) → at < length d → set d at x ≡ laid d at (x ∷ [])
  unfolding laid
  laid_one d at x h = set_split d at x h ∙ sym (append_snoc (take at d) x (drop (suc at) d)) ∙ ap (λ j. take at d ++ (x ∷ []) ++ drop j d) (sym (add-one at))

  pub laid_more : (d : List A) (at : ℕ) (s t : List A) → at + length s ≤ length d → laid (laid d at s) (at + length s) t ≡ laid d at (s ++ t)
  unfolding laid
  laid_more d at s t h =
      let a : length (s ++ t) ≡ length s + length t = length-append s t in
      let b : paste d at s (length s) ≡ paste d at (s ++ t) (length s) = paste_same d at s (s ++ t) (length s) (take-length s ∙ sym (take_at s t (length s) refl)) in
      let c : t ≡ drop (length s) (s ++ t) = sym (drop_at s t (length s) refl) in
      ap₂ (λ x y. paste x (at + length s) y (length t)) b c
      ∙ paste_more d at (s ++ t) (length s) (length t) h (omega arith)
      ∙ ap (λ j. paste d at (s ++ t) j) (sym a)

  pub laid_length : (d : List A) (at : ℕ) (l : List A) → at + length l ≤ length d → length (laid d at l) ≡ length d
  unfolding laid
  laid_length d at l h = length-paste d at l (length l) h (omega arith)

-- ---- the rows of a table behind a place, moved

-- "unused slots are zero"
pub blank_at : (l : List PageRange) → All (λ r. r ≡ zero_range) l → (i : ℕ) → get_or l i zero_range ≡ zero_range
unfolding All
blank_at [] h i = refl
blank_at (r ∷ l) h zero = h.0
blank_at (r ∷ l) h (suc i) = blank_at l h.1 i

pub blank_from : (R : List PageRange) (count j : ℕ) → All (λ r. r ≡ zero_range) (drop count R) → count ≤ j → get_or R j zero_range ≡ zero_range
blank_from R count j h l =
    let e : count + (j - count) ≡ j = omega arith in
    ap (λ k. get_or R k zero_range) (sym e) ∙ sym (get_or-drop count R (j - count) zero_range) ∙ blank_at (drop count R) h (j - count)

-- of the first `count` rows of R those from `from` on stand from `to` on in Q; those below both stay; behind them Q is zero
pub record Opened (R : List PageRange) (count from to : ℕ) (Q : List PageRange) : Type 0 where
  pub full : length Q ≡ 512
  pub below : (j : ℕ) → j < from → j < to → get_or Q j zero_range ≡ get_or R j zero_range
  pub moved : (i : ℕ) → from + i < count → get_or Q (to + i) zero_range ≡ get_or R (from + i) zero_range
  pub rest : (i : ℕ) → count ≤ from + i → get_or Q (to + i) zero_range ≡ zero_range

module _ (R : List PageRange) (count from to : ℕ) (full : length R ≡ 512) (few : count ≤ 512) (inside : from ≤ count)
    (blank : All (λ r. r ≡ zero_range) (drop count R)) where
  long : count - from ≤ length (drop from R)
  long = simp length-drop (omega arith)

  pub open_same : from ≡ to → Opened R count from to R
  open_same e = rw (← e) (record { full = full; below = λ j _ _. refl; moved = λ i _. refl; rest = λ i h. blank_from R count (from + i) blank h })

  pub open_up : from ≤ to → to + (count - from) ≤ 512 → Opened R count from to (paste R to (drop from R) (count - from))
  open_up h room = record {
    full = length-paste R to (drop from R) (count - from) (omega arith) long ∙ full;
    below = λ j a b. paste_below R to (drop from R) (count - from) j zero_range (omega arith) long b;
    moved = λ i a. paste_in R to (drop from R) (count - from) i zero_range (omega arith) long (omega arith) ∙ get_or-drop from R i zero_range;
    rest = λ i a. paste_above R to (drop from R) (count - from) (to + i) zero_range (omega arith) long (omega arith) ∙ blank_from R count (to + i) blank (omega arith);
  }

  pub open_down : to < from → (z : PageRange) → z ≡ zero_range → (P Q : List PageRange) → P ≡ paste R to (drop from R) (count - from)
      → Q ≡ paste P (to + (count - from)) (replicate (from - to) z) (from - to) → Opened R count from to Q
  open_down h z ez P Q ep eq =
      let lp : length P ≡ 512 = ap length ep ∙ length-paste R to (drop from R) (count - from) (omega arith) long ∙ full in
      let lz : length (replicate (from - to) z) ≡ from - to = length-replicate (from - to) z in
      let at : ℕ = to + (count - from) in
      record {
        full = ap length eq ∙ length-paste P at (replicate (from - to) z) (from - to) (omega arith) (omega arith) ∙ lp;
        below = λ j a b.
            ap (λ l. get_or l j zero_range) eq
            ∙ paste_below P at (replicate (from - to) z) (from - to) j zero_range (omega arith) (omega arith) (omega arith)
            ∙ ap (λ l. get_or l j zero_range) ep
            ∙ paste_below R to (drop from R) (count - from) j zero_range (omega arith) long b;
        moved = λ i a.
            ap (λ l. get_or l (to + i) zero_range) eq
            ∙ paste_below P at (replicate (from - to) z) (from - to) (to + i) zero_range (omega arith) (omega arith) (omega arith)
            ∙ ap (λ l. get_or l (to + i) zero_range) ep
            ∙ paste_in R to (drop from R) (count - from) i zero_range (omega arith) long (omega arith)
            ∙ get_or-drop from R i zero_range;
        rest = λ i a. ap (λ l. get_or l (to + i) zero_range) eq ∙ by-lt (to + i) count
            (λ b.
            let e : to + i ≡ at + (i - (count - from)) = omega arith in
            ap (λ j. get_or (paste P at (replicate (from - to) z) (from - to)) j zero_range) e
            ∙ paste_in P at (replicate (from - to) z) (from - to) (i - (count - from)) zero_range (omega arith) (omega arith) (omega arith)
            ∙ get_or-replicate (from - to) (i - (count - from)) z zero_range (omega arith)
            ∙ ez)
            (λ b.
            paste_above P at (replicate (from - to) z) (from - to) (to + i) zero_range (omega arith) (omega arith) (omega arith)
            ∙ ap (λ l. get_or l (to + i) zero_range) ep
            ∙ paste_above R to (drop from R) (count - from) (to + i) zero_range (omega arith) long (omega arith)
            ∙ blank_from R count (to + i) blank b);
      }

-- ---- the splice

padded_at : (l : List PageRange) (j : ℕ) → get_or (padded l) j zero_range ≡ get_or l j zero_range
unfolding padded
padded_at l j =
    by-lt j (length l)
    (λ h. get_or-append l (replicate (512 - length l) zero_range) zero_range j h)
    (λ h.
    let e : j ≡ length l + (j - length l) = omega arith in
    ap (λ k. get_or (l ++ replicate (512 - length l) zero_range) k zero_range) e
    ∙ get_or-append-add l (replicate (512 - length l) zero_range) (j - length l) zero_range
    ∙ one_at zero_range (512 - length l) (j - length l)
    ∙ sym (get_or-eq_default l zero_range h))

module _ (R Q new : List PageRange) (count p q : ℕ) (full : length R ≡ 512) (few : count ≤ 512) (pq : p ≤ q) (qc : q ≤ count)
    (room : count + length new ≤ 512 + (q - p)) (O : Opened R count q (p + length new) Q) where
  abbrev whole : List PageRange
  whole = take p R ++ new ++ drop (p + (q - p)) (take count R)

  lp : length (take p R) ≡ p
  lp = length-take-le p R (omega arith)

  lc : length (take count R) ≡ count
  lc = length-take-le count R (omega arith)

  lh : length (take p R ++ new) ≡ p + length new
  lh = length-append (take p R) new ∙ ap (λ k. k + length new) lp

  lw : length whole ≡ p + length new + (count - q)
  lw =
      let z : p + (q - p) ≡ q = omega arith in
      length-append (take p R ++ new) (drop (p + (q - p)) (take count R)) ∙ ap₂ (λ a b. a + b) lh (length-drop (p + (q - p)) (take count R) ∙ ap₂ (λ a b. a - b) lc z)

  -- what stands where in the spliced list
  at_front : (j : ℕ) → j < p → get_or whole j zero_range ≡ get_or R j zero_range
  at_front j h =
      get_or-append (take p R ++ new) (drop (p + (q - p)) (take count R)) zero_range j (omega (arith, lh))
      ∙ get_or-append (take p R) new zero_range j (omega (arith, lp))
      ∙ get_or-take p R j zero_range h

  at_new : (i : ℕ) → i < length new → get_or whole (p + i) zero_range ≡ get_or new i zero_range
  at_new i h =
      get_or-append (take p R ++ new) (drop (p + (q - p)) (take count R)) zero_range (p + i) (omega (arith, lh))
      ∙ ap (λ k. get_or (take p R ++ new) (k + i) zero_range) (sym lp)
      ∙ get_or-append-add (take p R) new i zero_range

  at_back : (i : ℕ) → get_or whole (p + length new + i) zero_range ≡ get_or (take count R) (q + i) zero_range
  at_back i =
      let z : p + (q - p) + i ≡ q + i = omega arith in
      ap (λ k. get_or whole (k + i) zero_range) (sym lh)
      ∙ get_or-append-add (take p R ++ new) (drop (p + (q - p)) (take count R)) i zero_range
      ∙ get_or-drop (p + (q - p)) (take count R) i zero_range
      ∙ ap (λ k. get_or (take count R) k zero_range) z

  same_at : (j : ℕ) → get_or (laid Q p new) j zero_range ≡ get_or whole j zero_range
  unfolding laid
  same_at j =
      let f = O.full in
      by-lt j p
      (λ h. paste_below Q p new (length new) j zero_range (omega arith) (omega arith) h ∙ O.below j (omega arith) (omega arith) ∙ sym (at_front j h))
      (λ h. by-lt j (p + length new)
      (λ l.
      let e : p + (j - p) ≡ j = omega arith in
      ap (λ k. get_or (paste Q p new (length new)) k zero_range) (sym e)
      ∙ paste_in Q p new (length new) (j - p) zero_range (omega arith) (omega arith) (omega arith)
      ∙ sym (at_new (j - p) (omega arith))
      ∙ ap (λ k. get_or whole k zero_range) e)
      (λ l.
      let i : ℕ = j - (p + length new) in
      let e : p + length new + i ≡ j = omega arith in
      paste_above Q p new (length new) j zero_range (omega arith) (omega arith) l
      ∙ ap (λ k. get_or Q k zero_range) (sym e)
      ∙ by-lt (q + i) count
      (λ a. O.moved i a ∙ sym (get_or-take count R (q + i) zero_range a))
      (λ a. O.rest i a ∙ sym (get_or-eq_default (take count R) zero_range {n = q + i} (omega (arith, lc))))
      ∙ sym (at_back i)
      ∙ ap (λ k. get_or whole k zero_range) e))

  pub spliced_laid : laid Q p new ≡ spliced R count p (q - p) new
  unfolding spliced
  spliced_laid =
      ext_get_or zero_range (laid Q p new) (padded whole)
      (laid_length Q p new (omega (arith, O.full)) ∙ O.full ∙ sym filled)
      (λ j h. same_at j ∙ sym (padded_at whole j))
    where
      filled : length (padded whole) ≡ 512
      filled = unfold padded in (length-append whole (replicate (512 - length whole) zero_range) ∙ omega (arith, lw, length-replicate (512 - length whole) zero_range))
