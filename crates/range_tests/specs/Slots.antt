-- The slots of a table, one after the other: those in use have ranges that rise, the others are zero.
use Rattle.std.specs.Prelude.{◌≡◌, refl, Bool, true, false, ◌&&◌, List, drop, get_or, length, take}
use Rattle.std.proofs.Common.{sym, ◌∙◌}
use Prim.Native.Nat.{ℕ, ◌+◌, ◌≤◌, ◌<◌, max}
use native.Mathlib.Omega.{arith}
use Rattle.std.specs.List.{list_all}
use Rattle.std.proofs.lemmas.List.Recursion.{same_from_clauses}
use Rattle.table.specs.declared.PageRange.{PageRange}
use Rattle.lists.specs.Test.{and_right}
use Rattle.lists.specs.Every.{every}
use Rattle.lists.specs.Rest.{rest_end, rest_fails, rest_turn}
use Rattle.ranges.specs.Range.{upto}
use Rattle.table.specs.Table.{range_of, zero_range}
use Rattle.store.specs.Sound.{zero?}
use Rattle.range_tests.specs.Shape.{follows?, rises?, rises_end, rises_fails, rises_turn}

-- the slots from i on, of which the first n are used
unfoldable pub slots? : ℕ → List PageRange → ℕ → ℕ → ℕ → Bool
slots? live l n low i = rises? live low (drop i (take n l)) && every zero? (drop (max i n) l)

-- ---- a turn of the loop over the slots
module _ (live : ℕ) (l : List PageRange) (n : ℕ) (m : n ≤ length l) (low i : ℕ) where
  pub used_turn : i < n → follows? live low (get_or l i zero_range) ≡ true → slots? live l n low i ≡ slots? live l n (upto (range_of (get_or l i zero_range))) (i + 1)
  unfolding slots?
  used_turn h e =
      let a : max i n ≡ n = omega arith in
      let b : max (i + 1) n ≡ n = omega arith in
      rw (a, b, rises_turn live l n m low i h e)

  pub used_fails : i < n → follows? live low (get_or l i zero_range) ≡ false → slots? live l n low i ≡ false
  unfolding slots?
  used_fails h e = rw (rises_fails live l n m low i h e)

  pub rest_next : n ≤ i → i < length l → zero? (get_or l i zero_range) ≡ true → slots? live l n low i ≡ slots? live l n low (i + 1)
  unfolding slots?
  rest_next h k e =
      let a : max i n ≡ i = omega arith in
      let b : max (i + 1) n ≡ i + 1 = omega arith in
      rw (a, b, rises_end live l n m low i h, rises_end live l n m low (i + 1) (omega arith)) (rest_turn zero? l i zero_range k e)

  pub rest_wrong : n ≤ i → i < length l → zero? (get_or l i zero_range) ≡ false → slots? live l n low i ≡ false
  unfolding slots?
  rest_wrong h k e =
      let a : max i n ≡ i = omega arith in
      rw (a, rises_end live l n m low i h) (rest_fails zero? l i zero_range k e)

  pub slots_end : n ≤ i → length l ≤ i → slots? live l n low i ≡ true
  unfolding slots?
  slots_end h k =
      let a : max i n ≡ i = omega arith in
      rw (a, rises_end live l n m low i h) (rest_end zero? l i k)

-- ---- the slots in use, and the others
module _ (l : List PageRange) (n : ℕ) where
  pub slots_parts : (live : ℕ) → slots? live l n 0 0 ≡ (rises? live 0 (take n l) && every zero? (drop n l))
  unfolding slots?
  slots_parts live = let e : max 0 n ≡ n = omega arith in rw e

  pub slots_rest : (live : ℕ) → slots? live l n 0 0 ≡ true → every zero? (drop n l) ≡ true
  slots_rest live e = and_right (rises? live 0 (take n l)) _ (sym (slots_parts live) ∙ e)

-- what `all` tests
pub every_all : {A : Type 0} (P : A → Bool) (l : List A) → every P l ≡ list_all P l
unfolding every
every_all P l = same_from_clauses (every P) (list_all P) (λ x b. P x && b) refl (λ x xs. refl) (λ x xs. refl) l
