-- Ranges of one backing are in one chain, so that a range is compared with those of its chain only, and with those before it only.
use Rattle.std.specs.Prelude.{◌≡◌, refl, Bool, true, false, List, ℕ, zero, suc, ◌+◌, ◌%◌, ◌≤◌, ◌<◌, eqb, get_or, length, take}
use Rattle.std.proofs.Common.{sym, ap, ◌∙◌, add-one, arith, get_or-take, ne_eqb}
use Rattle.std.proofs.lemmas.Bool.{false≢true, eqb-false}
use Rattle.std.proofs.lemmas.List.{length-take}
use Rattle.table.specs.declared.PageRange.{PageRange}
use Rattle.table.specs.declared.BackingPages.{BackingPages}
use Rattle.table.specs.declared.BackingPages.TheVariants.{Nothing, Single, Many}
use Rattle.lists.specs.Test.{by-eq, by-lt, by-test}
use Rattle.lists.specs.Every.{all_below, at_below, below_at, every, every_fails, every_next, every_none}
use Rattle.table.specs.Table.{number_of, zero_range}
use Rattle.chains.specs.Chains.{Linked}
use Rattle.chains.specs.Walk.{Walk, walk_before}
use Rattle.charts.specs.Charts.{chain_by}
use Rattle.store.specs.Sound.{alike}
use Rattle.store.specs.Kinds.{alike_self, alike_sym}

-- the backing of range i
abbrev pub back_at : List PageRange → ℕ → BackingPages
back_at l i = (get_or l i zero_range).backing

-- range j agrees with range i
abbrev pub alike_to : List PageRange → ℕ → ℕ → Bool
alike_to l i j = alike (back_at l j) (back_at l i)

-- ---- a test of all elements of a list by their indexes
module _ {A : Type 0} (P : A → Bool) (l : List A) (z : A) where
  every_from : (n : ℕ) → n ≤ length l → ((k : ℕ) → k < n → P (get_or l k z) ≡ true) → every P (take n l) ≡ true
  every_from zero m h = every_none P l
  every_from (suc n) m h =
      rw (← add-one n) (every_next P l n z m (every_from n (omega arith) (λ k b. h k (omega arith))) (h n (omega arith)))

  pub every_at : (n : ℕ) → n ≤ length l → every P (take n l) ≡ true → (k : ℕ) → k < n → P (get_or l k z) ≡ true
  every_at n m h k b = by-test (P (get_or l k z)) (λ e. e) (λ e. absurd (false≢true (every_fails P l n k z b m e ∙ h)))

  -- a test by indexes that is the test of the elements
  pub every_below : (Q : ℕ → Bool) (n : ℕ) → n ≤ length l → ((k : ℕ) → k < n → Q k ≡ P (get_or l k z)) → all_below Q n ≡ every P (take n l)
  every_below Q n m e =
      by-test (all_below Q n)
      (λ h. h ∙ sym (every_from n m (λ k b. sym (e k b) ∙ below_at Q n h k b)))
      (λ h. h ∙ sym (by-test (every P (take n l)) (λ g. absurd (false≢true (sym h ∙ at_below Q n (λ k b. e k b ∙ every_at n m g k b)))) (λ g. g)))

-- range i of the first n
module _ (l : List PageRange) (n i : ℕ) (h : i < length (take n l)) where
  pub used_low : i < n
  used_low = omega (arith, h, length-take n l)

  pub used_at : get_or (take n l) i zero_range ≡ get_or l i zero_range
  used_at = get_or-take n l i zero_range used_low

module _ (l : List PageRange) (n : ℕ) (m : n ≤ length l) where
  -- all ranges agree with all
  abbrev agree? : Bool
  agree? = every (λ a. every (λ b. alike a.backing b.backing) (take n l)) (take n l)

  pub agree_told : all_below (λ i. all_below (alike_to l i) i) n ≡ agree?
  agree_told =
      by-test (all_below (λ i. all_below (alike_to l i) i) n)
      (λ h. h ∙ sym (all h))
      (λ h. h ∙ sym (by-test agree? (λ e. absurd (false≢true (sym h ∙ at_below (λ i. all_below (alike_to l i) i) n (λ i p. at_below (alike_to l i) i (λ j q. one e i j p q))))) (λ e. e)))
    where
      all : all_below (λ i. all_below (alike_to l i) i) n ≡ true → agree? ≡ true
      all h =
          every_from (λ a. every (λ b. alike a.backing b.backing) (take n l)) l zero_range n m
          (λ i p. every_from (λ b. alike (back_at l i) b.backing) l zero_range n m (λ j q. pair i j p q))
        where
          lower : (i j : ℕ) → i < n → j < i → alike (back_at l j) (back_at l i) ≡ true
          lower i j p q = below_at (alike_to l i) i (below_at (λ k. all_below (alike_to l k) k) n h i p) j q

          pair : (i j : ℕ) → i < n → j < n → alike (back_at l i) (back_at l j) ≡ true
          pair i j p q =
              by-lt i j (λ b. lower j i q b)
              (λ b. by-eq i j (λ e. rw e (alike_self (back_at l j))) (λ e. alike_sym (back_at l j) (back_at l i) (lower i j p (omega arith))))

      one : agree? ≡ true → (i j : ℕ) → i < n → j < i → alike_to l i j ≡ true
      one e i j p q =
          let k : j < n = omega arith in
          let r : every (λ b. alike (back_at l j) b.backing) (take n l) ≡ true =
          every_at (λ a. every (λ b. alike a.backing b.backing) (take n l)) l zero_range n m e j k in
          every_at (λ b. alike (back_at l j) b.backing) l zero_range n m r i p

-- backings of different numbers agree
alike_apart : (a b : BackingPages) → eqb (number_of a % 1024) (number_of b % 1024) ≡ false → alike a b ≡ true
alike_apart Nothing b h = refl
alike_apart (Single m) Nothing h = refl
alike_apart (Single m) (Single n) h = refl
alike_apart (Single m) (Many n) h = rw (ne_eqb m n (λ e. eqb-false (m % 1024) (n % 1024) h (ap (λ (z : ℕ). z % 1024) e)))
alike_apart (Many m) Nothing h = refl
alike_apart (Many m) (Single n) h = rw (ne_eqb m n (λ e. eqb-false (m % 1024) (n % 1024) h (ap (λ (z : ℕ). z % 1024) e)))
alike_apart (Many m) (Many n) h = refl

-- a range outside of the chain of range i has another backing
pub walk_agree : (l : List PageRange) (ns : List ℕ) (n i : ℕ) → Linked (chain_by l) n ns → i < n → Walk ns (alike_to l i) i (get_or ns i 0)
walk_agree l ns n i L b = walk_before (chain_by l) ns n L (alike_to l i) i b (omega arith) (λ j k o. alike_apart (back_at l j) (back_at l i) o)

-- a range of the very backing of a range that agrees with all before it agrees with those too
pub same_agrees : (l : List PageRange) (i k : ℕ) → k < i → all_below (λ j. all_below (alike_to l j) j) i ≡ true → back_at l k ≡ back_at l i
    → all_below (alike_to l i) (k + 1) ≡ true
same_agrees l i k b h e =
    at_below (alike_to l i) (k + 1)
    (λ j m. by-eq j k
    (λ q. rw (q, e) (alike_self (back_at l i)))
    (λ q. rw (← e) (below_at (alike_to l k) k (below_at (λ j. all_below (alike_to l j) j) i h k b) j (omega arith))))
