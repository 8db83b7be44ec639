-- The entries of a chain, from a link on, as long as its links fall; where every link leads to the chain's entry before (`Along`), these are all its entries.
use Rattle.std.specs.Prelude.{◌≡◌, Bool, true, false, List, [], ◌∷◌, eqb, leb, ltb, get_or, refl}
use Rattle.std.proofs.Common.{sym, ap, ◌∙◌, le_refl, add-one, eq-eqb, le-leb, le-ltb, leb-false, leb-true, lt-ltb, ne_eqb}
use Rattle.std.proofs.lemmas.Bool.{lt-leb}
use Prim.Native.Nat.{ℕ, zero, suc, ◌+◌, ◌-◌, ◌%◌, ◌≤◌, ◌<◌, min}
use native.Mathlib.Omega.{arith}
use Rattle.std.specs.List.{list_all}
use Rattle.lists.specs.Test.{pick, by-eq, by-lt, by-test}
use Rattle.lists.specs.Every.{all_below}
use Rattle.chains.specs.Walk.{Along, Walk, along_less, along_next}
use Rattle.chains.specs.Entries.{entries, entries_below, Left, left_all, walk_entries}

-- the link to an entry to come, if there is one
abbrev pub link_to : Bool → ℕ → ℕ
link_to true i = i + 1
link_to false i = 0

-- the entries below n of the chain from link k on; a link that leads no lower than its own entry leads to none
unfoldable pub falling_below : List ℕ → ℕ → ℕ → List ℕ
falling_below ns zero k = []
falling_below ns (suc n) k = pick (eqb k (suc n)) (n ∷ falling_below ns n (get_or ns n 0)) (falling_below ns n k)

-- of 1,024 entries
abbrev pub falling : List ℕ → ℕ → List ℕ
falling ns k = falling_below ns 1024 k

-- a link to an entry below n, or that at the end of a chain
abbrev pub link_below : ℕ → ℕ → ℕ
link_below k n = pick (leb k n) k 0

module _ (k n : ℕ) where
  pub below_low : link_below k n ≤ n
  below_low = by-test (leb k n) (λ t. rw t (leb-true k n t)) (λ t. rw t (omega arith))

  pub below_same : k ≤ n → link_below k n ≡ k
  below_same h = rw (le-leb k n h)

  below_over : n < k → link_below k n ≡ 0
  below_over h = rw (lt-leb k n h)

  -- what one test of the entry says, to which link 0 leads by wrapping
  pub below_told : (e : ℕ) → e ≡ (k + 18446744073709551615) % 18446744073709551616 → k < 65536 → n ≤ 1024 → link_to (ltb e n) e ≡ link_below k n
  below_told e q f m =
      by-lt e n
      (λ l. let z : e + 1 ≡ k = omega arith in rw (lt-ltb e n l) (z ∙ sym (below_same (omega arith))))
      (λ l.
      rw (le-ltb e n l)
      (by-eq k 0 (λ z. sym z ∙ sym (below_same (omega arith))) (λ z. sym (below_over (omega arith)))))

module _ (ns : List ℕ) where
  low_below : (m n k : ℕ) → m ≤ n → k ≤ m → falling_below ns n k ≡ falling_below ns m k
  unfolding falling_below
  low_below m zero k l h = let e : m ≡ 0 = omega arith in rw e
  low_below m (suc n) k l h = by-eq m (suc n) (λ e. rw e) (λ e. rw (ne_eqb k (suc n) (λ q. omega arith)) (low_below m n k (omega arith) h))

  none_below : (n k : ℕ) → n < k → falling_below ns n k ≡ []
  unfolding falling_below
  none_below zero k h = refl
  none_below (suc n) k h = rw (ne_eqb k (suc n) (λ e. omega arith)) (none_below n k (omega arith))

  zero_below : (n : ℕ) → falling_below ns n 0 ≡ []
  unfolding falling_below
  zero_below zero = refl
  zero_below (suc n) = rw (ne_eqb 0 (suc n) (λ e. omega arith)) (zero_below n)

  -- at the end, and at an entry that there is not
  pub falling_end : (k : ℕ) → k ≡ 0 → falling ns k ≡ []
  falling_end k e = rw e (zero_below 1024)

  pub falling_none : (k : ℕ) → 1024 < k → falling ns k ≡ []
  falling_none k h = none_below 1024 k h

  pub falling_below_link : (n k : ℕ) → n ≤ 1024 → falling_below ns n k ≡ falling ns (link_below k n)
  falling_below_link n k l =
      by-test (leb k n)
      (λ t. rw t (sym (low_below n 1024 k l (leb-true k n t))))
      (λ t. rw t (none_below n k (let g = leb-false k n t in omega arith) ∙ sym (zero_below 1024)))

  -- at an entry
  here_below : (i : ℕ) → falling_below ns (suc i) (suc i) ≡ i ∷ falling_below ns i (get_or ns i 0)
  unfolding falling_below
  here_below i = rw (eq-eqb (suc i) (suc i) refl)

  pub falling_step : (i : ℕ) → i < 1024 → falling ns (i + 1) ≡ i ∷ falling ns (link_below (get_or ns i 0) i)
  falling_step i h =
      rw (add-one, low_below (suc i) 1024 (suc i) (omega arith) (le_refl (suc i))) (here_below i)
      ∙ ap (λ (l : List ℕ). i ∷ l) (falling_below_link i (get_or ns i 0) (omega arith))

  -- a list of entries that begins with one
  pub falling_first : (i : ℕ) (rest : List ℕ) (k : ℕ) → i ∷ rest ≡ falling ns k → k ≤ 1024 → (k ≡ i + 1) × (rest ≡ falling ns (link_below (get_or ns i 0) i))
  falling_first i rest zero e l = let p = falling_end 0 refl in absurd (let z : ◌≡◌ {A = ℕ} 0 1 = cc in omega arith)
  falling_first i rest (suc k) e l =
      let q : falling ns (suc k) ≡ k ∷ falling ns (link_below (get_or ns k 0) k) = rw add-one at (falling_step k (omega arith)) in
      let p : i ≡ k = cc in
      let r : rest ≡ falling ns (link_below (get_or ns k 0) k) = cc in
      (omega arith, rw p r)

  pub falling_over : (k : ℕ) → [] ≡ falling ns k → k ≤ 1024 → k ≡ 0
  falling_over zero e l = refl
  falling_over (suc k) e l =
      let q : falling ns (suc k) ≡ k ∷ falling ns (link_below (get_or ns k 0) k) = rw add-one at (falling_step k (omega arith)) in
      absurd (let z : ◌≡◌ {A = ℕ} 0 1 = cc in omega arith)

-- ---- along a chain every link falls
module _ (c : ℕ → ℕ) (h : ℕ) (ns : List ℕ) (m : ℕ) where
  along_below : (n k : ℕ) → Along c h ns m k → falling_below ns n k ≡ entries_below ns n k
  unfolding falling_below entries_below
  along_below zero k A = refl
  along_below (suc n) k A =
      by-eq k (suc n)
      (λ e.
      let p : k - 1 ≡ n = omega arith in
      let o : 0 < k = omega arith in
      let l : get_or ns n 0 < k = rw p at (along_less c h ns m k A o) in
      let q : min (get_or ns n 0) n ≡ get_or ns n 0 = omega arith in
      rw (eq-eqb k (suc n) e, q) (ap (λ (r : List ℕ). n ∷ r) (along_below n (get_or ns n 0) (rw p at (along_next c h ns m k A o)))))
      (λ e. rw (ne_eqb k (suc n) e) (along_below n k A))

  pub falling_along : (k : ℕ) → Along c h ns m k → falling ns k ≡ entries ns k
  falling_along k A = along_below 1024 k A

-- ---- what they say of all entries below m, and a walk that has them before it
along_walk : (ns : List ℕ) (Q : ℕ → Bool) (m k : ℕ) → Walk ns Q m k → falling ns k ≡ entries ns k
along_walk ns Q m k W = falling_along W.chains W.chain ns m k (record { links = W.links; chain = W.bound; low = W.low; inside = W.inside })

pub walk_falling : (ns : List ℕ) (Q : ℕ → Bool) (m k : ℕ) → k ≤ 1024 → Walk ns Q m k → all_below Q m ≡ list_all Q (falling ns k)
walk_falling ns Q m k h W = walk_entries ns Q m k h W ∙ ap (list_all Q) (sym (along_walk ns Q m k W))

pub left_falling : (ns : List ℕ) (Q : ℕ → Bool) (m k : ℕ) (s : List ℕ) → m ≤ 1024 → Walk ns Q m k → s ≡ falling ns k → Left ns Q m s
left_falling ns Q m k s l W e = left_all ns Q m k s l W (e ∙ along_walk ns Q m k W)
