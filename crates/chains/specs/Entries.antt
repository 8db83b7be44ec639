-- The entries of a chain, from a link on, whatever the links are; and a test of every entry below m by those of one chain.
use Rattle.std.specs.Prelude.{◌≡◌, refl, Bool, true, false, List, [], ◌∷◌, Option, Some, None, eqb, get_or}
use Rattle.std.proofs.Common.{sym, ap, ◌∙◌, le_refl, add-one, eq-eqb, ne_eqb}
use Prim.Native.Nat.{ℕ, zero, suc, ◌+◌, ◌-◌, ◌≤◌, ◌<◌, min}
use native.Mathlib.Omega.{arith}
use Rattle.std.specs.List.{list_all}
use Rattle.lists.specs.Test.{pick, by-eq, by-test}
use Rattle.lists.specs.Every.{all_below}
use Rattle.chains.specs.Walk.{Walk, walk_end, walk_hit, walk_less, walk_next}

-- the link to an entry, or that at the end of a chain
abbrev pub link_of : Option ℕ → ℕ
link_of None = 0
link_of (Some i) = i + 1

-- the entries below n of the chain from link k on; a link that leads no lower than its own entry counts as one to the next lower entry
unfoldable pub entries_below : List ℕ → ℕ → ℕ → List ℕ
entries_below ns zero k = []
entries_below ns (suc n) k = pick (eqb k (suc n)) (n ∷ entries_below ns n (min (get_or ns n 0) n)) (entries_below ns n k)

-- of 1,024 entries
abbrev pub entries : List ℕ → ℕ → List ℕ
entries ns k = entries_below ns 1024 k

-- those that are left at link k, whose entry is passed or not
abbrev pub left : List ℕ → ℕ → Bool → List ℕ
left ns k false = entries ns k
left ns k true = entries ns (min (get_or ns (k - 1) 0) (k - 1))

module _ (ns : List ℕ) where
  low_below : (m n k : ℕ) → m ≤ n → k ≤ m → entries_below ns n k ≡ entries_below ns m k
  unfolding entries_below
  low_below m zero k l h = let e : m ≡ 0 = omega arith in rw e
  low_below m (suc n) k l h = by-eq m (suc n) (λ e. rw e) (λ e. rw (ne_eqb k (suc n) (λ q. omega arith)) (low_below m n k (omega arith) h))

  none_below : (n k : ℕ) → n < k → entries_below ns n k ≡ []
  unfolding entries_below
  none_below zero k h = refl
  none_below (suc n) k h = rw (ne_eqb k (suc n) (λ e. omega arith)) (none_below n k (omega arith))

  zero_below : (n : ℕ) → entries_below ns n 0 ≡ []
  unfolding entries_below
  zero_below zero = refl
  zero_below (suc n) = rw (ne_eqb 0 (suc n) (λ e. omega arith)) (zero_below n)

  -- at the end, and at an entry that there is not
  pub entries_end : (k : ℕ) → k ≡ 0 → entries ns k ≡ []
  entries_end k e = rw e (zero_below 1024)

  pub entries_none : (k : ℕ) → 1024 < k → entries ns k ≡ []
  entries_none k h = none_below 1024 k h

  -- at an entry
  here_below : (i : ℕ) → entries_below ns (suc i) (suc i) ≡ i ∷ entries_below ns i (min (get_or ns i 0) i)
  unfolding entries_below
  here_below i = rw (eq-eqb (suc i) (suc i) refl)

  pub entries_step : (i : ℕ) → i < 1024 → entries ns (i + 1) ≡ i ∷ entries ns (min (get_or ns i 0) i)
  entries_step i h =
      let k : ℕ = min (get_or ns i 0) i in
      let l : k ≤ i = omega arith in
      rw (add-one, low_below (suc i) 1024 (suc i) (omega arith) (le_refl (suc i)), low_below i 1024 k (omega arith) l) (here_below i)

  -- a list of entries that begins with one
  pub entries_first : (i : ℕ) (rest : List ℕ) (k : ℕ) → i ∷ rest ≡ entries ns k → k ≤ 1024 → (k ≡ i + 1) × (rest ≡ entries ns (min (get_or ns i 0) i))
  entries_first i rest zero e l = let p = entries_end 0 refl in absurd (let z : ◌≡◌ {A = ℕ} 0 1 = cc in omega arith)
  entries_first i rest (suc k) e l =
      let q : entries ns (suc k) ≡ k ∷ entries ns (min (get_or ns k 0) k) = rw add-one at (entries_step k (omega arith)) in
      let p : i ≡ k = cc in
      let r : rest ≡ entries ns (min (get_or ns k 0) k) = cc in
      (omega arith, rw p r)

  pub entries_over : (k : ℕ) → [] ≡ entries ns k → k ≤ 1024 → k ≡ 0
  entries_over zero e l = refl
  entries_over (suc k) e l =
      let q : entries ns (suc k) ≡ k ∷ entries ns (min (get_or ns k 0) k) = rw add-one at (entries_step k (omega arith)) in
      absurd (let z : ◌≡◌ {A = ℕ} 0 1 = cc in omega arith)

-- ---- what one chain says of all entries below m
module _ (ns : List ℕ) (Q : ℕ → Bool) (m : ℕ) where
  -- the walk is at entry n
  at : (n k : ℕ) → Walk ns Q m k → k ≡ suc n → (get_or ns n 0 ≤ n → Walk ns Q m (get_or ns n 0) → all_below Q m ≡ list_all Q (entries_below ns n (get_or ns n 0)))
      → all_below Q m ≡ list_all Q (entries_below ns (suc n) k)
  unfolding entries_below
  at n k W e f =
      let p : k - 1 ≡ n = omega arith in
      let o : 0 < k = omega arith in
      let l : get_or ns n 0 < k = rw p at (walk_less ns Q m k W o) in
      let q : min (get_or ns n 0) n ≡ get_or ns n 0 = omega arith in
      rw (eq-eqb k (suc n) e, q)
      (by-test (Q n)
      (λ t. rw t (f (omega arith) (rw p at (walk_next ns Q m k W o (rw p t)))))
      (λ t. rw t (sym (walk_hit ns Q m k W o (rw p t)))))

  all_from : (n k : ℕ) → k ≤ n → Walk ns Q m k → all_below Q m ≡ list_all Q (entries_below ns n k)
  unfolding entries_below
  all_from zero k h W = sym (walk_end ns Q m k W h)
  all_from (suc n) k h W = by-eq k (suc n) (λ e. at n k W e (all_from n (get_or ns n 0))) (λ e. rw (ne_eqb k (suc n) e) (all_from n k (omega arith) W))

  pub walk_entries : (k : ℕ) → k ≤ 1024 → Walk ns Q m k → all_below Q m ≡ list_all Q (entries ns k)
  walk_entries k h W = all_from 1024 k h W

-- ---- a walk along a chain has the entries `rest` before it: those that it passed, and those outside of the chain, pass Q
pub record Left (ns : List ℕ) (Q : ℕ → Bool) (m : ℕ) (rest : List ℕ) : Type 0 where
  pub link : ℕ
  pub walk : Walk ns Q m link
  pub few : m ≤ 1024
  pub is : rest ≡ entries ns link

pub left_all : (ns : List ℕ) (Q : ℕ → Bool) (m k : ℕ) (s : List ℕ) → m ≤ 1024 → Walk ns Q m k → s ≡ entries ns k → Left ns Q m s
left_all ns Q m k s l W e = record { link = k; walk = W; few = l; is = e }

module _ (ns : List ℕ) (Q : ℕ → Bool) (m : ℕ) where
  -- at the end
  pub left_end : Left ns Q m [] → true ≡ all_below Q m
  left_end L = sym (walk_entries ns Q m L.link (let l = L.walk.low in let f = L.few in omega arith) L.walk ∙ ap (list_all Q) (sym L.is))

  -- at an entry
  module _ (i : ℕ) (rest : List ℕ) (L : Left ns Q m (i ∷ rest)) where
    here : (L.link ≡ i + 1) × (rest ≡ entries ns (min (get_or ns i 0) i))
    here = entries_first ns i rest L.link L.is (let l = L.walk.low in let f = L.few in omega arith)

    pub left_low : i < m
    left_low = let l = L.walk.low in let e = here.0 in omega arith

    pub left_next : Q i ≡ true → Left ns Q m rest
    left_next q =
        let e : L.link - 1 ≡ i = let h = here.0 in omega arith in
        let o : 0 < L.link = let h = here.0 in omega arith in
        let l : get_or ns i 0 < L.link = rw e at (walk_less ns Q m L.link L.walk o) in
        let n : min (get_or ns i 0) i ≡ get_or ns i 0 = let h = here.0 in omega arith in
        record {
          link = get_or ns i 0;
          walk = rw e at (walk_next ns Q m L.link L.walk o (rw e q));
          few = L.few;
          is = rw n at here.1;
        }

    pub left_hit : Q i ≡ false → false ≡ all_below Q m
    left_hit q =
        let e : L.link - 1 ≡ i = let h = here.0 in omega arith in
        walk_hit ns Q m L.link L.walk (let h = here.0 in omega arith) (rw e q)

    -- the entries up to this one answer as all do
    pub left_same : all_below Q (i + 1) ≡ all_below Q m
    left_same = rw here.0 at L.walk.same
