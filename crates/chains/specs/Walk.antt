-- A test of every entry below m that goes along one chain only, since all entries outside of the chain pass.
use Rattle.std.specs.Prelude.{◌≡◌, refl, Bool, false, List, get_or}
use Rattle.std.proofs.Common.{sym, ap, ◌∙◌, le_refl, not-suc-le-zero, eqb-true}
use Rattle.std.proofs.Math.Bool.{true}
use Prim.Native.Nat.{ℕ, zero, suc, ◌-◌, ◌≤◌, ◌<◌}
use native.Mathlib.Omega.{arith}
use Rattle.lists.specs.Every.{all_below, below_fails, below_zero}
use Rattle.chains.specs.Chains.{Chained, Linked, in_chain, last_hit, last_le, last_same, last_below}

-- a walk along `ns` is at link k of chain h of the first m entries
pub record Along (c : ℕ → ℕ) (h : ℕ) (ns : List ℕ) (m k : ℕ) : Type 0 where
  pub links : Linked c m ns
  pub chain : h < 1024
  pub low : k ≤ m
  pub inside : 0 < k → in_chain c h (k - 1) ≡ true

-- it is so at the chain's last entry below p
pub along_at : (c : ℕ → ℕ) (h : ℕ) (ns : List ℕ) (m p k : ℕ) → Linked c m ns → h < 1024 → p ≤ m → k ≡ last_below (in_chain c h) p → Along c h ns m k
along_at c h ns m p k L u b e = rw e (record { links = L; chain = u; low = omega (arith, last_le (in_chain c h) p); inside = last_hit (in_chain c h) p })

module _ (c : ℕ → ℕ) (h : ℕ) (ns : List ℕ) (m k : ℕ) (A : Along c h ns m k) (u : 0 < k) where
  -- the link that the walk goes on at
  pub onward : get_or ns (k - 1) 0 ≡ last_below (in_chain c h) (k - 1)
  onward =
      let l = A.low in
      let e : c (k - 1) ≡ h = eqb-true (c (k - 1)) h (A.inside u) in
      A.links (k - 1) (omega arith) (omega (arith, A.chain)) ∙ ap (λ (g : ℕ). last_below (in_chain c g) (k - 1)) e

  pub along_less : get_or ns (k - 1) 0 < k
  along_less = omega (arith, onward, last_le (in_chain c h) (k - 1))

  pub along_next : Along c h ns m (get_or ns (k - 1) 0)
  along_next = let l = A.low in along_at c h ns m (k - 1) (get_or ns (k - 1) 0) A.links A.chain (omega arith) onward

  -- what the entries outside of the chain do not change is the same at the next link
  pub along_same : {T : Type 0} (f : ℕ → T) → ((j : ℕ) → j < m → in_chain c h j ≡ false → f (suc j) ≡ f j) → f (get_or ns (k - 1) 0) ≡ f (k - 1)
  along_same f o = let l = A.low in ap f onward ∙ last_same (in_chain c h) f (k - 1) (λ j i. o j (omega arith))

-- the walk along `ns` is at link k: the entries below k answer as all below m do
pub record Walk (ns : List ℕ) (Q : ℕ → Bool) (m k : ℕ) : Type 0 where
  pub chains : ℕ → ℕ
  pub chain : ℕ
  pub links : Linked chains m ns
  pub over : (j : ℕ) → j < m → in_chain chains chain j ≡ false → Q j ≡ true
  pub bound : chain < 1024
  pub low : k ≤ m
  pub inside : 0 < k → in_chain chains chain (k - 1) ≡ true
  pub same : all_below Q k ≡ all_below Q m

-- a walk goes on at the chain's last entry below p, where the entries from p on have passed
goes_on : (c : ℕ → ℕ) (ns : List ℕ) (Q : ℕ → Bool) (h m p k : ℕ) → Linked c m ns → ((j : ℕ) → j < m → in_chain c h j ≡ false → Q j ≡ true) → h < 1024 → p ≤ m → all_below Q p ≡ all_below Q m → k ≡ last_below (in_chain c h) p → Walk ns Q m k
unfolding all_below
goes_on c ns Q h m p k L O u b s e =
    let A = along_at c h ns m p k L u b e in
    record {
      chains = c;
      chain = h;
      links = L;
      over = O;
      bound = u;
      low = A.low;
      inside = A.inside;
      same = ap (all_below Q) e ∙ last_same (in_chain c h) (all_below Q) p (λ j l o. rw (O j (omega arith) o)) ∙ s;
    }

-- through all of a chain
pub walk_all : (c : ℕ → ℕ) (hs ns : List ℕ) (n : ℕ) → Chained c n hs ns → (Q : ℕ → Bool) (h : ℕ) → h < 1024 → ((j : ℕ) → j < n → in_chain c h j ≡ false → Q j ≡ true)
    → Walk ns Q n (get_or hs h 0)
walk_all c hs ns n C Q h b O = goes_on c ns Q h n n (get_or hs h 0) C.next O b (le_refl n) refl (C.heads h b)

-- through the entries of a chain before entry i
pub walk_before : (c : ℕ → ℕ) (ns : List ℕ) (n : ℕ) → Linked c n ns → (Q : ℕ → Bool) (i : ℕ) → i < n → c i < 1024
    → ((j : ℕ) → j < i → in_chain c (c i) j ≡ false → Q j ≡ true) → Walk ns Q i (get_or ns i 0)
walk_before c ns n L Q i b u O = goes_on c ns Q (c i) i i (get_or ns i 0) (λ j l. L j (omega arith)) O u (le_refl i) refl (L i b u)

-- a link leads to a lower entry
pub link_low : (c : ℕ → ℕ) (ns : List ℕ) (n : ℕ) → Linked c n ns → (i : ℕ) → i < n → c i < 1024 → get_or ns i 0 ≤ i
link_low c ns n L i b u = omega (arith, L i b u, last_le (in_chain c (c i)) i)

module _ (ns : List ℕ) (Q : ℕ → Bool) (m k : ℕ) (W : Walk ns Q m k) where
  walk_along : Along W.chains W.chain ns m k
  walk_along = record { links = W.links; chain = W.bound; low = W.low; inside = W.inside }

  pub walk_less : 0 < k → get_or ns (k - 1) 0 < k
  walk_less h = along_less W.chains W.chain ns m k walk_along h

  pub walk_next : 0 < k → Q (k - 1) ≡ true → Walk ns Q m (get_or ns (k - 1) 0)
  unfolding all_below
  walk_next h q =
      let l = W.low in
      goes_on W.chains ns Q W.chain m (k - 1) (get_or ns (k - 1) 0) W.links W.over W.bound (omega arith) (one k h q ∙ W.same) (onward W.chains W.chain ns m k walk_along h)
    where
      one : (i : ℕ) → 0 < i → Q (i - 1) ≡ true → all_below Q (i - 1) ≡ all_below Q i
      one zero p e = absurd (not-suc-le-zero p)
      one (suc i) p e = let q : suc i - 1 ≡ i = omega arith in rw q (rw (rw q at e))

  pub walk_hit : 0 < k → Q (k - 1) ≡ false → false ≡ all_below Q m
  walk_hit h q = below_fails Q k (k - 1) (omega arith) q ∙ W.same

  pub walk_end : k ≤ 0 → true ≡ all_below Q m
  walk_end h = let e : k ≡ 0 = omega arith in sym (below_zero Q) ∙ ap (all_below Q) (sym e) ∙ W.same

  -- the entries below k by themselves
  pub walk_here : Walk ns Q k k
  walk_here =
      let l = W.low in
      record {
        chains = W.chains;
        chain = W.chain;
        links = λ i p. W.links i (omega arith);
        over = λ j p. W.over j (omega arith);
        bound = W.bound;
        low = le_refl k;
        inside = W.inside;
        same = refl;
      }
