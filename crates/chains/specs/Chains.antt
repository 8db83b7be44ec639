-- What a chain visits: going from link to link passes over no entry of the chain.
use Rattle.std.specs.Prelude.{◌≡◌, Bool, true, false, List, eqb, get_or, length, set}
use Rattle.std.proofs.Math.Path.{refl, sym}
use Rattle.std.proofs.Common.{ap, ◌∙◌, not-suc-le-zero, add-one, get_or-set_other, get_or-set_same, eq-eqb, ne_eqb}
use Prim.Native.Nat.{ℕ, zero, suc, ◌+◌, ◌-◌, ◌≤◌, ◌<◌, zero-le}
use native.Mathlib.Omega.{arith}
use Rattle.lists.specs.Test.{pick, by-eq, by-test}

-- one more than the last number below n with the property, or 0
unfoldable pub last_below : (ℕ → Bool) → ℕ → ℕ
last_below P zero = 0
last_below P (suc n) = pick (P n) (suc n) (last_below P n)

module _ (P : ℕ → Bool) where
  pub last_le : (n : ℕ) → last_below P n ≤ n
  unfolding last_below
  last_le zero = zero-le
  last_le (suc n) = by-test (P n) (λ e. rw e (omega arith)) (λ e. rw e (omega (arith, last_le n)))

  pub last_hit : (n : ℕ) → 0 < last_below P n → P (last_below P n - 1) ≡ true
  unfolding last_below
  last_hit zero h = absurd (not-suc-le-zero h)
  last_hit (suc n) h =
      by-test (P n)
      (λ e. let q : suc n - 1 ≡ n = omega arith in rw (e, q) e)
      (λ e. rw e (last_hit n (rw e at h)))

  -- what one number without the property does not change, all the numbers that are passed over do not
  pub last_same : {A : Type 0} (f : ℕ → A) (n : ℕ) → ((k : ℕ) → k < n → P k ≡ false → f (suc k) ≡ f k) → f (last_below P n) ≡ f n
  unfolding last_below
  last_same f zero h = refl
  last_same f (suc n) h =
      by-test (P n) (λ e. rw e) (λ e. rw e (last_same f n (λ k l. h k (omega arith)) ∙ sym (h n (omega arith) e)))

-- entries are in chains by number: entry k is in chain c k, and in none where that is 1,024 or more

-- entry k is in chain h
abbrev pub in_chain : (ℕ → ℕ) → ℕ → ℕ → Bool
in_chain c h k = eqb (c k) h

-- the links of the first n entries: each that is in a chain leads to the last entry before it of that chain
abbrev pub Linked : (ℕ → ℕ) → ℕ → List ℕ → Type 0
Linked c n ns = (i : ℕ) → i < n → c i < 1024 → get_or ns i 0 ≡ last_below (in_chain c (c i)) i

-- the chains of the first n entries
pub record Chained (c : ℕ → ℕ) (n : ℕ) (hs ns : List ℕ) : Type 0 where
  pub heads : (h : ℕ) → h < 1024 → get_or hs h 0 ≡ last_below (in_chain c h) n
  pub next : Linked c n ns

-- ---- one entry more
module _ (P : ℕ → Bool) (n : ℕ) where
  last_here : P n ≡ true → last_below P (n + 1) ≡ n + 1
  unfolding last_below
  last_here e = rw (add-one, e)

  last_before : P n ≡ false → last_below P (n + 1) ≡ last_below P n
  unfolding last_below
  last_before e = rw (add-one, e)

module _ (c : ℕ → ℕ) (hs ns : List ℕ) (n : ℕ) (C : Chained c n hs ns) where
  -- in a chain
  pub chained_next : length hs ≡ 1024 → n < length ns → c n < 1024 → Chained c (n + 1) (set hs (c n) (n + 1)) (set ns n (get_or hs (c n) 0))
  chained_next l m b = record { heads = heads; next = next }
    where
      heads : (h : ℕ) → h < 1024 → get_or (set hs (c n) (n + 1)) h 0 ≡ last_below (in_chain c h) (n + 1)
      heads h b =
          by-eq h (c n)
          (λ e.
          let t : in_chain c h n ≡ true = eq-eqb (c n) h (sym e) in
          rw (last_here (in_chain c h) n t, ← e) (get_or-set_same hs h (n + 1) 0 (omega arith)))
          (λ e.
          let t : in_chain c h n ≡ false = ne_eqb (c n) h (λ q. e (sym q)) in
          rw (get_or-set_other hs (c n) h (n + 1) 0 e, last_before (in_chain c h) n t) (C.heads h b))

      next : (i : ℕ) → i < n + 1 → c i < 1024 → get_or (set ns n (get_or hs (c n) 0)) i 0 ≡ last_below (in_chain c (c i)) i
      next i l u =
          by-eq i n
          (λ e. rw (e, get_or-set_same ns n (get_or hs (c n) 0) 0 m) (C.heads (c n) b))
          (λ e. rw (get_or-set_other ns n i (get_or hs (c n) 0) 0 e) (C.next i (omega arith) u))

  -- in none
  pub chained_over : 1024 ≤ c n → Chained c (n + 1) hs ns
  chained_over b = record { heads = heads; next = next }
    where
      heads : (h : ℕ) → h < 1024 → get_or hs h 0 ≡ last_below (in_chain c h) (n + 1)
      heads h l =
          let t : in_chain c h n ≡ false = ne_eqb (c n) h (λ q. omega arith) in
          C.heads h l ∙ sym (last_before (in_chain c h) n t)

      next : (i : ℕ) → i < n + 1 → c i < 1024 → get_or ns i 0 ≡ last_below (in_chain c (c i)) i
      next i l u = by-eq i n (λ e. absurd (over e u)) (λ e. C.next i (omega arith) u)
        where
          over : i ≡ n → c i < 1024 → ⊥
          over e u = let q : c i ≡ c n = ap c e in omega arith

-- ---- what the entries from n on are does not matter
module _ (c d : ℕ → ℕ) where
  last_alike : (h n : ℕ) → ((k : ℕ) → k < n → c k ≡ d k) → last_below (in_chain c h) n ≡ last_below (in_chain d h) n
  unfolding last_below
  last_alike h zero e = refl
  last_alike h (suc n) e = rw (e n (omega arith), last_alike h n (λ k l. e k (omega arith)))

  pub chained_alike : (n : ℕ) (hs ns : List ℕ) → ((k : ℕ) → k < n → c k ≡ d k) → Chained c n hs ns → Chained d n hs ns
  chained_alike n hs ns e C = record {
    heads = λ h l. C.heads h l ∙ last_alike h n e;
    next = λ i l u.
        let q : c i ≡ d i = e i l in
        C.next i l (omega arith) ∙ ap (λ (h : ℕ). last_below (in_chain c h) i) q ∙ last_alike (d i) i (λ k m. e k (omega arith));
  }
