-- Entries put into their chains, one after the other.
use Rattle.std.specs.Prelude.{◌≡◌, ℕ, ◌+◌, ◌≤◌, ◌<◌, get_or, length, replicate, set}
use Rattle.std.proofs.Common.{◌∙◌, not-suc-le-zero, arith, length-set}
use Rattle.std.proofs.lemmas.List.{get_or-replicate, length-replicate}
use Rattle.chains.specs.declared.Chains.{Chains}
use Rattle.chains.specs.Chains.{Chained, chained_next, in_chain, last_below, last_le}

-- the chains of the first n entries, entry k being in chain c k, in arrays of 1,024 numbers
pub record Charted (c : ℕ → ℕ) (n : ℕ) (x : Chains) : Type 0 where
  pub chained : Chained c n x.heads x.next
  pub heads : length x.heads ≡ 1024
  pub next : length x.next ≡ 1024

-- entry i put into chain h
abbrev pub with_entry : ℕ → ℕ → Chains → Chains
with_entry h i x = record { heads = set x.heads h (i + 1); next = set x.next i (get_or x.heads h 0) }

module _ (c : ℕ → ℕ) where
  pub charted_none : (x : Chains) → x.heads ≡ replicate 1024 0 → x.next ≡ replicate 1024 0 → Charted c 0 x
  unfolding last_below
  charted_none x e d = record {
    chained = record { heads = λ h b. rw e (get_or-replicate 1024 h 0 0 b); next = λ i b. absurd (not-suc-le-zero b) };
    heads = rw e (length-replicate {A = ℕ} 1024 0);
    next = rw d (length-replicate {A = ℕ} 1024 0);
  }

  module _ (n : ℕ) (x : Chains) (C : Charted c n x) where
    pub charted_next : n < 1024 → (h : ℕ) → h ≡ c n → h < 1024 → (y : Chains) → y ≡ with_entry h n x → Charted c (n + 1) y
    charted_next b h e l y p =
        rw (p, e)
        (record {
          chained = chained_next c x.heads x.next n C.chained C.heads (omega (arith, C.next)) (omega arith);
          heads = length-set x.heads (c n) (n + 1) ∙ C.heads;
          next = length-set x.next n (get_or x.heads (c n) 0) ∙ C.next;
        })

    -- a head leads to one of the entries
    pub head_low : (h : ℕ) → h < 1024 → get_or x.heads h 0 ≤ n
    head_low h l = omega (arith, C.chained.heads h l, last_le (in_chain c h) n)
