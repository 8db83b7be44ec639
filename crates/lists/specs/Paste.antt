-- Loops that store one element a turn: the list is then pasted over.
use Rattle.std.specs.Prelude.{◌≡◌, List, ◌++◌, ℕ, zero, suc, ◌+◌, ◌-◌, ◌≤◌, ◌<◌, length, take, drop, get_or, set, replicate}
use Rattle.std.proofs.Common.{sym, ap, ◌∙◌, add-one, arith, length-drop, get_or-drop, length-take-le, take_at, drop_at, drop-drop, take-add, get_or-take, get_or-append-add}
use Rattle.std.proofs.Math.Numerals.{unary_clauses}
use Rattle.std.proofs.Math.Nat.{zero-sub}
use Rattle.std.proofs.Math.ListN.{get_or-append}
use Rattle.std.proofs.Math.Seq.{paste, paste-suc, drop-append-add, length_paste_head}

module _ {A : Type 0} where
  -- one turn of the loop that copies from index `from` of s to index `at` of d
  pub paste_next : (d : List A) (at : ℕ) (s : List A) (from i : ℕ) (z : A) → at + i < length d → from + i < length s
      → set (paste d at (drop from s) i) (at + i) (get_or s (from + i) z) ≡ paste d at (drop from s) (i + 1)
  paste_next d at s from i z hd hs =
      let hl : i < length (drop from s) = simp length-drop (omega arith) in
      ap (λ (v : A). set (paste d at (drop from s) i) (at + i) v) (sym (get_or-drop from s i z))
      ∙ paste-suc d at (drop from s) i z hd hl
      ∙ ap (λ (k : ℕ). paste d at (drop from s) k) (sym (add-one i))

  -- a paste right behind what is written already goes on writing
  pub paste_end : (x : List A) (at : ℕ) (e s : List A) (n : ℕ) → length x ≡ at
      → paste (x ++ drop at e) at s n ≡ (x ++ take n s) ++ drop (at + n) e
  paste_end x at e s n h =
      let a : take at (x ++ drop at e) ≡ x = take_at x (drop at e) at h in
      let b : drop (at + n) (x ++ drop at e) ≡ drop (at + n) e = rw (← h) (drop-append-add x (drop (length x) e) n ∙ drop-drop n (length x) e) in
      rw (a, b)

  pub drop_take : (q c : ℕ) (l : List A) → q ≤ c → c ≤ length l → drop q (take c l) ≡ take (c - q) (drop q l)
  drop_take q c l h k =
      let e : c ≡ q + (c - q) = omega arith in
      ap (λ (m : ℕ). drop q (take m l)) e
      ∙ ap (λ (m : List A). drop q m) (take-add q (c - q) l)
      ∙ drop_at (take q l) (take (c - q) (drop q l)) q (length-take-le q l (omega arith))

  pub drop_replicate : (m n : ℕ) (a : A) → drop m (replicate n a) ≡ replicate (n - m) a
  drop_replicate zero n a = simp unary_clauses
  drop_replicate (suc m) zero a = simp zero-sub
  drop_replicate (suc m) (suc n) a = simp unary_clauses (drop_replicate m n a)

-- The loop that writes one element a turn, whatever it writes: d is the list at entry, s what is to be written from index at, i how many are written.
module _ {A : Type 0} where
  pub turn : (d : List A) (at : ℕ) (s : List A) (i : ℕ) (v z : A) (cur : List A) → at + i < length d → i < length s → v ≡ get_or s i z → cur ≡ paste d at s i
      → set cur (at + i) v ≡ paste d at s (i + 1)
  turn d at s i v z cur hd hs ev e = rw (e, ev, add-one) (paste-suc d at s i z hd hs)

  -- what a paste leaves as it was
  pub paste_below : (d : List A) (at : ℕ) (s : List A) (n k : ℕ) (z : A) → at ≤ length d → n ≤ length s → k < at → get_or (paste d at s n) k z ≡ get_or d k z
  paste_below d at s n k z hd hs h =
      let l : length (take at d ++ take n s) ≡ at + n = length_paste_head d at s n hd hs in
      let m : length (take at d) ≡ at = length-take-le at d hd in
      get_or-append (take at d ++ take n s) (drop (at + n) d) z k (omega arith)
      ∙ get_or-append (take at d) (take n s) z k (omega arith)
      ∙ get_or-take at d k z h

  pub paste_above : (d : List A) (at : ℕ) (s : List A) (n k : ℕ) (z : A) → at ≤ length d → n ≤ length s → at + n ≤ k → get_or (paste d at s n) k z ≡ get_or d k z
  paste_above d at s n k z hd hs h =
      let l : length (take at d ++ take n s) ≡ at + n = length_paste_head d at s n hd hs in
      let e : k ≡ length (take at d ++ take n s) + (k - (at + n)) = omega arith in
      let e' : at + n + (k - (at + n)) ≡ k = omega arith in
      ap (λ (j : ℕ). get_or (paste d at s n) j z) e
      ∙ get_or-append-add (take at d ++ take n s) (drop (at + n) d) (k - (at + n)) z
      ∙ get_or-drop (at + n) d (k - (at + n)) z
      ∙ ap (λ (j : ℕ). get_or d j z) e'
