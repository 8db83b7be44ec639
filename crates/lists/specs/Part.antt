-- A part of a list that is pasted over, and a paste made in several parts.
use Rattle.std.specs.Prelude.{◌≡◌, List, [], ◌∷◌, ◌++◌, ℕ, zero, suc, ◌+◌, ◌-◌, ◌≤◌, ◌<◌, length, take, drop}
use Rattle.std.proofs.Common.{ap, ap₂, sym, ◌∙◌, append_assoc, append-nil, arith, suc-add, zero-add, drop_of_length-le, length-drop, take-append-drop, drop_at, drop-drop, length-take-le, take-add, take_all, take-take}
use Rattle.std.proofs.Math.Seq.{drop-append-add, length_paste_head, paste, paste-zero, drop-nil, take-nil, take-append-add}
use Rattle.std.proofs.lemmas.List.{drop-append-le, take-append-le}
use Rattle.std.proofs.lemmas.List.Edits.{take-paste}
use Rattle.lists.specs.Paste.{paste_end, drop_take}
use Rattle.lists.specs.Test.{by-lt}

module _ {A : Type 0} where
  -- ---- the part of c elements from index e, after n elements of s are pasted over d

  part_front : (c e : ℕ) (t w : List A) → e + c ≤ length t → take c (drop e (t ++ w)) ≡ take c (drop e t)
  part_front c e t w h =
      let l : c ≤ length (drop e t) = simp length-drop (omega arith) in
      ap (take c) (drop-append-le e t w (omega arith)) ∙ take-append-le c (drop e t) w l

  -- a part that ends before the paste
  pub part_below : (c e : ℕ) (d : List A) (at : ℕ) (s : List A) (n : ℕ) → at ≤ length d → e + c ≤ at → take c (drop e (paste d at s n)) ≡ take c (drop e d)
  part_below c e d at s n h k =
      let l : length (take at d) ≡ at = length-take-le at d h in
      ap (λ z. take c (drop e z)) (append_assoc (take at d) (take n s) (drop (at + n) d))
      ∙ part_front c e (take at d) (take n s ++ drop (at + n) d) (omega arith)
      ∙ sym (part_front c e (take at d) (drop at d) (omega arith))
      ∙ ap (λ z. take c (drop e z)) (take-append-drop at d)

  -- a part that begins after the paste
  pub part_above : (c e : ℕ) (d : List A) (at : ℕ) (s : List A) (n : ℕ) → at ≤ length d → n ≤ length s → at + n ≤ e → take c (drop e (paste d at s n)) ≡ take c (drop e d)
  part_above c e d at s n h k b =
      let l : length (take at d ++ take n s) ≡ at + n = length_paste_head d at s n h k in
      let m : ℕ = e - (at + n) in
      let p : e ≡ length (take at d ++ take n s) + m = omega arith in
      let q : at + n + m ≡ e = omega arith in
      ap (λ z. take c (drop z (paste d at s n))) p
      ∙ ap (take c) (drop-append-add (take at d ++ take n s) (drop (at + n) d) m ∙ drop-drop m (at + n) d ∙ ap (λ z. drop z d) q)

  -- a part that holds the whole paste, at its place k
  pub part_inside : (c e : ℕ) (d : List A) (k : ℕ) (s : List A) (n : ℕ) → e + c ≤ length d → n ≤ length s → k + n ≤ c
      → take c (drop e (paste d (e + k) s n)) ≡ paste (take c (drop e d)) k s n
  part_inside c e d k s n h l b =
      let z : List A = drop e d in
      let u : List A = take k z ++ take n s in
      let lz : length z ≡ length d - e = length-drop e d in
      let lu : length u ≡ k + n = length_paste_head z k s n (omega arith) l in
      let r : (e + k) + n ≡ e + (k + n) = omega arith in
      let p : paste d (e + k) s n ≡ take e d ++ (u ++ drop (k + n) z) =
      ap₂ (λ x y. x ++ take n s ++ y) (take-add e k d) (ap (λ x. drop x d) r ∙ sym (drop-drop (k + n) e d)) ∙ simp append_assoc in
      let q : drop e (take e d ++ (u ++ drop (k + n) z)) ≡ u ++ drop (k + n) z = drop_at (take e d) (u ++ drop (k + n) z) e (length-take-le e d (omega arith)) in
      let f : c ≡ length u + (c - (k + n)) = omega arith in
      let g : take c (u ++ drop (k + n) z) ≡ u ++ take (c - (k + n)) (drop (k + n) z) =
      ap (λ x. take x (u ++ drop (k + n) z)) f ∙ take-append-add u (drop (k + n) z) (c - (k + n)) in
      ap (λ x. take c (drop e x)) p ∙ ap (take c) q ∙ g
      ∙ ap₂ (λ x y. x ++ take n s ++ y) (sym (take-take k c z (omega arith))) (sym (drop_take (k + n) c z b (omega arith)))

  -- a part of a part
  drop_take_add : (k m : ℕ) (l : List A) → drop k (take (k + m) l) ≡ take m (drop k l)
  drop_take_add zero m l = ap (λ z. take z l) (zero-add m)
  drop_take_add (suc k) m [] = simp (take-nil, drop-nil)
  drop_take_add (suc k) m (x ∷ xs) = ap (λ z. drop (suc k) (take z (x ∷ xs))) (suc-add k m) ∙ drop_take_add k m xs

  pub part_part : (n k c : ℕ) (l : List A) → k + n ≤ c → take n (drop k (take c l)) ≡ take n (drop k l)
  part_part n k c l h =
      let e : c ≡ k + (c - k) = omega arith in
      ap (λ z. take n (drop k (take z l))) e ∙ ap (take n) (drop_take_add k (c - k) l) ∙ take-take n (c - k) (drop k l) (omega arith)

  -- ---- a paste made in several parts

  -- nothing pasted yet, and all of it
  pub paste_none : (d : List A) (at : ℕ) (s : List A) (n : ℕ) → n ≡ 0 → d ≡ paste d at s n
  paste_none d at s n e = rw e (paste-zero d at s)

  pub paste_done : (d : List A) (at : ℕ) (s : List A) (i n : ℕ) (cur : List A) → i ≤ n → n ≤ i → cur ≡ paste d at s i → cur ≡ paste d at s n
  paste_done d at s i n cur h l e = let k : i ≡ n = omega arith in e ∙ ap (λ z. paste d at s z) k

  -- all of a list pasted over
  pub paste_all : (d s : List A) (n : ℕ) → length d ≡ n → length s ≡ n → paste d 0 s n ≡ s
  paste_all d s n h l =
      ap₂ (λ x y. x ++ y) (take_all n s (omega arith)) (drop_of_length-le d {i = 0 + n} (omega arith)) ∙ append-nil s

  -- only the elements that are pasted count
  pub paste_same : (d : List A) (at : ℕ) (s t : List A) (n : ℕ) → take n s ≡ take n t → paste d at s n ≡ paste d at t n
  paste_same d at s t n e = ap (λ z. take at d ++ z ++ drop (at + n) d) e

  -- the next k elements, pasted behind the first i
  pub paste_more : (d : List A) (at : ℕ) (s : List A) (i k : ℕ) → at + i ≤ length d → i ≤ length s → paste (paste d at s i) (at + i) (drop i s) k ≡ paste d at s (i + k)
  paste_more d at s i k h l =
      let r : at + i + k ≡ at + (i + k) = omega arith in
      paste_end (take at d ++ take i s) (at + i) d (drop i s) k (length_paste_head d at s i (omega arith) l)
      ∙ ap₂ (λ x y. x ++ drop y d) (append_assoc (take at d) (take i s) (take k (drop i s)) ∙ ap (λ x. take at d ++ x) (sym (take-add i k s))) r

  -- a turn of the loop that copies k elements a turn
  pub chunk : (d : List A) (at : ℕ) (s : List A) (from i k : ℕ) (cur nxt : List A) → at + i ≤ length d → from + i ≤ length s
      → cur ≡ paste d at (drop from s) i → nxt ≡ paste cur (at + i) (drop (from + i) s) k → nxt ≡ paste d at (drop from s) (i + k)
  chunk d at s from i k cur nxt h l e f =
      let m : i ≤ length (drop from s) = simp length-drop (omega arith) in
      f ∙ ap₂ (λ x y. paste x (at + i) y k) e (sym (drop-drop i from s)) ∙ paste_more d at (drop from s) i k h m

  -- the same within one list, where what is read next is not written yet
  pub chunk_within : (d : List A) (at from i k n : ℕ) (cur nxt : List A) → (from < at → from + n ≤ at) → at + n ≤ length d → from + n ≤ length d → i + k ≤ n
      → cur ≡ paste d at (drop from d) i → nxt ≡ paste cur (at + i) (drop (from + i) cur) k → nxt ≡ paste d at (drop from d) (i + k)
  chunk_within d at from i k n cur nxt apart ha hf h e f =
      let m : i ≤ length (drop from d) = simp length-drop (omega arith) in
      let g : take k (drop (from + i) cur) ≡ take k (drop (from + i) d) =
      ap (λ z. take k (drop (from + i) z)) e
      ∙ by-lt from at
      (λ (b : from < at). let z = apart b in part_below k (from + i) d at (drop from d) i (omega arith) (omega arith))
      (λ (a : at ≤ from). part_above k (from + i) d at (drop from d) i (omega arith) m (omega arith)) in
      chunk d at d from i k cur nxt (omega arith) (omega arith) e (f ∙ paste_same cur (at + i) (drop (from + i) cur) (drop (from + i) d) k g)

  -- n elements that go by way of another list
  pub through : (d t₀ : List A) (at : ℕ) (s t o : List A) (n : ℕ) → n ≤ length s → t ≡ paste t₀ 0 s n → o ≡ paste d at (drop 0 t) n → o ≡ paste d at s n
  through d t₀ at s t o n h e f =
      f ∙ paste_same d at t s n (ap (take n) e ∙ ap (λ z. take z (paste t₀ 0 s n)) (sym (zero-add n)) ∙ take-paste t₀ 0 s n (omega arith) h)
