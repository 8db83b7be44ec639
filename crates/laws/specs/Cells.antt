-- The laws of cells: what trimming, vacating, editing and setting a cell leave at another slot.
use Rattle.std.specs.Option.{option_map}
use Rattle.std.specs.Prelude.{◌≡◌, refl, true, false, List, [], ◌∷◌, ℕ, zero, suc, ◌<◌, eqb, length, set, get_or, ◌⊎◌, Some, None}
use Rattle.std.proofs.Common.{sym, ◌∙◌, true≢false, arith, not-suc-le-zero, length-set, eq-eqb, eqb-true, inr, inl, get_or-set_same, get_or-set_other}
use Rattle.std.proofs.Math.ListN.{get_or-map, get_or-eq_default}
use Rattle.lists.specs.Test.{by-test, and_left, and_right, by-eq, by-lt}
use Rattle.ranges.specs.Range.{Range, Slot}
use Rattle.ranges.specs.Table.{named}
use Rattle.book.specs.Cell.{Cell, free, holds, is_at, bytes_at, kept, trim, emptied, vacate, edit, changed}

-- two slots that differ: a cell at one is not at the other
abbrev pub Differ : Slot → Slot → Type 0
Differ s t = s.inside ≡ t.inside → s.index ≡ t.index → ⊥

pub apart : (s : Slot) (b i : ℕ) (x : List ℕ) → (b ≡ s.inside → i ≡ s.index → ⊥) → is_at s (holds b i x) ≡ false
apart s b i x h =
    by-test (is_at s (holds b i x))
    (λ t. absurd (h (eqb-true b s.inside (and_left _ _ t)) (eqb-true i s.index (and_right (eqb b s.inside) _ t))))
    (λ t. t)

pub same_slot : (s : Slot) (b i : ℕ) (x : List ℕ) → is_at s (holds b i x) ≡ true → (b ≡ s.inside) × (i ≡ s.index)
same_slot s b i x t = (eqb-true b s.inside (and_left _ _ t), eqb-true i s.index (and_right (eqb b s.inside) _ t))

-- editing or vacating a slot leaves what stands at a slot of another backing
pub edit_other : (s t : Slot) (f : List ℕ → List ℕ) (cs : List Cell) → Differ t s → bytes_at t (edit s f cs) ≡ bytes_at t cs
unfolding edit bytes_at
edit_other s t f [] h = refl
edit_other s t f (free ∷ cs) h = edit_other s t f cs h
edit_other s t f (holds b i x ∷ cs) h =
    by-test (is_at s (holds b i x))
    (λ e. let q = same_slot s b i x e in
    let n : is_at t (holds b i x) ≡ false = apart t b i x (λ y z. h (sym y ∙ q.0) (sym z ∙ q.1)) in
    rw (e, n) (edit_other s t f cs h))
    (λ e. rw (e, edit_other s t f cs h))

pub vacate_other : (s t : Slot) (cs : List Cell) → Differ t s → bytes_at t (vacate s cs) ≡ bytes_at t cs
unfolding vacate bytes_at
vacate_other s t [] h = refl
vacate_other s t (free ∷ cs) h = vacate_other s t cs h
vacate_other s t (holds b i x ∷ cs) h =
    by-test (is_at s (holds b i x))
    (λ e. let q = same_slot s b i x e in
    let n : is_at t (holds b i x) ≡ false = apart t b i x (λ y z. h (sym y ∙ q.0) (sym z ∙ q.1)) in
    rw (e, n) (vacate_other s t cs h))
    (λ e. rw (e, vacate_other s t cs h))

-- trimming keeps a cell that a page names
pub trim_named : (t : Slot) (rs : List Range) (cs : List Cell) → named t.inside t.index rs ≡ true → bytes_at t (trim rs cs) ≡ bytes_at t cs
unfolding trim bytes_at
trim_named t rs [] h = refl
trim_named t rs (free ∷ cs) h = trim_named t rs cs h
trim_named t rs (holds b i x ∷ cs) h =
    by-test (is_at t (holds b i x))
    (λ e. let p : b ≡ t.inside = eqb-true b t.inside (and_left _ _ e) in
    let q : i ≡ t.index = eqb-true i t.index (and_right (eqb b t.inside) _ e) in
    let k : named b i rs ≡ true = rw (p, q) h in
    rw (k, e))
    (λ e. by-test (named b i rs)
    (λ k. rw (k, e, trim_named t rs cs h))
    (λ k. rw (k, e, trim_named t rs cs h)))

pub holds_free : (b i : ℕ) (x : List ℕ) → holds b i x ≡ free → ⊥
holds_free b i x e = let z : ◌≡◌ {A = ℕ} 0 1 = cc in omega arith

-- a cell that was free is set: what stands at a slot of another backing stays
pub set_other : (t : Slot) (b i : ℕ) (x : List ℕ) (cs : List Cell) (f : ℕ) → get_or cs f free ≡ free → (t.inside ≡ b → t.index ≡ i → ⊥) → bytes_at t (set cs f (holds b i x)) ≡ bytes_at t cs
unfolding bytes_at
set_other t b i x [] f e h = refl
set_other t b i x (free ∷ cs) zero e h = rw (apart t b i x (λ y z. h (sym y) (sym z)))
set_other t b i x (free ∷ cs) (suc f) e h = set_other t b i x cs f e h
set_other t b i x (holds c j y ∷ cs) zero e h = absurd (holds_free c j y e)
set_other t b i x (holds c j y ∷ cs) (suc f) e h = rw (set_other t b i x cs f e h)

-- a free cell stays free
pub trim_free : (rs : List Range) (cs : List Cell) (f : ℕ) → get_or cs f free ≡ free → get_or (trim rs cs) f free ≡ free
unfolding trim
trim_free rs cs f e = get_or-map (kept rs) cs f free ∙ rw e

pub vacate_free : (s : Slot) (cs : List Cell) (f : ℕ) → get_or cs f free ≡ free → get_or (vacate s cs) f free ≡ free
unfolding vacate
vacate_free s cs f e = get_or-map (emptied s) cs f free ∙ rw e

-- what stands at the slot itself
pub edit_here : (s : Slot) (f : List ℕ → List ℕ) (cs : List Cell) → bytes_at s (edit s f cs) ≡ option_map f (bytes_at s cs)
unfolding edit bytes_at
edit_here s f [] = refl
edit_here s f (free ∷ cs) = edit_here s f cs
edit_here s f (holds b i x ∷ cs) = by-test (is_at s (holds b i x)) (λ e. rw e (rw e)) (λ e. rw e (rw e (edit_here s f cs)))

pub vacate_here : (s : Slot) (cs : List Cell) → bytes_at s (vacate s cs) ≡ None
unfolding vacate bytes_at
vacate_here s [] = refl
vacate_here s (free ∷ cs) = vacate_here s cs
vacate_here s (holds b i x ∷ cs) = by-test (is_at s (holds b i x)) (λ e. rw e (vacate_here s cs)) (λ e. rw e (rw e (vacate_here s cs)))

pub set_here : (s : Slot) (x : List ℕ) (cs : List Cell) (f : ℕ) → f < length cs → bytes_at s cs ≡ None → bytes_at s (set cs f (holds s.inside s.index x)) ≡ Some x
unfolding bytes_at
set_here s x [] f h e = absurd (not-suc-le-zero h)
set_here s x (c ∷ cs) zero h e = rw (eq-eqb s.inside s.inside refl, eq-eqb s.index s.index refl)
set_here s x (free ∷ cs) (suc f) h e = set_here s x cs f (omega arith) e
set_here s x (holds b i y ∷ cs) (suc f) h e =
    by-test (is_at s (holds b i y))
    (λ t. absurd (let z : Some y ≡ None = rw t at e in let u : ◌≡◌ {A = ℕ} 0 1 = cc in omega arith))
    (λ t. rw t (set_here s x cs f (omega arith) (rw t at e)))

-- ---- which cells are in use afterwards: frame f holds index i of backing b, with the bytes x

pub free_holds : (b i : ℕ) (x : List ℕ) → free ≡ holds b i x → ⊥
free_holds b i x e = holds_free b i x (sym e)

-- some frame holds the slot s with the bytes x
pub record At (s : Slot) (x : List ℕ) (cs : List Cell) : Type 0 where
  pub frame : ℕ
  pub is : get_or cs frame free ≡ holds s.inside s.index x

at_tail : {s : Slot} {x : List ℕ} {c : Cell} {cs : List Cell} → At s x cs → At s x (c ∷ cs)
at_tail a = record { frame = suc a.frame; is = a.is }

-- an edit leaves a cell's backing and index; its bytes stay, or are changed by g
pub record Edited (g : List ℕ → List ℕ) (f b i : ℕ) (y : List ℕ) (cs : List Cell) : Type 0 where
  pub old : List ℕ
  pub was : get_or cs f free ≡ holds b i old
  pub new : (y ≡ old) ⊎ (y ≡ g old)

pub bytes_frame : (s : Slot) (x : List ℕ) (cs : List Cell) → bytes_at s cs ≡ Some x → At s x cs
unfolding bytes_at
bytes_frame s x [] e = absurd (let z : ◌≡◌ {A = ℕ} 0 1 = cc in omega arith)
bytes_frame s x (free ∷ cs) e = at_tail (bytes_frame s x cs e)
bytes_frame s x (holds b i y ∷ cs) e =
    by-test (is_at s (holds b i y))
    (λ t. let q = same_slot s b i y t in
    let z : Some y ≡ Some x = rw t at e in
    record { frame = 0; is = λ k. holds (q.0 k) (q.1 k) (some_path y x z k) })
    (λ t. at_tail (bytes_frame s x cs (rw t at e)))
  where
    some_path : (y x : List ℕ) → Some y ≡ Some x → y ≡ x
    some_path y x z = cc

pub trim_at : (rs : List Range) (cs : List Cell) (f b i : ℕ) (x : List ℕ) → get_or (trim rs cs) f free ≡ holds b i x
    → (get_or cs f free ≡ holds b i x) × (named b i rs ≡ true)
unfolding trim
trim_at rs cs f b i x e = go (get_or cs f free) refl (sym (get_or-map (kept rs) cs f free) ∙ e)
  where
    go : (c : Cell) → get_or cs f free ≡ c → kept rs c ≡ holds b i x → (get_or cs f free ≡ holds b i x) × (named b i rs ≡ true)
    go free h k = absurd (free_holds b i x k)
    go (holds c j y) h k =
        by-test (named c j rs)
        (λ t. let z : holds c j y ≡ holds b i x = rw t at k in
        let p : c ≡ b = cc in
        let q : j ≡ i = cc in
        (h ∙ z, rw (← p, ← q) t))
        (λ t. absurd (free_holds b i x (rw t at k)))

pub vacate_at : (s : Slot) (cs : List Cell) (f b i : ℕ) (x : List ℕ) → get_or (vacate s cs) f free ≡ holds b i x
    → (get_or cs f free ≡ holds b i x) × Differ (record { inside = b; index = i }) s
unfolding vacate
vacate_at s cs f b i x e = go (get_or cs f free) refl (sym (get_or-map (emptied s) cs f free) ∙ e)
  where
    go : (c : Cell) → get_or cs f free ≡ c → emptied s c ≡ holds b i x → (get_or cs f free ≡ holds b i x) × Differ (record { inside = b; index = i }) s
    go free h k = absurd (free_holds b i x k)
    go (holds c j y) h k =
        by-test (is_at s (holds c j y))
        (λ t. absurd (free_holds b i x (rw t at k)))
        (λ t. let z : holds c j y ≡ holds b i x = rw t at k in
        let p : c ≡ b = cc in
        let q : j ≡ i = cc in
        (h ∙ z, λ u v. true≢false (sym (rw (eq-eqb c s.inside (p ∙ u), eq-eqb j s.index (q ∙ v))) ∙ t)))

pub edit_at : (s : Slot) (g : List ℕ → List ℕ) (cs : List Cell) (f b i : ℕ) (y : List ℕ) → get_or (edit s g cs) f free ≡ holds b i y → Edited g f b i y cs
unfolding edit
edit_at s g cs f b i y e = go (get_or cs f free) refl (sym (get_or-map (changed s g) cs f free) ∙ e)
  where
    go : (c : Cell) → get_or cs f free ≡ c → changed s g c ≡ holds b i y → Edited g f b i y cs
    go free h k = absurd (free_holds b i y k)
    go (holds c j x) h k =
        by-test (is_at s (holds c j x))
        (λ t. let z : holds c j (g x) ≡ holds b i y = rw t at k in
        let p : holds c j x ≡ holds b i x = same z in
        let q : g x ≡ y = cc in
        record { old = x; was = h ∙ p; new = inr (sym q) })
        (λ t. let z : holds c j x ≡ holds b i y = rw t at k in
        let q : x ≡ y = cc in
        record { old = y; was = h ∙ z; new = inl refl })
      where
        same : holds c j (g x) ≡ holds b i y → holds c j x ≡ holds b i x
        same z = let p : c ≡ b = cc in let q : j ≡ i = cc in λ k. holds (p k) (q k) x

pub set_at : (cs : List Cell) (k : ℕ) (c : Cell) (f b i : ℕ) (x : List ℕ) → get_or (set cs k c) f free ≡ holds b i x
    → ((f ≡ k) × (c ≡ holds b i x)) ⊎ ((f ≡ k → ⊥) × (get_or cs f free ≡ holds b i x))
set_at cs k c f b i x e =
    by-eq f k
    (λ p. by-lt k (length cs)
    (λ l. inl (p, sym (get_or-set_same cs k c free l) ∙ rw p at e))
    (λ l. absurd (free_holds b i x (sym (get_or-eq_default (set cs k c) free (simp length-set (omega arith))) ∙ e))))
    (λ p. inr (p, sym (get_or-set_other cs k f c free p) ∙ e))
