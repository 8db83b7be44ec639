-- WHAT TRIMMING AND VACATING DO where few places are met: nothing, or one place set.
use Rattle.std.specs.Prelude.{◌≡◌, refl, true, false, ◌⊎◌, ℕ, zero, suc, ◌+◌, ◌-◌, ◌≤◌, ◌<◌, length, take, drop, set, Some}
use Rattle.std.proofs.Common.{ap, ap₂, sym, ◌∙◌, inl, inr, ⊎_elim, arith, length-set, get_or-set_other, get_or-set_same, ext_get_or, eq-eqb, lt-ltb}
use Rattle.std.proofs.lemmas.Bool.{false≢true}
use mathlib.Core.List.{List, [], ◌∷◌, ◌++◌, map, Memᴰ}
use Rattle.places.specs.declared.Place.{Place}
use Rattle.lists.specs.Test.{by-eq, by-lt, by-test}
use Rattle.ranges.specs.Range.{Range, Slot, from, upto, put, slot_in, slot_at, Rising}
use Rattle.ranges.specs.Table.{named}
use Rattle.ranges.specs.Find.{In, named_in, named_mem, slot_mem, slot_named}
use Rattle.ranges.specs.Over.{Rest, put_hit}
use Rattle.ranges.proofs.Over.{put_mem, put_other}
use Rattle.store.specs.Trim.{kept_place}
use Rattle.places.specs.Places.{nowhere, place_at, stands_at, emptied_at}
use Rattle.store.specs.Edits.{slot, trimmed, vacated, mapped_at, stands_place, Only}
use Rattle.store.specs.Idle.{mapped_beyond}
use Rattle.store.specs.Settle.{vacated_length}

-- ---- windows

-- where the other pages of a range that is put in are at their old slots, no slot falls out of all windows but that of the line's page g
pub put_named : (n : Range) (g : ℕ) (rs : List Range) → Rising 0 rs
    → ((h : ℕ) (t : Slot) → from n ≤ h → h < upto n → (h ≡ g → ⊥) → slot_at h rs ≡ Some t → t ≡ slot_in h n)
    → (b i : ℕ) → named b i rs ≡ true → (slot_at g rs ≡ Some (slot b i)) ⊎ (named b i (put n rs) ≡ true)
put_named n g rs R K b i e =
    let N : In b i rs = named_in b i rs e in
    let lo = N.low in
    let hi = N.high in
    let h : ℕ = from N.r + (i - N.r.offset) in
    let j : N.r.offset + (h - from N.r) ≡ i = omega arith in
    let S : slot_at h rs ≡ Some (slot b i) = slot_mem 0 h N.r rs R N.mem (omega arith) (omega arith) ∙ ap₂ (λ c k. Some (slot c k)) (sym N.backing) j in
    by-eq h g
    (λ z. inl (ap (λ k. slot_at k rs) (sym z) ∙ S))
    (λ ne. inr (slot_named h (put n rs) (slot b i) (there h ne S)))
  where
    there : (h : ℕ) → (h ≡ g → ⊥) → slot_at h rs ≡ Some (slot b i) → slot_at h (put n rs) ≡ Some (slot b i)
    there h ne S =
        by-lt h (from n)
        (λ l. put_other n h rs (inl l) ∙ S)
        (λ l. by-lt h (upto n)
        (λ u. put_hit n h rs l u ∙ ap Some (sym (K h (slot b i) l u ne S)))
        (λ u. put_other n h rs (inr u) ∙ S))

-- a range put in whose window lies in that of a range of the table names nothing new
pub put_names : (n r : Range) (rs : List Range) → Memᴰ r rs → n.backing ≡ r.backing → r.offset ≤ n.offset → n.offset + n.len ≤ r.offset + r.len
    → (b i : ℕ) → named b i (put n rs) ≡ true → named b i rs ≡ true
put_names n r rs m e lo hi b i t = ⊎_elim
    (λ (z : N.r ≡ n).
    let o : N.r.offset ≡ n.offset = ap (λ k. k.offset) z in
    let l : N.r.len ≡ n.len = ap (λ k. k.len) z in
    named_mem b i rs r m (N.backing ∙ ap (λ k. k.backing) z ∙ e) (omega (arith, N.low)) (omega (arith, N.high)))
    (λ (R : Rest n N.r rs).
    let P = R.cut.piece in
    named_mem b i rs R.cut.r R.cut.mem (N.backing ∙ P.backing) (omega (arith, N.low, P.first, P.shift)) (omega (arith, N.high, P.last, P.shift)))
    (put_mem n N.r rs N.mem)
  where
    N : In b i (put n rs)
    N = named_in b i (put n rs) t

-- ---- the first n places mapped

pub front_ext : (h k : Place → Place) (n : ℕ) (ps : List Place) → ((f : ℕ) → f < n → h (place_at ps f) ≡ k (place_at ps f))
    → map h (take n ps) ++ drop n ps ≡ map k (take n ps) ++ drop n ps
front_ext h k zero ps e = refl
front_ext h k (suc n) [] e = refl
front_ext h k (suc n) (p ∷ ps) e = ap₂ (λ q l. q ∷ l) (e 0 (omega arith)) (front_ext h k n ps (λ f l. e (suc f) (omega arith)))

pub front_same : (h : Place → Place) (n : ℕ) (ps : List Place) → ((f : ℕ) → f < n → h (place_at ps f) ≡ place_at ps f) → map h (take n ps) ++ drop n ps ≡ ps
front_same h zero ps e = refl
front_same h (suc n) [] e = refl
front_same h (suc n) (p ∷ ps) e = ap₂ (λ q l. q ∷ l) (e 0 (omega arith)) (front_same h n ps (λ f l. e (suc f) (omega arith)))

-- mapped twice, where the second map makes the same of what the first has made
front_twice : (h k : Place → Place) (n : ℕ) (ps : List Place) → ((p : Place) → k (h p) ≡ k p)
    → map k (take n (map h (take n ps) ++ drop n ps)) ++ drop n (map h (take n ps) ++ drop n ps) ≡ map k (take n ps) ++ drop n ps
front_twice h k zero ps e = refl
front_twice h k (suc n) [] e = refl
front_twice h k (suc n) (p ∷ ps) e = ap₂ (λ q l. q ∷ l) (e p) (front_twice h k n ps e)

-- ---- what stands at one place

pub stands_is : (b i : ℕ) (p : Place) → 0 < p.backing → p.backing ≡ b → p.index ≡ i → stands_at b i p ≡ true
stands_is b i p h e j = rw (lt-ltb 0 p.backing h, eq-eqb p.backing b e, eq-eqb p.index i j)

-- nothing stands there
pub vacated_none : (n b i : ℕ) (ps : List Place) → ((f : ℕ) → f < n → stands_at b i (place_at ps f) ≡ false) → vacated n b i ps ≡ ps
vacated_none n b i ps e = front_same (emptied_at b i) n ps (λ f l. rw (e f l))

-- one frame stands there
pub vacated_only : (n : ℕ) (ps : List Place) (f b i : ℕ) → n ≤ length ps → Only n ps f b i → vacated n b i ps ≡ set ps f nowhere
vacated_only n ps f b i m O = ext_get_or nowhere (vacated n b i ps) (set ps f nowhere) (vacated_length n b i ps ∙ sym (length-set ps f nowhere)) (λ k _. each k)
  where
    here : place_at (vacated n b i ps) f ≡ place_at (set ps f nowhere) f
    here =
        let z = O.backing in
        mapped_at (emptied_at b i) n ps f m O.below
        ∙ rw (stands_is b i (place_at ps f) (omega (arith, O.positive)) z O.index) (sym (get_or-set_same ps f nowhere nowhere (omega (arith, O.below))))

    other : (k : ℕ) → k < n → (k ≡ f → ⊥) → place_at (vacated n b i ps) k ≡ place_at ps k
    other k l ne =
        mapped_at (emptied_at b i) n ps k m l
        ∙ by-test (stands_at b i (place_at ps k))
        (λ t. let s = stands_place b i (place_at ps k) t in absurd (ne (O.alone k l s.1 s.2)))
        (λ t. rw t)

    each : (k : ℕ) → place_at (vacated n b i ps) k ≡ place_at (set ps f nowhere) k
    each k =
        by-eq k f
        (λ e. rw e here)
        (λ ne. by-lt k n (λ l. other k l ne) (λ l. mapped_beyond (emptied_at b i) n ps k m l) ∙ sym (get_or-set_other ps f k nowhere nowhere ne))

-- ---- the places of a store whose entries all lie in windows

-- a place is nowhere, or in use and in the window of a range
abbrev pub Kept : List Range → Place → Type 0
Kept rs p = (p ≡ nowhere) ⊎ ((0 < p.backing) × (named p.backing p.index rs ≡ true))

kept_nowhere : (rs : List Range) (p : Place) → p ≡ nowhere → kept_place rs p ≡ p
kept_nowhere rs p e = by-test (named p.backing p.index rs) (λ t. rw t) (λ t. rw t (sym e))

kept_named : (rs : List Range) (p : Place) → named p.backing p.index rs ≡ true → kept_place rs p ≡ p
kept_named rs p t = rw t

empty_nowhere : (b i : ℕ) (p : Place) → p ≡ nowhere → emptied_at b i p ≡ p
empty_nowhere b i p e = by-test (stands_at b i p) (λ t. rw t (sym e)) (λ t. rw t)

module _ (n : ℕ) (rs rs' : List Range) (ps : List Place) (tight : (f : ℕ) → f < n → Kept rs (place_at ps f)) where
  -- every window stays
  pub trimmed_all : ((b i : ℕ) → named b i rs ≡ true → named b i rs' ≡ true) → trimmed n rs' ps ≡ ps
  trimmed_all h =
      front_same (kept_place rs') n ps
      (λ f l. ⊎_elim
      (λ e. kept_nowhere rs' (place_at ps f) e)
      (λ (k : (0 < (place_at ps f).backing) × (named (place_at ps f).backing (place_at ps f).index rs ≡ true)).
      kept_named rs' (place_at ps f) (h (place_at ps f).backing (place_at ps f).index k.1))
      (tight f l))

  -- every window but that of one place stays
  pub trimmed_but : (c j : ℕ) → named c j rs' ≡ false → ((b i : ℕ) → named b i rs ≡ true → ((b ≡ c) × (i ≡ j)) ⊎ (named b i rs' ≡ true)) → trimmed n rs' ps ≡ vacated n c j ps
  trimmed_but c j t h = front_ext (kept_place rs') (emptied_at c j) n ps (λ f l. each (place_at ps f) (tight f l))
    where
      each : (p : Place) → Kept rs p → kept_place rs' p ≡ emptied_at c j p
      each p (inl e) = kept_nowhere rs' p e ∙ sym (empty_nowhere c j p e)
      each p (inr k) =
          by-test (stands_at c j p)
          (λ u. let s = stands_place c j p u in
          let w : named p.backing p.index rs' ≡ false = ap₂ (λ b i. named b i rs') s.1 s.2 ∙ t in rw (u, w))
          (λ u. rw u
          (⊎_elim
          (λ (e : (p.backing ≡ c) × (p.index ≡ j)). absurd (false≢true (sym u ∙ stands_is c j p k.0 e.0 e.1)))
          (λ w. kept_named rs' p w)
          (h p.backing p.index k.1)))

-- a place vacated: nothing new stands anywhere
pub vacated_still : (n c j b i : ℕ) (ps : List Place) → n ≤ length ps → ((f : ℕ) → f < n → stands_at b i (place_at ps f) ≡ false)
    → (f : ℕ) → f < n → stands_at b i (place_at (vacated n c j ps) f) ≡ false
vacated_still n c j b i ps m e f l =
    ap (stands_at b i) (mapped_at (emptied_at c j) n ps f m l) ∙ by-test (stands_at c j (place_at ps f)) (λ t. rw t) (λ t. rw t (e f l))

-- TRIMMED TWICE, by tables of which the second names nothing new, is trimmed once
pub trimmed_twice : (n : ℕ) (rs rs' : List Range) (ps : List Place) → ((b i : ℕ) → named b i rs' ≡ true → named b i rs ≡ true)
    → trimmed n rs' (trimmed n rs ps) ≡ trimmed n rs' ps
trimmed_twice n rs rs' ps h = front_twice (kept_place rs) (kept_place rs') n ps each
  where
    each : (p : Place) → kept_place rs' (kept_place rs p) ≡ kept_place rs' p
    each p =
        by-test (named p.backing p.index rs)
        (λ t. rw t)
        (λ t. rw t (kept_nowhere rs' nowhere refl
        ∙ by-test (named p.backing p.index rs')
        (λ u. absurd (false≢true (sym t ∙ h p.backing p.index u)))
        (λ u. rw u)))
