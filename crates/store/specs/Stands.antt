-- "its frame at index 0": which edits of the places leave a frame where it stands, and what that says of a range's kind.
use Rattle.std.specs.Prelude.{◌≡◌, refl, true, ℕ, ◌≤◌, ◌<◌, length, set}
use Rattle.std.proofs.Common.{ap, ap₂, sym, ◌∙◌, arith, get_or-set_same, get_or-set_other}
use mathlib.Core.List.{List, Memᴰ}
use Rattle.table.specs.declared.PageRange.{PageRange}
use Rattle.table.specs.declared.BackingPages.{BackingPages}
use Rattle.table.specs.declared.BackingPages.TheVariants.{Nothing, Single, Many}
use Rattle.places.specs.declared.Place.{Place}
use Rattle.lists.specs.Test.{by-test}
use Rattle.ranges.specs.Range.{Range}
use Rattle.ranges.specs.Table.{named}
use Rattle.ranges.specs.Find.{named_mem}
use Rattle.table.specs.Table.{number_of, range_of, ranges_of}
use Rattle.places.specs.Places.{place, nowhere, place_at, stands_at, emptied_at}
use Rattle.store.specs.Sound.{Stands, Kind}
use Rattle.store.specs.Members.{range_mem}
use Rattle.store.specs.Trim.{kept_place}
use Rattle.store.specs.Edits.{trimmed, vacated, mapped_at, stands_place}

-- a frame whose place is as it was
stands_as : (ps qs : List Place) (n b i : ℕ) (S : Stands ps n b i) → place_at qs S.frame ≡ place_at ps S.frame → Stands qs n b i
stands_as ps qs n b i S e = record { frame = S.frame; below = S.below; backing = ap (λ p. p.backing) e ∙ S.backing; index = ap (λ p. p.index) e ∙ S.index }

kept_same : (rs : List Range) (p : Place) → named p.backing p.index rs ≡ true → kept_place rs p ≡ p
kept_same rs p h = rw h

-- a frame that a range names stays when the places are trimmed
pub stands_trimmed : (ps : List Place) (n b i : ℕ) (rs : List Range) → n ≤ length ps → named b i rs ≡ true → Stands ps n b i → Stands (trimmed n rs ps) n b i
stands_trimmed ps n b i rs m h S =
    stands_as ps (trimmed n rs ps) n b i S
    (mapped_at (kept_place rs) n ps S.frame m S.below
    ∙ kept_same rs (place_at ps S.frame) (ap₂ (λ c j. named c j rs) S.backing S.index ∙ h))

emptied_same : (b i : ℕ) (p : Place) → (p.backing ≡ b → p.index ≡ i → ⊥) → emptied_at b i p ≡ p
emptied_same b i p ne = by-test (stands_at b i p) (λ t. let s = stands_place b i p t in absurd (ne s.1 s.2)) (λ t. rw t)

-- a frame that stands elsewhere stays when a slot is vacated
pub stands_vacated : (ps : List Place) (n b i c j : ℕ) → n ≤ length ps → (c ≡ b → j ≡ i → ⊥) → Stands ps n c j → Stands (vacated n b i ps) n c j
stands_vacated ps n b i c j m ne S =
    stands_as ps (vacated n b i ps) n c j S
    (mapped_at (emptied_at b i) n ps S.frame m S.below
    ∙ emptied_same b i (place_at ps S.frame) (λ e f. ne (sym S.backing ∙ e) (sym S.index ∙ f)))

-- a frame that stands somewhere stays when a free frame is placed
pub stands_beside : (ps : List Place) (n b i f : ℕ) (p : Place) → 0 < b → (place_at ps f).backing ≡ 0 → Stands ps n b i → Stands (set ps f p) n b i
stands_beside ps n b i f p h z S =
    stands_as ps (set ps f p) n b i S
    (get_or-set_other ps f S.frame p nowhere (λ e. let q : (place_at ps S.frame).backing ≡ (place_at ps f).backing = ap (λ g. (place_at ps g).backing) e in omega (arith, S.backing)))

-- the frame placed stands there
pub stands_placed : (ps : List Place) (n b i f : ℕ) → f < n → n ≤ length ps → Stands (set ps f (place b i)) n b i
stands_placed ps n b i f l m =
    let e : place_at (set ps f (place b i)) f ≡ place b i = get_or-set_same ps f (place b i) nowhere (omega arith) in
    record { frame = f; below = l; backing = ap (λ p. p.backing) e; index = ap (λ p. p.index) e }

-- ---- kinds

-- each frame at index 0 of a backing that a range of rs names stays at it
unfoldable pub Stay : List Place → List Place → ℕ → List Range → Type 0
Stay ps qs n rs = (b : ℕ) → 0 < b → named b 0 rs ≡ true → Stands ps n b 0 → Stands qs n b 0

-- a range of the table is of the same kind with the new places
pub kind_moved : (ps qs : List Place) (n : ℕ) (m : List PageRange) (q : PageRange) → Memᴰ q m → Stay ps qs n (ranges_of m) → Kind n ps q q.backing → Kind n qs q q.backing
unfolding Stay
kind_moved ps qs n m q i K h = go q.backing refl h
  where
    go : (k : BackingPages) → q.backing ≡ k → Kind n ps q k → Kind n qs q k
    go Nothing e h = h
    go (Many b) e h = h
    go (Single b) e h =
        let x : b ≡ number_of q.backing = sym (ap number_of e) in
        let w : named b 0 (ranges_of m) ≡ true = named_mem b 0 (ranges_of m) (range_of q) (range_mem m q i) x (omega (arith, h.2)) (omega (arith, h.1)) in
        (h.0, h.1, h.2, K b h.0 w h.3)
