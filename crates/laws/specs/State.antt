-- What stays true of the state inside a call: `Good`.
use Rattle.std.specs.Prelude.{◌≡◌, true, ℕ, ◌+◌, ◌≤◌, ◌<◌, length, get_or, Some}
use mathlib.Core.List.{List, [], ◌∷◌, Memᴰ, head_d}
use Rattle.std.proofs.Common.{le_refl, arith}
use Rattle.std.proofs.Math.ListN.{get_or-eq_default}
use Rattle.ranges.specs.Range.{Range, Slot, Rising}
use Rattle.ranges.specs.Table.{named}
use Rattle.book.specs.Cell.{Cell, free, holds, bytes_at}
use Rattle.book.specs.Work.{Work, next}
use Rattle.laws.specs.Cells.{At, bytes_frame}

-- the spare frames fall from below `top`, and each is free
unfoldable pub Spare : ℕ → List Cell → List ℕ → Type 0
Spare top cs [] = Unit {0}
Spare top cs (f ∷ fs) = (f < top) × (get_or cs f free ≡ free) × Spare f cs fs

-- the ranges rise and stay within their objects; the spare frames are free
pub record Ordered (w : Work) : Type 0 where
  pub rising : Rising 0 w.ranges
  pub within : (r : Range) → Memᴰ r w.ranges → r.start + r.len ≤ 262144
  pub spare : Spare (length w.cells) w.cells w.spare

-- "Each vector entry lies in the window of some range that holds the vector."
unfoldable pub Tight : Work → Type 0
Tight w = (f b i : ℕ) (x : List ℕ) → get_or w.cells f free ≡ holds b i x → named b i w.ranges ≡ true

-- every frame in use has the bytes of a page
unfoldable pub Fits : Work → Type 0
Fits w = (f b i : ℕ) (x : List ℕ) → get_or w.cells f free ≡ holds b i x → length x ≡ w.size

-- "Each frame is free or stands in exactly one backing at one index, no two at the same."
unfoldable pub Apart : Work → Type 0
Apart w = (f g b i : ℕ) (x y : List ℕ) → get_or w.cells f free ≡ holds b i x → get_or w.cells g free ≡ holds b i y → f ≡ g

pub record Good (w : Work) : Type 0 where
  pub whole : Ordered w
  pub tight : Tight w
  pub fits : Fits w
  pub apart : Apart w

-- ---- read at a slot

pub tight_slot : (w : Work) → Tight w → (s : Slot) (x : List ℕ) → bytes_at s w.cells ≡ Some x → named s.inside s.index w.ranges ≡ true
unfolding Tight
tight_slot w T s x e = let A : At s x w.cells = bytes_frame s x w.cells e in T A.frame s.inside s.index x A.is

pub fits_slot : (w : Work) → Fits w → (s : Slot) (x : List ℕ) → bytes_at s w.cells ≡ Some x → length x ≡ w.size
unfolding Fits
fits_slot w F s x e = let A : At s x w.cells = bytes_frame s x w.cells e in F A.frame s.inside s.index x A.is

-- ---- spare frames

pub spare_keep : (top : ℕ) (cs ds : List Cell) (fs : List ℕ) → ((f : ℕ) → f < top → get_or cs f free ≡ free → get_or ds f free ≡ free) → Spare top cs fs → Spare top ds fs
unfolding Spare
spare_keep top cs ds [] h s = tt
spare_keep top cs ds (f ∷ fs) h s = (s.0, h f s.0 s.1, spare_keep f cs ds fs (λ k l. h k (omega (arith, s.0))) s.2)

pub spare_weaken : (top top' : ℕ) (cs : List Cell) (fs : List ℕ) → top ≤ top' → Spare top cs fs → Spare top' cs fs
unfolding Spare
spare_weaken top top' cs [] h s = tt
spare_weaken top top' cs (f ∷ fs) h s = (omega (arith, s.0), s.1, s.2)

-- the frame taken next is free
pub spare_next : (w : Work) → Ordered w → get_or w.cells (next w) free ≡ free
unfolding Spare head_d
spare_next w W = go w.spare W.spare
  where
    go : (fs : List ℕ) → Spare (length w.cells) w.cells fs → get_or w.cells (head_d fs (length w.cells)) free ≡ free
    go [] s = get_or-eq_default w.cells free (le_refl (length w.cells))
    go (f ∷ fs) s = s.1

-- while there is one, it is a frame of the pool
pub spare_room : (w : Work) → Ordered w → 0 < length w.spare → next w < length w.cells
unfolding Spare head_d
spare_room w W l = go w.spare W.spare l
  where
    go : (fs : List ℕ) → Spare (length w.cells) w.cells fs → 0 < length fs → head_d fs (length w.cells) < length w.cells
    go [] s h = absurd (omega arith)
    go (f ∷ fs) s h = s.0
