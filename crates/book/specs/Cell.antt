-- "a backing has at each index nothing, or a frame number and 4,096 bytes". Kept by frame: free, or a backing, an index and the bytes;
-- so "Each frame is free or stands in exactly one backing at one index" holds by form.
use Rattle.std.specs.Prelude.{Bool, false, ◌&&◌, List, [], ◌∷◌, map, ℕ, suc, eqb, Option, Some, None}
use Rattle.lists.specs.Test.{pick}
use Rattle.ranges.specs.Range.{Range, Slot}
use Rattle.ranges.specs.Table.{named}

pub data Cell : Type 0 where
  free : Cell
  holds : ℕ → ℕ → List ℕ → Cell

-- the cell is at this backing and index
abbrev pub is_at : Slot → Cell → Bool
is_at s free = false
is_at s (holds b i x) = eqb b s.inside && eqb i s.index

-- what stands at a slot: nothing, or bytes; cells stand by frame number
unfoldable pub bytes_at : Slot → List Cell → Option (List ℕ)
bytes_at s [] = None
bytes_at s (free ∷ cs) = bytes_at s cs
bytes_at s (holds b i x ∷ cs) = pick (is_at s (holds b i x)) (Some x) (bytes_at s cs)

-- the frame that stands at a slot, counted from n
unfoldable pub frame_at : Slot → ℕ → List Cell → Option ℕ
frame_at s n [] = None
frame_at s n (c ∷ cs) = pick (is_at s c) (Some n) (frame_at s (suc n) cs)

-- "Entries in no holder's window go at once .. and their frames become free."
abbrev pub kept : List Range → Cell → Cell
kept rs free = free
kept rs (holds b i x) = pick (named b i rs) (holds b i x) free

unfoldable pub trim : List Range → List Cell → List Cell
trim rs cs = map (kept rs) cs

-- the cell at a slot becomes free
abbrev pub emptied : Slot → Cell → Cell
emptied s free = free
emptied s (holds b i x) = pick (is_at s (holds b i x)) free (holds b i x)

unfoldable pub vacate : Slot → List Cell → List Cell
vacate s cs = map (emptied s) cs

-- the bytes at a slot are changed by f
abbrev pub changed : Slot → (List ℕ → List ℕ) → Cell → Cell
changed s f free = free
changed s f (holds b i x) = pick (is_at s (holds b i x)) (holds b i (f x)) (holds b i x)

unfoldable pub edit : Slot → (List ℕ → List ℕ) → List Cell → List Cell
edit s f cs = map (changed s f) cs

-- the free frames, the highest first: those of cells counted from n, put before those in acc
unfoldable pub free_from : ℕ → List ℕ → List Cell → List ℕ
free_from n acc [] = acc
free_from n acc (free ∷ cs) = free_from (suc n) (n ∷ acc) cs
free_from n acc (holds b i x ∷ cs) = free_from (suc n) acc cs
