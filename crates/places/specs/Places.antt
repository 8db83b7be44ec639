-- The vector table: "all page vectors", kept by frame. Entry f says where frame f stands, so "Each frame is free or stands in exactly one backing
-- at one index" holds by form; "no two at the same" does not, and is a test of the store. A list of places has any length; of a table, the first
-- n entries are those of the store's n frames.
use Rattle.std.specs.Prelude.{◌≡◌, Bool, ◌&&◌, List, [], ◌∷◌, ℕ, suc, ◌+◌, eqb, ltb, get_or, length, Option, Some, None}
use Rattle.lists.specs.Test.{pick}
use Rattle.frames.specs.Free.{is_free}
use Rattle.places.specs.declared.Place.{Place}

abbrev pub place : ℕ → ℕ → Place
place b i = record { backing = b; index = i }

-- a free frame's place
abbrev pub nowhere : Place
nowhere = place 0 0

abbrev pub place_at : List Place → ℕ → Place
place_at ps f = get_or ps f nowhere

-- the frame stands at index i of backing b, "the vector's entry". Backing numbers are positive: a free frame stands at no index of any backing.
abbrev pub stands_at : ℕ → ℕ → Place → Bool
stands_at b i p = ltb 0 p.backing && (eqb p.backing b && eqb p.index i)

-- "Page p of a range is the vector's entry at offset + (p − start), or absent": the first frame that stands at this backing and index, counted from k
unfoldable pub frame_at : ℕ → ℕ → ℕ → List Place → Option ℕ
frame_at b i k [] = None
frame_at b i k (p ∷ ps) = pick (stands_at b i p) (Some k) (frame_at b i (suc k) ps)

-- "released frames are free": what stood at this backing and index is free
abbrev pub emptied_at : ℕ → ℕ → Place → Place
emptied_at b i p = pick (stands_at b i p) nowhere p

-- "frames in use": those that stand at a backing
unfoldable pub used_count : List Place → ℕ
used_count [] = 0
used_count (p ∷ ps) = pick (ltb 0 p.backing) 1 0 + used_count ps

-- "Each frame is free or stands in exactly one backing at one index": it stands at no backing
abbrev pub is_vacant : Place → Bool
is_vacant p = eqb p.backing 0

-- frame f is one of the first n and stands at no backing
abbrev pub vacant : ℕ → List Place → ℕ → Bool
vacant n ps f = ltb f n && eqb (place_at ps f).backing 0

-- the frames that stand at no backing, the highest first: those of places counted from k, put before those in acc
unfoldable pub vacant_from : ℕ → List ℕ → List Place → List ℕ
vacant_from k acc [] = acc
vacant_from k acc (p ∷ ps) = vacant_from (suc k) (pick (eqb p.backing 0) (k ∷ acc) acc) ps

-- d is the free map of a table with n frames: "one bit each, in sixteen words of 64", set exactly where the frame is free; "bits of frames beyond
-- the count are clear"
pub record FreeMap (n : ℕ) (ps : List Place) (d : List ℕ) : Type 0 where
  pub long : length d ≡ 16
  pub bits : (f : ℕ) → is_free d f ≡ vacant n ps f
