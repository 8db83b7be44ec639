-- "a map of free frames, one bit each, in sixteen words of 64. The frame handed out is the highest-numbered free one, and the number of free
-- frames is the count of set bits." The words are a list ws of numbers below 2 ^ 64.
use Rattle.std.specs.Prelude.{◌≡◌, Bool, List, [], ◌∷◌, ℕ, zero, suc, ◌+◌, ◌-◌, ◌/◌, ◌%◌, ◌^◌, ◌≤◌, ◌<◌, eqb, get_or, length, set, Option, Some, None}
use Rattle.std.specs.Int.Bits.{bit_and, bit_or}
use Rattle.std.specs.Int.Count.{ones}
use Rattle.lists.specs.Test.{pick}

-- bit f of the map, 1 where frame f is free
unfoldable pub free_bit : List ℕ → ℕ → ℕ
free_bit ws f = get_or ws (f / 64) 0 / 2 ^ (f % 64) % 2

abbrev pub is_free : List ℕ → ℕ → Bool
is_free ws f = eqb (free_bit ws f) 1

-- "The frame handed out is the highest-numbered free one": the highest below n
unfoldable pub highest_below : List ℕ → ℕ → Option ℕ
highest_below ws zero = None
highest_below ws (suc n) = pick (is_free ws n) (Some n) (highest_below ws n)

-- "the number of free frames is the count of set bits"
abbrev pub free_count : List ℕ → ℕ
free_count [] = 0
free_count (w ∷ ws) = ones w + free_count ws

-- the free frames below n as a list, the highest first, as the run book has them
unfoldable pub spare_of : List ℕ → ℕ → List ℕ
spare_of ws zero = []
spare_of ws (suc n) = pick (is_free ws n) (n ∷ spare_of ws n) (spare_of ws n)

-- the first of a list of frames
abbrev pub head_of : List ℕ → Option ℕ
head_of [] = None
head_of (f ∷ fs) = Some f

-- every frame is below the one before it, and the first is below n
unfoldable pub Falling : ℕ → List ℕ → Type 0
Falling n [] = Unit {0}
Falling n (f ∷ fs) = (f < n) × Falling f fs

-- n counts the set bits of ws, and so the free frames
pub record Counted (ws : List ℕ) (n : ℕ) : Type 0 where
  pub bits : n ≡ free_count ws
  pub frames : n ≡ length (spare_of ws 1024)

-- the map with bit f cleared, whatever it was
unfoldable pub cleared : List ℕ → ℕ → List ℕ
cleared ws f = set ws (f / 64) (bit_and (get_or ws (f / 64) 0) (2 ^ 64 - 1 - 2 ^ (f % 64)))

-- the map with bit f set, whatever it was
unfoldable pub marked : List ℕ → ℕ → List ℕ
marked ws f = set ws (f / 64) (bit_or (get_or ws (f / 64) 0) (2 ^ (f % 64)))

-- r is the map ws with frame f taken out: bit f is clear, and every other bit is as it was, so where bit f was clear no bit changes. The count
-- falls by the bit that was there: by one if frame f was free.
pub record TakenOut (ws : List ℕ) (f : ℕ) (r : List ℕ) : Type 0 where
  pub words : r ≡ cleared ws f
  pub clear : free_bit r f ≡ 0
  pub others : (g : ℕ) → (g ≡ f → ⊥) → free_bit r g ≡ free_bit ws g
  pub count : free_count ws ≡ free_count r + free_bit ws f

-- r is the place of w's highest set bit
pub record Top (w r : ℕ) : Type 0 where
  pub low : 2 ^ r ≤ w
  pub high : w < 2 ^ (r + 1)
  pub small : r < 64
