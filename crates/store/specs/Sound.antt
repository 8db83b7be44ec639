-- WHAT A SOUND STORE IS, sentence by sentence of document 01, and the test of it.
use Rattle.std.specs.Prelude.{◌≡◌, Bool, true, false, not, ◌&&◌, ◌||◌, ◌⊎◌, List, [], ◌∷◌, ℕ, zero, suc, ◌+◌, ◌≤◌, ◌<◌, ltb, leb, eqb, length, drop}
use Rattle.table.specs.declared.PageRange.{PageRange}
use Rattle.table.specs.declared.BackingPages.{BackingPages}
use Rattle.table.specs.declared.BackingPages.TheVariants.{Nothing, Single, Many}
use Rattle.places.specs.declared.Place.{Place}
use Rattle.store.specs.declared.Store.{Store}
use Rattle.lists.specs.Test.{pick}
use Rattle.lists.specs.Every.{All, every, all_below}
use Rattle.ranges.specs.Range.{Range, from, upto, Rising}
use Rattle.ranges.specs.Table.{named}
use Rattle.frames.specs.Free.{is_free}
use Rattle.table.specs.Table.{ranges_of, zero_range}
use Rattle.places.specs.Places.{place_at, nowhere, vacant}
use Rattle.store.specs.Abs.{used, live_bit}

-- ---- the sentences

-- a frame of the n stands at this backing and index
pub record Stands (ps : List Place) (n b i : ℕ) : Type 0 where
  pub frame : ℕ
  pub below : frame < n
  pub backing : (place_at ps frame).backing ≡ b
  pub index : (place_at ps frame).index ≡ i

-- "Between two calls `Nothing` stands only in unused slots"; "A `Single` range has length 1 and offset 0, its frame at index 0";
-- "A `Many` range has offset + length at most 1,048,576". Backings are numbered from 1.
abbrev pub Kind : ℕ → List Place → PageRange → BackingPages → Type 0
Kind n ps r Nothing = ⊥
Kind n ps r (Single b) = (0 < b) × (r.length ≡ 1) × (r.offset ≡ 0) × Stands ps n b 0
Kind n ps r (Many b) = (0 < b) × (r.offset + r.length ≤ 1048576)

-- "Each range belongs to a live object, has length at least 1, ends by page 262,144"
pub record Fine (w n : ℕ) (ps : List Place) (r : PageRange) : Type 0 where
  pub name : r.object ≤ 31
  pub live : live_bit w r.object ≡ true
  pub long : 1 ≤ r.length
  pub within : r.start.0 + r.length ≤ 262144
  pub kind : Kind n ps r r.backing

-- of different numbers, or of one kind
abbrev pub alike : BackingPages → BackingPages → Bool
alike Nothing b = true
alike (Single m) Nothing = true
alike (Single m) (Single n) = true
alike (Single m) (Many n) = not (eqb m n)
alike (Many m) Nothing = true
alike (Many m) (Single n) = not (eqb m n)
alike (Many m) (Many n) = true

abbrev pub Agree : PageRange → PageRange → Type 0
Agree a b = alike a.backing b.backing ≡ true

pub record Sound (s : Store) : Type 0 where
  -- "1 to 1,024 frames, numbered from 0"; "at most 512 ranges"
  pub some_frames : 1 ≤ s.frames
  pub few_frames : s.frames ≤ 1024
  pub few_ranges : s.count ≤ 512
  pub fine : All (Fine s.live s.frames s.places) (used s)
  -- "overlaps no other of its object"; "Ranges stand in the table by object, then start, from slot 0"
  pub order : Rising 0 (ranges_of (used s))
  -- "Ranges that hold one backing agree on its kind."
  pub agree : All (λ a. All (Agree a) (used s)) (used s)
  -- "Each vector entry lies in the window of some range that holds the vector."
  pub window : (f : ℕ) → f < s.frames → ((place_at s.places f).backing ≡ 0 → ⊥)
      → named (place_at s.places f).backing (place_at s.places f).index (ranges_of (used s)) ≡ true
  -- "Each frame is free or stands in exactly one backing at one index, no two at the same."
  pub alone : (f g : ℕ) → g < f → f < s.frames → ((place_at s.places f).backing ≡ 0 → ⊥)
      → (place_at s.places g).backing ≡ (place_at s.places f).backing → (place_at s.places g).index ≡ (place_at s.places f).index → ⊥
  -- "unused slots are zero": of the table, and the places of free frames and of frames beyond the count
  pub rest_ranges : All (λ r. r ≡ zero_range) (drop s.count s.ranges)
  pub rest_places : (f : ℕ) → f < 1024 → (s.frames ≤ f) ⊎ ((place_at s.places f).backing ≡ 0) → place_at s.places f ≡ nowhere
  -- a frame's bit is set exactly if it is free; "bits of frames beyond the count are clear"
  pub bits : (f : ℕ) → f < 1024 → is_free s.free f ≡ vacant s.frames s.places f

-- an array's length is part of its type and of no list's: what each call learns of the store that it is handed
pub record Sized (s : Store) : Type 0 where
  pub ranges : length s.ranges ≡ 512
  pub places : length s.places ≡ 1024
  pub free : length s.free ≡ 16

-- ---- the tests, one for each sentence

abbrev pub is_at? : List Place → ℕ → ℕ → ℕ → Bool
is_at? ps b i f = eqb (place_at ps f).backing b && eqb (place_at ps f).index i

-- some frame below n stands there
unfoldable pub stands? : List Place → ℕ → ℕ → ℕ → Bool
stands? ps zero b i = false
stands? ps (suc n) b i = pick (is_at? ps b i n) true (stands? ps n b i)

abbrev pub kind? : ℕ → List Place → PageRange → BackingPages → Bool
kind? n ps r Nothing = false
kind? n ps r (Single b) = ltb 0 b && (eqb r.length 1 && (eqb r.offset 0 && stands? ps n b 0))
kind? n ps r (Many b) = ltb 0 b && leb (r.offset + r.length) 1048576

abbrev pub fine? : ℕ → ℕ → List Place → PageRange → Bool
fine? live n ps r =
    leb r.object 31 && (live_bit live r.object && (leb 1 r.length && (leb (r.start.0 + r.length) 262144 && kind? n ps r r.backing)))

-- a table that rises from `low` on
unfoldable pub rising? : ℕ → List Range → Bool
rising? low [] = true
rising? low (r ∷ rs) = leb low (from r) && (ltb 0 r.len && rising? (upto r) rs)

abbrev pub is_nothing? : BackingPages → Bool
is_nothing? Nothing = true
is_nothing? (Single b) = false
is_nothing? (Many b) = false

abbrev pub zero? : PageRange → Bool
zero? r = eqb r.object 0 && (eqb r.start.0 0 && (eqb r.length 0 && (eqb r.offset 0 && is_nothing? r.backing)))

abbrev pub window? : List Range → Place → Bool
window? rs p = eqb p.backing 0 || named p.backing p.index rs

abbrev pub apart? : Place → Place → Bool
apart? a b = eqb b.backing 0 || (not (eqb a.backing b.backing) || not (eqb a.index b.index))

unfoldable pub alone? : List Place → ℕ → Bool
alone? ps f = all_below (λ g. apart? (place_at ps g) (place_at ps f)) f

-- a frame of the n that stands somewhere; or nowhere, which is 0, 0
abbrev pub idle? : ℕ → ℕ → Place → Bool
idle? n f p = (ltb f n && not (eqb p.backing 0)) || (eqb p.backing 0 && eqb p.index 0)

abbrev pub same : Bool → Bool → Bool
same a b = pick a b (not b)

abbrev pub bit? : ℕ → List Place → List ℕ → ℕ → Bool
bit? n ps ws f = same (is_free ws f) (vacant n ps f)

unfoldable pub counts? : Store → Bool
counts? s = leb 1 s.frames && (leb s.frames 1024 && leb s.count 512)

unfoldable pub ranges? : Store → Bool
ranges? s =
    every (fine? s.live s.frames s.places) (used s)
    && (rising? 0 (ranges_of (used s))
    && (every (λ a. every (λ b. alike a.backing b.backing) (used s)) (used s)
    && every zero? (drop s.count s.ranges)))

unfoldable pub places? : Store → Bool
places? s =
    all_below (λ f. window? (ranges_of (used s)) (place_at s.places f)) s.frames
    && (all_below (alone? s.places) s.frames
    && (all_below (λ f. idle? s.frames f (place_at s.places f)) 1024
    && all_below (bit? s.frames s.places s.free) 1024))

unfoldable pub sound? : Store → Bool
sound? s = counts? s && (ranges? s && places? s)
