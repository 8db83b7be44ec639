-- What is read off a table of ranges: who holds a backing, a new backing's number, windows, the range before a page, the parts of a span.
use Rattle.std.specs.Prelude.{Bool, false, ◌&&◌, ◌||◌, List, [], ◌∷◌, ◌++◌, ℕ, zero, suc, ◌+◌, ◌-◌, min, max, ltb, leb, eqb, length, Option, Some, None}
use Rattle.lists.specs.Test.{pick}
use Rattle.ranges.specs.Range.{Range, Ranged, from, upto, keep, skip}

-- "The count of an `Arc` becomes the number of ranges that hold a backing."
unfoldable pub holders : ℕ → List Range → ℕ
holders b [] = 0
holders b (r ∷ rs) = pick (eqb b r.backing) (suc (holders b rs)) (holders b rs)

-- "a new backing": its number is the smallest positive one that no range holds, of n and the k numbers after it
unfoldable pub fresh_from : ℕ → ℕ → List Range → ℕ
fresh_from zero n rs = n
fresh_from (suc k) n rs = pick (eqb (holders n rs) 0) n (fresh_from k (suc n) rs)

unfoldable pub fresh : List Range → ℕ
fresh rs = fresh_from (length rs) 1 rs

-- "in the window of some range that holds the vector": index i of backing b is in the window of r, or of some range
abbrev pub window : ℕ → ℕ → Range → Bool
window b i r = eqb b r.backing && (leb r.offset i && ltb i (r.offset + r.len))

unfoldable pub named : ℕ → ℕ → List Range → Bool
named b i [] = false
named b i (r ∷ rs) = window b i r || named b i rs

abbrev pub some_or : {B : Type 0} → Option (Ranged B) → Ranged B → Option (Ranged B)
some_or None r = Some r
some_or (Some q) r = Some q

-- the range that covers the line's page g, or else "the previous range": the last that begins at or before g
unfoldable pub previous : {B : Type 0} → ℕ → List (Ranged B) → Option (Ranged B)
previous g [] = None
previous g (r ∷ rs) = pick (ltb g (from r)) None (some_or (previous g rs) r)

-- what a range has of the line's pages from a up to e, as a range; nothing if they do not meet
unfoldable pub part : ℕ → ℕ → Range → List Range
part a e r =
    let b : ℕ = max a (from r) in
    pick (ltb b (min e (upto r))) (keep (min e (upto r) - b) (skip (b - from r) r) ∷ []) []

-- "a walk yields, in rising order, the ranges that overlap the span asked for": their parts in the span
unfoldable pub parts : ℕ → ℕ → List Range → List Range
parts a e [] = []
parts a e (r ∷ rs) = part a e r ++ parts a e rs

-- the same backing and indexes for object o, where page q of it stands for the line's page a
abbrev pub moved : ℕ → ℕ → ℕ → Range → Range
moved a o q r = record { object = o; start = q + (from r - a); len = r.len; offset = r.offset; backing = r.backing }
