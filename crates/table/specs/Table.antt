-- The store's table of ranges, as a table of the book.
use Rattle.std.specs.Prelude.{◌≡◌, List, [], ◌∷◌, map, ℕ, zero, suc, ◌+◌, ◌≤◌, ◌<◌, length, take, get_or, ltb, Option, Some, None}
use Rattle.lists.specs.Test.{pick}
use Rattle.ranges.specs.Range.{Range, Ranged, upto, front, back, Rising}
use Rattle.ranges.specs.Search.{starts_before}
use Rattle.ranges.specs.Reback.{reback}
use Rattle.table.specs.declared.PageRange.{PageRange}
use Rattle.table.specs.declared.BackingPages.{BackingPages}
use Rattle.table.specs.declared.Pieces.{Pieces}
use Rattle.table.specs.declared.BackingPages.TheVariants.{Nothing, Single, Many}

-- a backing's number; 0 where there is none
abbrev pub number_of : BackingPages → ℕ
number_of Nothing = 0
number_of (Single n) = n
number_of (Many n) = n

-- a range with its backing, and back
abbrev pub ranged : PageRange → Ranged BackingPages
ranged r = record { object = r.object; start = r.start.0; len = r.length; offset = r.offset; backing = r.backing }

abbrev pub unranged : Ranged BackingPages → PageRange
unranged r = record { object = r.object; start = record { 0 = r.start }; length = r.len; offset = r.offset; backing = r.backing }

unfoldable pub ranged_of : List PageRange → List (Ranged BackingPages)
ranged_of rs = map ranged rs

-- a range of the book: the backing is its number
abbrev pub range_of : PageRange → Range
range_of r = reback number_of (ranged r)

unfoldable pub ranges_of : List PageRange → List Range
ranges_of rs = map range_of rs

abbrev pub zero_range : PageRange
zero_range = record { object = 0; start = record { 0 = 0 }; length = 0; offset = 0; backing = Nothing }

-- what keeps sums of a range's numbers small
pub record Small (r : PageRange) : Type 0 where
  pub ends : r.start.0 + r.length ≤ 262144
  pub indexes : r.offset + r.length ≤ 1048576

-- the first `count` slots of a table are ranges in order
pub record Table (R : List PageRange) (count : ℕ) : Type 0 where
  pub full : length R ≡ 512
  pub few : count ≤ 512
  pub small : (i : ℕ) → i < count → Small (get_or R i zero_range)
  pub rising : Rising 0 (ranged_of (take count R))

-- a part of a range, as a list
abbrev pub parts_of : Option PageRange → List (Ranged BackingPages)
parts_of None = []
parts_of (Some r) = ranged r ∷ []

-- the two parts of a range cut by the pages from a up to e
pub record Cut (q : Pieces) (a e : ℕ) (r : Ranged BackingPages) : Type 0 where
  pub before : parts_of q.before ≡ front a r
  pub after : parts_of q.after ≡ back e r

-- the number before n, if there is one
abbrev pub less_one : ℕ → Option ℕ
less_one zero = None
less_one (suc k) = Some k

-- the place of the range that covers page g: the last that begins at or before it, if that reaches so far
abbrev pub reaching : ℕ → List (Ranged BackingPages) → ℕ → Option ℕ
reaching g rs zero = None
reaching g rs (suc k) = pick (ltb g (upto (get_or rs k (ranged zero_range)))) (Some k) None

unfoldable pub covering_at : ℕ → List (Ranged BackingPages) → Option ℕ
covering_at g rs = reaching g rs (starts_before (suc g) rs)
