-- WHERE A PAGE IS SETTLED: the range that is put into the table for it, and its index in that range's backing.
use Rattle.std.specs.Prelude.{Bool, ℕ, zero, suc, ◌-◌, ltb, get_or}
use Rattle.table.specs.declared.PageRange.{PageRange}
use Rattle.table.specs.declared.BackingPages.TheVariants.{Single, Many}
use Rattle.store.specs.declared.Store.{Store}
use Rattle.pages.specs.declared.Spot.{Spot}
use Rattle.lists.specs.Test.{pick}
use Rattle.ranges.specs.Range.{line, from, upto}
use Rattle.ranges.specs.Table.{fresh}
use Rattle.ranges.specs.Search.{starts_before}
use Rattle.book.specs.Work.{is_shared, joins}
use Rattle.table.specs.Table.{number_of, ranged, ranged_of, range_of, ranges_of, zero_range}
use Rattle.store.specs.Abs.{used}
use Rattle.look.specs.Look.{index_in}

-- "is cut out as a range of its own with a new backing and offset 0"; "A range that adding starts has a new backing and offset 0 too."
abbrev pub own_spot : Store → ℕ → ℕ → Spot
own_spot s o p = record { range = record { object = o; start = record { 0 = p }; length = 1; offset = 0; backing = Single (fresh (ranges_of (used s))) }; index = 0 }

-- the page stays at its index
abbrev pub same_place : PageRange → ℕ → Spot
same_place r g = record { range = r; index = index_in r g }

-- the range made longer, up to the line's page g
abbrev pub longer : PageRange → ℕ → PageRange
longer r g = record { object = r.object; start = r.start; length = suc g - from (ranged r); offset = r.offset; backing = Many (number_of r.backing) }

abbrev pub longer_spot : PageRange → ℕ → Spot
longer_spot r g = record { range = longer r g; index = index_in r g }

abbrev pub shared_range : Store → PageRange → Bool
shared_range s r = is_shared (number_of r.backing) (ranges_of (used s))

-- page p of object o is added: r covers it, or is the previous range
abbrev pub spot_in : Store → ℕ → ℕ → PageRange → Spot
spot_in s o p r =
    pick (ltb (line o p) (upto (ranged r)))
    (pick (shared_range s r) (own_spot s o p) (same_place r (line o p)))
    (pick (joins o p (ranges_of (used s)) (range_of r)) (longer_spot r (line o p)) (own_spot s o p))

-- n ranges begin at or before the page
abbrev pub spot_from : Store → ℕ → ℕ → ℕ → Spot
spot_from s o p zero = own_spot s o p
spot_from s o p (suc k) = spot_in s o p (get_or s.ranges k zero_range)

unfoldable pub spot_of : Store → ℕ → ℕ → Spot
spot_of s o p = spot_from s o p (starts_before (suc (line o p)) (ranged_of (used s)))
