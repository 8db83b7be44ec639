-- Edits of the store's table of ranges.
use Rattle.std.specs.Prelude.{List, ◌++◌, map, ℕ, ◌+◌, ◌-◌, length, take, drop, replicate}
use Rattle.ranges.specs.Range.{Ranged, carve, put}
use Rattle.table.specs.declared.PageRange.{PageRange}
use Rattle.table.specs.declared.BackingPages.{BackingPages}
use Rattle.table.specs.Table.{ranged, unranged, ranged_of, zero_range}
use Rattle.edit.specs.declared.RangeTable.{RangeTable}

-- a list filled up to 512 with zero ranges: "from slot 0; unused slots are zero"
unfoldable pub padded : List PageRange → List PageRange
padded l = l ++ replicate (512 - length l) zero_range

-- the k ranges at p replaced by new
unfoldable pub spliced : List PageRange → ℕ → ℕ → ℕ → List PageRange → List PageRange
spliced R count p k new = padded (take p R ++ new ++ drop (p + k) (take count R))

-- a list of ranges as a table
abbrev pub tabled : List (Ranged BackingPages) → RangeTable
tabled l = record { ranges = padded (map unranged l); count = length l }

-- a range put over its span; the pages from a up to e cut out
unfoldable pub put_table : List PageRange → ℕ → PageRange → RangeTable
put_table R count n = tabled (put (ranged n) (ranged_of (take count R)))

unfoldable pub cut_table : List PageRange → ℕ → ℕ → ℕ → RangeTable
cut_table R count a e = tabled (carve a e (ranged_of (take count R)))
