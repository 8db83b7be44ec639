-- A STORE WITH ONE PART CHANGED.
use Rattle.std.specs.Prelude.{List, ℕ, get_or, set}
use Rattle.table.specs.declared.PageRange.{PageRange}
use Rattle.places.specs.declared.Place.{Place}
use Rattle.store.specs.declared.Store.{Store}
use Rattle.table.specs.Table.{zero_range}

abbrev pub range_at : Store → ℕ → PageRange
range_at s i = get_or s.ranges i zero_range

abbrev pub word_at : List ℕ → ℕ → ℕ
word_at ws i = get_or ws i 0

abbrev pub with_ranges : List PageRange → Store → Store
with_ranges l s = record s { ranges = l }

abbrev pub with_range : ℕ → PageRange → Store → Store
with_range i r s = with_ranges (set s.ranges i r) s

abbrev pub with_places : List Place → Store → Store
with_places l s = record s { places = l }

abbrev pub with_place : ℕ → Place → Store → Store
with_place f p s = with_places (set s.places f p) s

abbrev pub with_free : List ℕ → Store → Store
with_free l s = record s { free = l }

abbrev pub with_word : ℕ → ℕ → Store → Store
with_word i x s = with_free (set s.free i x) s

abbrev pub with_count : ℕ → Store → Store
with_count n s = record s { count = n }

abbrev pub with_frames : ℕ → Store → Store
with_frames n s = record s { frames = n }

abbrev pub with_live : ℕ → Store → Store
with_live n s = record s { live = n }
