-- Frames whose windows are found by intervals, and the window that was found last.
use Rattle.std.specs.Prelude.{◌≡◌, true, ◌&&◌, Option, Some, None, List, ℕ, ◌+◌, IfSome, eqb, leb, ltb, get_or}
use Rattle.std.proofs.Common.{sym, ◌∙◌, arith, ltb-true}
use Rattle.lists.specs.Test.{and_right}
use Rattle.places.specs.declared.Place.{Place}
use Rattle.table.specs.declared.PageRange.{PageRange}
use Rattle.window_cover.specs.declared.Cover.{Cover}
use Rattle.window_cover.specs.declared.Interval.{Interval}
use Rattle.ranges.specs.Table.{named}
use Rattle.table.specs.Table.{number_of, ranges_of, zero_range}
use Rattle.window_cover.specs.Intervals.{covered, within, Shown}
use Rattle.window_search.specs.Windows.{windowed}

-- the intervals are those of the windows of the ranges
abbrev pub Exact : List PageRange → Cover → Type 0
Exact rs v = (p : Place) → covered v p ≡ named p.backing p.index (ranges_of rs)

-- every place in the interval lies in a window of the ranges
abbrev pub Inside : List PageRange → Interval → Type 0
Inside rs a = (p : Place) → within a p ≡ true → named p.backing p.index (ranges_of rs) ≡ true

-- so it is with the interval that was found last, if there is one
abbrev pub Last : List PageRange → Option Interval → Type 0
Last rs o = IfSome o (Inside rs)

module _ (rs : List PageRange) (v : Cover) (e : Exact rs v) where
  pub last_found : (p : Place) (o : Option Interval) → Shown v p o → Last rs o
  last_found p None S = tt
  last_found p (Some a) S = λ q w. sym (e q) ∙ S.1 q w

-- ---- the interval that was found last
-- at first it has no place
pub none_inside : (rs : List PageRange) (a : Interval) → a.end ≡ 0 → Inside rs a
none_inside rs a e = λ p w.
    let l = ltb-true p.index a.end (and_right (leb a.first p.index) (ltb p.index a.end) (and_right (eqb p.backing a.backing) (leb a.first p.index && ltb p.index a.end) w)) in
    absurd (omega arith)

-- then it is the window of a range
pub window_inside : (rs : List PageRange) (i : ℕ) (a : Interval) → a ≡ record { backing = number_of (get_or rs i zero_range).backing; first = (get_or rs i zero_range).offset; end = (get_or rs i zero_range).offset + (get_or rs i zero_range).length }
    → Inside rs a
window_inside rs i a e = λ p w. windowed rs p i (rw e at w)
