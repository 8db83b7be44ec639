-- The table of ranges replaced: what the used slots are then, as ranges of the book.
use Rattle.std.specs.Prelude.{◌≡◌, refl, List, [], ◌∷◌, map, ℕ, zero, suc, ◌-◌, length, take, drop, replicate}
use Rattle.std.proofs.Math.Path.{ap}
use Rattle.std.proofs.Common.{sym, ◌∙◌, take_at, drop_at}
use Rattle.std.proofs.lemmas.List.{length-map}
use Rattle.table.specs.declared.PageRange.{PageRange}
use Rattle.table.specs.declared.BackingPages.{BackingPages}
use Rattle.edit.specs.declared.RangeTable.{RangeTable}
use Rattle.lists.specs.Every.{All}
use Rattle.ranges.specs.Range.{Ranged, carve, put}
use Rattle.ranges.specs.Reback.{reback, carve_reback, put_reback}
use Rattle.table.specs.Table.{number_of, ranged, unranged, ranged_of, range_of, ranges_of, zero_range}
use Rattle.edit.specs.Edit.{padded, tabled, put_table, cut_table}

-- the used slots of a padded table are the list
pub padded_used : (l : List PageRange) (c : ℕ) → length l ≡ c → take c (padded l) ≡ l
unfolding padded
padded_used l c e = take_at l (replicate (512 - length l) zero_range) c e

pub zeros_all : (k : ℕ) → All (λ r. r ≡ zero_range) (replicate k zero_range)
unfolding All
zeros_all zero = tt
zeros_all (suc k) = (refl, zeros_all k)

-- "unused slots are zero"
pub padded_rest : (l : List PageRange) (c : ℕ) → length l ≡ c → All (λ r. r ≡ zero_range) (drop c (padded l))
unfolding padded
padded_rest l c e = rw (drop_at l (replicate (512 - length l) zero_range) c e) (zeros_all (512 - length l))

-- ---- a list of ranges with their backings, as a table

-- the book's ranges are those with the backing's number
pub ranges_ranged : (l : List PageRange) → ranges_of l ≡ map (reback number_of) (ranged_of l)
unfolding ranges_of ranged_of
ranges_ranged [] = refl
ranges_ranged (r ∷ l) = ap (λ k. range_of r ∷ k) (ranges_ranged l)

ranges_unranged : (X : List (Ranged BackingPages)) → ranges_of (map unranged X) ≡ map (reback number_of) X
unfolding ranges_of
ranges_unranged [] = refl
ranges_unranged (r ∷ X) = ap (λ k. reback number_of r ∷ k) (ranges_unranged X)

ranged_unranged : (X : List (Ranged BackingPages)) → ranged_of (map unranged X) ≡ X
unfolding ranged_of
ranged_unranged [] = refl
ranged_unranged (r ∷ X) = ap (λ k. r ∷ k) (ranged_unranged X)

abbrev pub used_of : RangeTable → List PageRange
used_of t = take t.count t.ranges

pub tabled_used : (X : List (Ranged BackingPages)) → used_of (tabled X) ≡ map unranged X
tabled_used X = padded_used (map unranged X) (length X) (length-map X unranged)

pub tabled_ranges : (X : List (Ranged BackingPages)) → ranges_of (used_of (tabled X)) ≡ map (reback number_of) X
tabled_ranges X = ap ranges_of (tabled_used X) ∙ ranges_unranged X

pub tabled_ranged : (X : List (Ranged BackingPages)) → ranged_of (used_of (tabled X)) ≡ X
tabled_ranged X = ap ranged_of (tabled_used X) ∙ ranged_unranged X

pub tabled_rest : (X : List (Ranged BackingPages)) → All (λ r. r ≡ zero_range) (drop (tabled X).count (tabled X).ranges)
tabled_rest X = padded_rest (map unranged X) (length X) (length-map X unranged)

-- ---- the two edits

module _ (R : List PageRange) (count : ℕ) where
  -- a range put over its span: the book's put
  pub put_ranges : (n : PageRange) (t : RangeTable) → t ≡ put_table R count n → ranges_of (used_of t) ≡ put (range_of n) (ranges_of (take count R))
  unfolding put_table
  put_ranges n t e =
      ap (λ u. ranges_of (used_of u)) e
      ∙ tabled_ranges (put (ranged n) (ranged_of (take count R)))
      ∙ put_reback number_of (ranged n) (ranged_of (take count R))
      ∙ ap (put (range_of n)) (sym (ranges_ranged (take count R)))

  -- the pages from a up to e cut out: the book's cut
  pub cut_ranges : (a e : ℕ) (t : RangeTable) → t ≡ cut_table R count a e → ranges_of (used_of t) ≡ carve a e (ranges_of (take count R))
  unfolding cut_table
  cut_ranges a e t q =
      ap (λ u. ranges_of (used_of u)) q
      ∙ tabled_ranges (carve a e (ranged_of (take count R)))
      ∙ carve_reback number_of a e (ranged_of (take count R))
      ∙ ap (carve a e) (sym (ranges_ranged (take count R)))

  -- the used slots with their backings
  pub put_used : (n : PageRange) (t : RangeTable) → t ≡ put_table R count n → ranged_of (used_of t) ≡ put (ranged n) (ranged_of (take count R))
  unfolding put_table
  put_used n t e = ap (λ u. ranged_of (used_of u)) e ∙ tabled_ranged (put (ranged n) (ranged_of (take count R)))

  -- and the slots behind them
  pub put_rest : (n : PageRange) (t : RangeTable) → t ≡ put_table R count n → All (λ r. r ≡ zero_range) (drop t.count t.ranges)
  unfolding put_table
  put_rest n t e = rw e (tabled_rest (put (ranged n) (ranged_of (take count R))))

  pub cut_rest : (a e : ℕ) (t : RangeTable) → t ≡ cut_table R count a e → All (λ r. r ≡ zero_range) (drop t.count t.ranges)
  unfolding cut_table
  cut_rest a e t q = rw q (tabled_rest (carve a e (ranged_of (take count R))))
