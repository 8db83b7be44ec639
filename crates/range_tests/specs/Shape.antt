-- The test of each range by itself and behind the one before it, in one pass. The kinds of backings and the frames of `Single` ranges are looked at later.
use Rattle.std.specs.Prelude.{◌≡◌, Bool, ◌&&◌, ℕ, ◌+◌, ◌≤◌, ◌<◌, ltb, leb, eqb, length, take, drop, get_or}
use Rattle.std.proofs.Math.Path.{refl}
use Rattle.std.proofs.Math.Bool.{true, false}
use mathlib.Core.List.{List, [], ◌∷◌}
use Rattle.std.proofs.Common.{leb-true, lt-ltb, add-one, drop_of_length-le}
use Rattle.std.proofs.Math.Seq.{drop-cons}
use Rattle.table.specs.declared.PageRange.{PageRange}
use Rattle.table.specs.declared.BackingPages.{BackingPages}
use Rattle.table.specs.declared.BackingPages.TheVariants.{Nothing, Single, Many}
use Rattle.lists.specs.Test.{by-test, and_left, and_right}
use Rattle.lists.specs.Every.{every}
use Rattle.lists.specs.Rest.{left_cons, left_end}
use Rattle.ranges.specs.Range.{from, upto}
use Rattle.table.specs.Table.{range_of, ranges_of, zero_range}
use Rattle.store.specs.Abs.{live_bit}
use Rattle.store.specs.Sound.{rising?}

-- what `kind?` asks of a range's length and offset
abbrev pub fits? : ℕ → ℕ → BackingPages → Bool
fits? length offset Nothing = false
fits? length offset (Single b) = ltb 0 b && (eqb length 1 && eqb offset 0)
fits? length offset (Many b) = ltb 0 b && leb (offset + length) 1048576

-- what it asks of the range alone
abbrev pub shaped_kind? : PageRange → BackingPages → Bool
shaped_kind? r k = fits? r.length r.offset k

-- what `fine?` asks of the range but for its backing
abbrev pub lies? : ℕ → PageRange → Bool
lies? live r = leb r.object 31 && (live_bit live r.object && (leb 1 r.length && leb (r.start.0 + r.length) 262144))

-- the same, and it begins at or after `low`
abbrev pub follows? : ℕ → ℕ → PageRange → Bool
follows? live low r = lies? live r && leb low (from (range_of r))

-- each range lies so, and begins at or after `low`, where the one before it ends
unfoldable pub rises? : ℕ → ℕ → List PageRange → Bool
rises? live low [] = true
rises? live low (r ∷ rs) = follows? live low r && rises? live (upto (range_of r)) rs

module _ (live : ℕ) where
  lies_long : (r : PageRange) → lies? live r ≡ true → ltb 0 r.length ≡ true
  lies_long r h =
      let a = and_right (leb r.object 31) _ h in
      let b = and_right (live_bit live r.object) _ a in
      let c = leb-true 1 r.length (and_left (leb 1 r.length) _ b) in
      lt-ltb 0 r.length c

  pub rises_parts : (low : ℕ) (l : List PageRange) → rises? live low l ≡ (every (lies? live) l && rising? low (ranges_of l))
  unfolding rises? rising? ranges_of every
  rises_parts low [] = refl
  rises_parts low (r ∷ rs) =
      by-test (lies? live r)
      (λ e. rw (e, lies_long r e, rises_parts (upto (range_of r)) rs) (turn (leb low (from (range_of r))) (every (lies? live) rs) (rising? (upto (range_of r)) (ranges_of rs))))
      (λ e. rw e)
    where
      turn : (a b c : Bool) → (a && (b && c)) ≡ (b && (a && c))
      turn true b c = refl
      turn false true c = refl
      turn false false c = refl

  -- ---- the loop: the first k ranges are passed
  module _ (l : List PageRange) where
    pub rises_next : (low k : ℕ) → k < length l → follows? live low (get_or l k zero_range) ≡ true
        → rises? live low (drop k l) ≡ rises? live (upto (range_of (get_or l k zero_range))) (drop (k + 1) l)
    unfolding rises?
    rises_next low k h e = rw (add-one, drop-cons l k zero_range h, e)

    pub rises_wrong : (low k : ℕ) → k < length l → follows? live low (get_or l k zero_range) ≡ false → rises? live low (drop k l) ≡ false
    unfolding rises?
    rises_wrong low k h e = rw (drop-cons l k zero_range h, e)

    pub rises_done : (low k : ℕ) → length l ≤ k → rises? live low (drop k l) ≡ true
    unfolding rises?
    rises_done low k h = rw (drop_of_length-le l h)

  -- of the first n
  module _ (l : List PageRange) (n : ℕ) (m : n ≤ length l) where
    pub rises_turn : (low k : ℕ) → k < n → follows? live low (get_or l k zero_range) ≡ true
        → rises? live low (drop k (take n l)) ≡ rises? live (upto (range_of (get_or l k zero_range))) (drop (k + 1) (take n l))
    unfolding rises?
    rises_turn low k h e = rw (left_cons n l k zero_range h m, e)

    pub rises_fails : (low k : ℕ) → k < n → follows? live low (get_or l k zero_range) ≡ false
        → rises? live low (drop k (take n l)) ≡ false
    unfolding rises?
    rises_fails low k h e = rw (left_cons n l k zero_range h m, e)

    pub rises_end : (low k : ℕ) → n ≤ k → rises? live low (drop k (take n l)) ≡ true
    unfolding rises?
    rises_end low k h = rw (left_end n l k h)
