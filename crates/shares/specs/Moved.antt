-- THE PART OF A RANGE that lies between the pages a and e of the line, as a range of object o whose page q stands for a.
use Rattle.std.specs.Prelude.{◌≡◌, List, [], ◌∷◌, map, ℕ, ◌+◌, ◌-◌, ◌≤◌, ◌<◌, min, max, length, Option, Some, None}
use Rattle.std.proofs.Common.{ap, ◌∙◌, arith}
use Rattle.page.specs.declared.PageNumber.{PageNumber}
use Rattle.table.specs.declared.PageRange.{PageRange}
use Rattle.table.specs.declared.BackingPages.{BackingPages}
use Rattle.table.specs.declared.BackingPages.TheVariants.{Nothing, Single, Many}
use Rattle.places.specs.declared.Place.{Place}
use Rattle.ranges.specs.Range.{Range, line, from, upto}
use Rattle.ranges.specs.Table.{part, moved}
use Rattle.ranges.specs.Parts.{part_some, part_none}
use Rattle.table.specs.Table.{number_of, ranged, range_of, Small}
use Rattle.store.specs.Sound.{Kind}

-- where the part begins on the line, and where it ends
abbrev pub begins : ℕ → PageRange → ℕ
begins a r = max a (from (ranged r))

abbrev pub ends : ℕ → PageRange → ℕ
ends e r = min e (upto (ranged r))

-- "one range of its backing and indexes"
abbrev pub moved_range : ℕ → ℕ → ℕ → ℕ → PageRange → PageRange
moved_range a e o q r = record {
  object = o;
  start = record { 0 = q + (begins a r - a) };
  length = ends e r - begins a r;
  offset = r.offset + (begins a r - from (ranged r));
  backing = r.backing;
}

-- what the code says of it: nothing where they do not meet
abbrev pub IsMoved : ℕ → ℕ → ℕ → ℕ → PageRange → Option PageRange → Type 0
IsMoved a e o q r None = ends e r ≤ begins a r
IsMoved a e o q r (Some n) = (begins a r < ends e r) × (n ≡ moved_range a e o q r)

module _ (a e o q : ℕ) (r : PageRange) where
  -- the code's range is the one meant
  pub is_moved : (g : PageNumber) (s u b t : ℕ) → s ≡ from (ranged r) → u ≡ upto (ranged r) → b ≡ max a s → t ≡ min e u → b < t → g.0 ≡ q + (b - a)
      → IsMoved a e o q r (Some (record { object = o; start = g; length = t - b; offset = r.offset + (b - s); backing = r.backing }))
  is_moved g s u b t es eu eb et h eg =
      let x : b ≡ begins a r = eb ∙ ap (max a) es in
      let y : t ≡ ends e r = et ∙ ap (min e) eu in
      let z : g.0 ≡ q + (begins a r - a) = eg ∙ ap (λ k. q + (k - a)) x in (
        omega arith,
        λ j. record { object = o; start = record { 0 = z j }; length = y j - x j; offset = r.offset + (x j - es j); backing = r.backing },
      )

  -- they do not meet: the book has no part
  pub moved_none : ends e r ≤ begins a r → map (moved a o q) (part a e (range_of r)) ≡ []
  moved_none h = ap (map (moved a o q)) (part_none a e (range_of r) h)

  module _ (h : begins a r < ends e r) where
    -- they do: it is the book's part
    pub moved_one : map (moved a o q) (part a e (range_of r)) ≡ range_of (moved_range a e o q r) ∷ []
    moved_one =
        let g : ℕ → List Range =
        λ k. record { object = o; start = k; len = ends e r - begins a r; offset = r.offset + (begins a r - from (ranged r)); backing = number_of r.backing } ∷ [] in
        let z : q + (line r.object (r.start.0 + (begins a r - from (ranged r))) - a) ≡ q + (begins a r - a) = omega arith in
        ap (map (moved a o q)) (part_some a e (range_of r) h) ∙ ap g z

    -- which is one range
    pub one_part : length (part a e (range_of r)) ≡ 1
    one_part = ap length (part_some a e (range_of r) h)

    -- it stays within the object, and its indexes are the range's
    pub moved_small : Small r → q + (e - a) ≤ 262144 → Small (moved_range a e o q r)
    moved_small S l = record { ends = omega arith; indexes = omega (arith, S.indexes) }

    -- of a `Single` range it is the whole
    pub moved_kind : (n : ℕ) (ps : List Place) (k : BackingPages) → Kind n ps r k → Kind n ps (moved_range a e o q r) k
    moved_kind n ps Nothing K = K
    moved_kind n ps (Single b) K = (K.0, omega (arith, K.1), omega (arith, K.1, K.2), K.3)
    moved_kind n ps (Many b) K = (K.0, omega (arith, K.1))
