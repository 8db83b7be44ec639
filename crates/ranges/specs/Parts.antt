-- What the law of whole pages speaks of: ranges put in one after another, a range's part in a span, the source page of a page. The law itself is in
-- proofs/Parts.antt.
use Rattle.std.specs.Prelude.{◌≡◌, Option, Some, None}
use Rattle.std.proofs.Common.{lt-ltb, le-ltb}
use mathlib.Core.List.{List, [], ◌∷◌}
use Prim.Native.Nat.{ℕ, ◌+◌, ◌-◌, ◌≤◌, ◌<◌, min, max}
use Rattle.ranges.specs.Range.{Range, Slot, line, from, upto, keep, skip, put}
use Rattle.ranges.specs.Table.{part}

-- the table after ranges are put in one after another
unfoldable pub put_all : List Range → List Range → List Range
put_all [] rs = rs
put_all (n ∷ ns) rs = put_all ns (put n rs)

abbrev pub or_else : Option Slot → Option Slot → Option Slot
or_else None t = t
or_else (Some s) t = Some s

pub part_some : (a e : ℕ) (r : Range) → max a (from r) < min e (upto r)
    → part a e r ≡ keep (min e (upto r) - max a (from r)) (skip (max a (from r) - from r) r) ∷ []
unfolding part
part_some a e r h = rw (lt-ltb (max a (from r)) (min e (upto r)) h)

pub part_none : (a e : ℕ) (r : Range) → min e (upto r) ≤ max a (from r) → part a e r ≡ []
unfolding part
part_none a e r h = rw (le-ltb (max a (from r)) (min e (upto r)) h)

-- the pages of r from b up to t, as a range
abbrev pub slice : ℕ → ℕ → Range → Range
slice b t r = keep (t - b) (skip (b - from r) r)

-- the source page of the destination's page g
abbrev pub source : ℕ → ℕ → ℕ → ℕ → ℕ
source a o q g = a + (g - line o q)
