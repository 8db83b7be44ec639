-- The parts of a range, from what the code has computed.
use Rattle.std.specs.Prelude.{◌≡◌, [], ◌∷◌, ℕ, ◌-◌, ◌<◌, min}
use Rattle.std.proofs.Common.{sym}
use Rattle.ranges.specs.Range.{from, upto, skip, front, back}
use Rattle.ranges.specs.Cut.{front_some, back_some}
use Rattle.table.specs.declared.PageRange.{PageRange}
use Rattle.table.specs.Table.{ranged}

-- the part before a page, and the part from a page on
pub front_part : (a n : ℕ) (r q : PageRange) → from (ranged r) < a → n ≡ min r.length (a - from (ranged r))
    → q ≡ record { object = r.object; start = r.start; length = n; offset = r.offset; backing = r.backing } → ranged q ∷ [] ≡ front a (ranged r)
front_part a n r q l e h = rw (h, e) (sym (front_some a (ranged r) l))

pub back_part : (e k : ℕ) (r q : PageRange) → e < upto (ranged r) → k ≡ e - from (ranged r) → ranged q ≡ skip k (ranged r) → ranged q ∷ [] ≡ back e (ranged r)
back_part e k r q u ek h = rw (h, ek) (sym (back_some e (ranged r) u))
