-- Where a page of a store is: what `locate` finds.
use Rattle.std.specs.Prelude.{◌≡◌, refl, Bool, true, false, ℕ, ◌+◌, ◌-◌, ltb, take, get_or, Option, Some, None}
use Rattle.std.proofs.Common.{ap, ◌∙◌}
use Rattle.table.specs.declared.PageRange.{PageRange}
use Rattle.store.specs.declared.Store.{Store}
use Rattle.look.specs.declared.Located.{Located}
use Rattle.look.specs.declared.State.{State}
use Rattle.look.specs.declared.State.TheVariants as state
use Rattle.lists.specs.Test.{pick}
use Rattle.ranges.specs.Range.{from}
use Rattle.ranges.specs.Table.{holders}
use Rattle.places.specs.Places.{frame_at}
use Rattle.table.specs.Table.{number_of, ranged, ranged_of, ranges_of, zero_range, covering_at}
use Rattle.store.specs.Abs.{used}

-- "Page p of a range is the vector's entry at offset + (p − start)"
abbrev pub index_in : PageRange → ℕ → ℕ
index_in r g = r.offset + (g - from (ranged r))

abbrev pub in_frame : ℕ → Option ℕ → Option Located
in_frame b None = None
in_frame b (Some f) = Some (record { backing = b; frame = f })

-- in range r
abbrev pub in_range : Store → PageRange → ℕ → Option Located
in_range s r g = in_frame (number_of r.backing) (frame_at (number_of r.backing) (index_in r g) 0 (take s.frames s.places))

abbrev pub in_found : Store → ℕ → Option ℕ → Option Located
in_found s g None = None
in_found s g (Some k) = in_range s (get_or s.ranges k zero_range) g

unfoldable pub located : Store → ℕ → Option Located
located s g = in_found s g (covering_at g (ranged_of (used s)))

-- "A backing held by two or more ranges is shared."
abbrev pub shared_in : Store → ℕ → State
shared_in s b = pick (ltb 1 (holders b (ranges_of (used s)))) state.Shared state.Private

abbrev pub seen : Store → Option Located → State
seen s None = state.Absent
seen s (Some l) = shared_in s l.backing

-- the frame of a page that is present and private
abbrev pub private_in : Store → Option Located → Option ℕ
private_in s None = None
private_in s (Some l) = pick (ltb 1 (holders l.backing (ranges_of (used s)))) None (Some l.frame)

abbrev pub framed : State → ℕ → Option ℕ
framed state.Absent f = None
framed state.Private f = Some f
framed state.Shared f = None

pub private_told : (s : Store) (l : Located) (q : State) → q ≡ shared_in s l.backing → framed q l.frame ≡ private_in s (Some l)
private_told s l q e =
    ap (λ (z : State). framed z l.frame) e ∙ go (ltb 1 (holders l.backing (ranges_of (used s))))
  where
    go : (t : Bool) → framed (pick t state.Shared state.Private) l.frame ≡ pick t None (Some l.frame)
    go true = refl
    go false = refl
