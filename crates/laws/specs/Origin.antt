-- Where the slot of a page comes from, when a range is put over it.
use Rattle.std.specs.Prelude.{◌≡◌, ℕ, ◌≤◌, Some, None}
use mathlib.Core.List.{List, Memᴰ}
use Rattle.ranges.specs.Range.{Range, Slot, from, slot_in, slot_at}
use Rattle.ranges.specs.Table.{holders}

-- of the slot s that the line's page g is at, by the table rs before: the page was there; or it was uncovered, and a range before it that is its backing's
-- one holder was made longer over it; or no range held the slot's backing
pub data Origin (g : ℕ) (rs : List Range) (s : Slot) : Type 0 where
  stayed : slot_at g rs ≡ Some s → Origin g rs s
  joined : (r : Range) → Memᴰ r rs → holders r.backing rs ≡ 1 → from r ≤ g → slot_at g rs ≡ None → s ≡ slot_in g r → Origin g rs s
  begun : holders s.inside rs ≡ 0 → Origin g rs s
