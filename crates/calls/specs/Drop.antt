-- What is left of a store once an object is dropped.
use Rattle.std.specs.Prelude.{◌≡◌, ℕ, ◌+◌, ◌-◌, ◌*◌, ◌%◌, ◌^◌, ◌≤◌, length, take}
use Rattle.std.proofs.Common.{ap, sym, subst, ◌∙◌, arith}
use Rattle.std.specs.Int.Bits.{bit_and}
use Rattle.store.specs.declared.Store.{Store}
use Rattle.ranges.specs.Range.{line}
use Rattle.places.specs.Places.{FreeMap}
use Rattle.table.specs.Table.{ranges_of}
use Rattle.edit.specs.declared.RangeTable.{RangeTable}
use Rattle.edit.specs.Edit.{cut_table}
use Rattle.store.specs.Abs.{used, table_of}
use Rattle.store.specs.Edits.{trimmed}
use Rattle.store.specs.With.{with_free, with_live, with_places}
use Rattle.range_table.specs.Edit.{CutIs}

-- "its ranges go, entries in no window go, frames become free"
pub record Dropped (s : Store) (o : ℕ) (t : Store) : Type 0 where
  pub frames : t.frames ≡ s.frames
  pub live : t.live ≡ bit_and s.live (2 ^ 32 - 1 - 1 * 2 ^ o % 2 ^ 32)
  pub table : table_of t ≡ cut_table s.ranges s.count (line o 0) (line o 0 + 262144)
  pub few : t.count ≤ 512
  pub full : length t.ranges ≡ 512
  pub places : t.places ≡ trimmed s.frames (ranges_of (used t)) s.places
  pub bits : FreeMap s.frames t.places t.free

-- the steps: the table cut, the places trimmed, the name taken, the free map made anew
module _ (s t u v r : Store) (o n : ℕ) (C : CutIs (line o 0) (line o 0 + 262144) s t) (trim : u ≡ with_places (trimmed t.frames (ranges_of (used t)) t.places) t)
    (name : v ≡ with_live n u) (made : r ≡ with_free r.free v) where
  same_table : table_of r ≡ table_of t
  same_table = ap table_of made ∙ ap table_of name ∙ ap table_of trim

  same_frames : v.frames ≡ s.frames
  same_frames = ap (λ (q : Store). q.frames) name ∙ ap (λ (q : Store). q.frames) trim ∙ ap (λ (q : Store). q.frames) C.same

  same_places : r.places ≡ v.places
  same_places = ap (λ (q : Store). q.places) made

  pub dropped : n ≡ bit_and u.live (2 ^ 32 - 1 - 1 * 2 ^ o % 2 ^ 32) → FreeMap v.frames v.places r.free → Dropped s o r
  dropped e F = record {
    frames = ap (λ (q : Store). q.frames) made ∙ same_frames;
    live = ap (λ (q : Store). q.live) made ∙ ap (λ (q : Store). q.live) name ∙ e
        ∙ ap (λ (q : Store). bit_and q.live (2 ^ 32 - 1 - 1 * 2 ^ o % 2 ^ 32)) trim
        ∙ ap (λ (q : Store). bit_and q.live (2 ^ 32 - 1 - 1 * 2 ^ o % 2 ^ 32)) C.same;
    table = same_table ∙ ap table_of C.same;
    few = let m = ap (λ (q : RangeTable). q.count) same_table in omega (arith, C.table.few);
    full = ap (λ (q : RangeTable). length q.ranges) same_table ∙ C.table.full;
    places = same_places ∙ ap (λ (q : Store). q.places) name ∙ ap (λ (q : Store). q.places) trim
        ∙ ap (λ (q : Store). trimmed q.frames (ranges_of (used t)) q.places) C.same
        ∙ ap (λ (q : RangeTable). trimmed s.frames (ranges_of (take q.count q.ranges)) s.places) (sym same_table);
    bits = subst (λ (k : ℕ). FreeMap k r.places r.free) same_frames (subst (λ l. FreeMap v.frames l r.free) (sym same_places) F);
  }
