-- The table of a store edited: what the steps make of it.
use Rattle.std.specs.Prelude.{◌≡◌, List, [], ◌∷◌, ◌++◌, ℕ, ◌+◌, ◌-◌, ◌≤◌, min, length, drop, replicate, Option, Some, None}
use Rattle.std.proofs.Common.{refl, ap, ap₂, sym, ◌∙◌, arith, take-add, take-append-drop}
use Rattle.std.proofs.Math.Seq.{paste}
use Rattle.std.proofs.lemmas.Slice.{put_mid-paste}
use borrow.Rule.Slice.PartMut.{put_mid}
use Rattle.std.proofs.lemmas.List.{length-replicate}
use Rattle.lists.specs.Test.{by-lt}
use Rattle.lists.specs.Every.{All}
use Rattle.lists.specs.Part.{paste_none}
use Rattle.table.specs.declared.PageRange.{PageRange}
use Rattle.table.specs.Table.{Table, zero_range}
use Rattle.edit.specs.declared.RangeTable.{RangeTable}
use Rattle.edit.specs.Edit.{put_table, cut_table}
use Rattle.store.specs.declared.Store.{Store}
use Rattle.store.specs.Abs.{table_of}
use Rattle.store.specs.With.{with_count, with_ranges}
use Rattle.range_table.specs.Shift.{Opened, laid, open_down, open_up}

-- a store with another table
abbrev pub with_table : RangeTable → Store → Store
with_table t s = record { frames = s.frames; live = s.live; count = t.count; ranges = t.ranges; places = s.places; free = s.free }

-- "unused slots are zero"
abbrev pub Blank : Store → Type 0
Blank s = All (λ r. r ≡ zero_range) (drop s.count s.ranges)

-- a range put over its span, and pages cut out: what becomes of the store
pub record PutIs (n : PageRange) (s t : Store) : Type 0 where
  pub same : t ≡ with_table (put_table s.ranges s.count n) s
  pub table : Table t.ranges t.count
  pub few : t.count ≤ s.count + 2
  pub blank : Blank t

pub record CutIs (a e : ℕ) (s t : Store) : Type 0 where
  pub same : t ≡ with_table (cut_table s.ranges s.count a e) s
  pub table : Table t.ranges t.count
  pub blank : Blank t

-- ---- the steps

-- the rows from `from` on moved to `to`
pub record Shifted (s : Store) (from to : ℕ) (t : Store) : Type 0 where
  pub full : length s.ranges ≡ 512
  pub same : t ≡ with_table (table_of t) s
  pub count : t.count ≡ s.count + to - from
  pub rows : Opened s.ranges s.count from to t.ranges

-- a part of a range, as rows
abbrev pub rows_of : Option PageRange → List PageRange
rows_of None = []
rows_of (Some r) = r ∷ []

-- what is written for three parts
abbrev pub made_of : List PageRange → List PageRange → List PageRange → List PageRange
made_of b m a = b ++ (m ++ a)

abbrev pub parts_made : Option PageRange → Option PageRange → Option PageRange → List PageRange
parts_made before middle after = made_of (rows_of before) (rows_of middle) (rows_of after)

-- a list of rows laid over the table from `at` on
abbrev pub with_rows : ℕ → List PageRange → Store → Store
with_rows at l s = with_ranges (laid s.ranges at l) s

-- n rows from `from` on written from `to` on; n rows from `at` on set to zero
abbrev pub with_moved : ℕ → ℕ → ℕ → Store → Store
with_moved to from n s = with_ranges (paste s.ranges to (drop from s.ranges) n) s

abbrev pub with_zeros : ℕ → ℕ → Store → Store
with_zeros at n s = with_ranges (paste s.ranges at (replicate n zero_range) n) s

-- rows that are written where they stand
pub moved_none : (s : Store) (to from n : ℕ) → from ≡ to → s ≡ with_moved to from n s
moved_none s to from n e =
    ap (λ l. with_ranges l s)
    (sym (take-append-drop (from + n) s.ranges) ∙ ap (λ x. x ++ drop (from + n) s.ranges) (take-add from n s.ranges) ∙ ap (λ j. paste s.ranges j (drop from s.ranges) n) e)

-- ---- the rows behind a place
module _ (s : Store) (full : length s.ranges ≡ 512) (from to : ℕ) (few : s.count ≤ 512) (inside : from ≤ s.count) (room : s.count + to ≤ 512 + from)
    (blank : Blank s) where
  abbrev behind : ℕ
  behind = to + (s.count - from)

  -- up, or not at all; and down
  opened : (n : ℕ) (Q : List PageRange) → n ≡ s.count - behind → Q ≡ paste (paste s.ranges to (drop from s.ranges) (s.count - from)) (min behind s.count) (replicate n zero_range) n
      → Opened s.ranges s.count from to Q
  opened n Q en eq =
      by-lt to from
      (λ h.
      let m : min behind s.count ≡ behind = omega arith in
      let k : n ≡ from - to = omega arith in
      open_down s.ranges s.count from to full few inside blank h zero_range refl (paste s.ranges to (drop from s.ranges) (s.count - from)) Q refl
      (eq ∙ ap₂ (λ a b. paste (paste s.ranges to (drop from s.ranges) (s.count - from)) a (replicate b zero_range) b) m k))
      (λ h.
      let k : n ≡ 0 = omega arith in
      rw (eq ∙ sym (paste_none (paste s.ranges to (drop from s.ranges) (s.count - from)) (min behind s.count) (replicate n zero_range) n k))
      (open_up s.ranges s.count from to full few inside blank h (omega arith)))

  -- the rows moved, and those from number m on set to zero that are then behind the last
  pub shifted : (u : Store) (m : ℕ) (z : List PageRange) → u ≡ with_moved to from (s.count - from) s → m ≡ min behind s.count
      → z ≡ replicate (s.count - m) zero_range → Shifted s from to (with_count behind (with_ranges (put_mid m (s.count - m) u.ranges z) u))
  shifted u m z eu em ez =
      let n : ℕ = s.count - m in
      let en : n ≡ s.count - behind = omega arith in
      let k : put_mid m n u.ranges z ≡ paste (paste s.ranges to (drop from s.ranges) (s.count - from)) (min behind s.count) (replicate n zero_range) n =
      put_mid-paste m n u.ranges z (replicate n zero_range) n ez refl (sym (length-replicate n zero_range))
      ∙ ap₂ (λ (q : Store) j. paste q.ranges j (replicate n zero_range) n) eu em in
      record {
        full = full;
        same = ap (λ (q : Store). with_count behind (with_ranges (put_mid m n u.ranges z) q)) eu;
        count = omega arith;
        rows = opened n (put_mid m n u.ranges z) en k;
      }
