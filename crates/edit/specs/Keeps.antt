-- A table stays a table when a range is put over its span, or pages are cut out.
use Rattle.std.specs.Prelude.{◌≡◌, refl, ℕ, zero, suc, ◌+◌, ◌-◌, ◌≤◌, ◌<◌, get_or, take, replicate}
use Rattle.std.proofs.Common.{ap, ◌∙◌, ⊎_elim, arith, length-append, take_at}
use mathlib.Core.List.Memᴰ
use mathlib.Core.List.{List, [], ◌∷◌, ◌++◌, map, Memᴰ}
use Rattle.std.proofs.Math.ListN.{length, get_or-map, get_or-append}
use Rattle.std.proofs.lemmas.List.{length-map, length-replicate}
use Rattle.ranges.specs.Range.{Ranged, carve, put, Rising}
use Rattle.ranges.specs.Cut.{carve_rising}
use Rattle.ranges.specs.Piece.{Piece}
use Rattle.ranges.specs.Over.{put_rising}
use Rattle.ranges.proofs.Over.{put_all_lem, carve_all}
use Rattle.ranges.specs.Few.{put_more}
use Rattle.table.specs.declared.PageRange.{PageRange}
use Rattle.table.specs.declared.BackingPages.{BackingPages}
use Rattle.table.specs.Table.{Table, Small, ranged, unranged, ranged_of, zero_range}
use Rattle.table.specs.Searching.{used_length, used_at}
use Rattle.edit.specs.declared.RangeTable.{RangeTable}
use Rattle.edit.specs.Edit.{padded, put_table, cut_table}

-- the numbers of a range are small
abbrev Tiny : Ranged BackingPages → Type 0
Tiny r = (r.start + r.len ≤ 262144) × (r.offset + r.len ≤ 1048576)

tiny_piece : (q r : Ranged BackingPages) → Piece q r → Tiny r → Tiny q
tiny_piece q r P h = (omega (arith, h.0, P.last), omega (arith, h.1, P.shift, P.last))

back_there : (X : List (Ranged BackingPages)) → ranged_of (map unranged X) ≡ X
unfolding ranged_of
back_there [] = refl
back_there (r ∷ X) = ap (λ k. r ∷ k) (back_there X)

mem_at : (X : List (Ranged BackingPages)) (i : ℕ) → i < length X → Memᴰ (get_or X i (ranged zero_range)) X
mem_at [] i h = absurd (omega arith)
mem_at (r ∷ X) zero h = Memᴰ.head refl
mem_at (r ∷ X) (suc i) h = Memᴰ.tail (mem_at X i (omega arith))

-- a list of ranges that rise and are small, as a table
tabled_table : (X : List (Ranged BackingPages)) → length X ≤ 512 → Rising 0 X → ((r : Ranged BackingPages) → Memᴰ r X → Tiny r) → Table (padded (map unranged X)) (length X)
unfolding padded
tabled_table X h s t =
    let l : length (map unranged X) ≡ length X = length-map X unranged in
    record {
      full = simp (length-append, length-replicate) (omega (arith, l));
      few = h;
      small = λ i k.
          let e : get_or (map unranged X ++ replicate (512 - length (map unranged X)) zero_range) i zero_range ≡ unranged (get_or X i (ranged zero_range)) =
          get_or-append (map unranged X) (replicate (512 - length (map unranged X)) zero_range) zero_range i (omega (arith, l)) ∙ get_or-map unranged X i (ranged zero_range) in
          let m = t (get_or X i (ranged zero_range)) (mem_at X i k) in
          rw e (record { ends = m.0; indexes = m.1 });
      rising = rw (take_at (map unranged X) (replicate (512 - length (map unranged X)) zero_range) (length X) l, back_there X) s;
    }

module _ (R : List PageRange) (count : ℕ) (T : Table R count) where
  abbrev used : List (Ranged BackingPages)
  used = ranged_of (take count R)

  at_mem : (l : List (Ranged BackingPages)) → ((i : ℕ) → i < length l → Tiny (get_or l i (ranged zero_range))) → (r : Ranged BackingPages) → Memᴰ r l → Tiny r
  at_mem [] h r m = absurd (Memᴰ.not-nil m)
  at_mem (x ∷ l) h r m = ⊎_elim (λ e. rw e (h 0 (omega arith))) (λ k. at_mem l (λ i j. h (suc i) (omega arith)) r k) (Memᴰ.cases_cons m)

  tiny : (r : Ranged BackingPages) → Memᴰ r used → Tiny r
  tiny = at_mem used (λ i h.
      let k : i < count = omega (arith, used_length R count T) in
      let s = T.small i k in
      rw (used_at R count T i k) (s.ends, s.indexes))

  pub put_keeps : (n : PageRange) → Small n → 0 < n.length → count + 2 ≤ 512 → (r : RangeTable) → r ≡ put_table R count n → (Table r.ranges r.count) × (r.count ≤ count + 2)
  unfolding put_table
  put_keeps n s h f r e =
      let m : length (put (ranged n) used) ≤ length used + 2 = put_more (ranged n) used T.rising in
      let l : length (put (ranged n) used) ≤ count + 2 = omega (arith, used_length R count T) in
      rw e (
        tabled_table (put (ranged n) used) (omega arith) (put_rising (ranged n) used h T.rising) (put_all_lem tiny_piece (ranged n) used (s.ends, s.indexes) tiny),
        l,
      )

  pub cut_keeps : (a e : ℕ) → a < e → length (carve a e used) ≤ 512 → (r : RangeTable) → r ≡ cut_table R count a e → Table r.ranges r.count
  unfolding cut_table
  cut_keeps a e h room r q =
      rw q (tabled_table (carve a e used) room (carve_rising a e 0 used (omega arith) T.rising) (carve_all tiny_piece a e used tiny))
