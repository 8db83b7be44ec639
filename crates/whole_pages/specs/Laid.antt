-- PARTS LAID INTO A TABLE THAT WAS OPENED ONCE: the rows behind a place are moved up by as many rows as there are parts, and the parts are written there. The
-- table is then the one in which they were put in one after another.
use Rattle.std.specs.Prelude.{◌≡◌, refl, List, ℕ, zero, suc, ◌+◌, ◌-◌, ◌*◌, ◌≤◌, ◌<◌, length, map, take, drop, get_or, ◌++◌, Option, Some, None}
use Rattle.std.proofs.Common.{ap, ap₂, sym, ◌∙◌, le_refl, arith, length-drop, length-take-le, get_or-take, get_or-drop, append-nil, take_all, drop_of_length-le, ext_get_or}
use Rattle.std.proofs.Math.ListN.{length-map}
use Rattle.std.specs.Option.{unwrap_or}
use Rattle.std.proofs.Math.Seq.{paste, length-paste}
use Rattle.std.proofs.lemmas.List.{length-take, get_or-map}
use Rattle.lists.specs.Paste.{paste_below, paste_above}
use Rattle.table.specs.declared.PageRange.{PageRange}
use Rattle.table.specs.declared.BackingPages.{BackingPages}
use Rattle.store.specs.declared.Store.{Store}
use Rattle.lists.specs.Test.{by-lt}
use Rattle.lists.specs.Mapped.{mapped}
use Rattle.ranges.specs.Range.{Ranged, line, from, upto}
use Rattle.ranges.specs.Search.{starts_before, ends_by, ends_in, ends_out, starts_in, rising_full}
use Rattle.table.specs.Table.{Table, Small, ranged, ranged_of, zero_range}
use Rattle.table.specs.Searching.{used_at, used_length}
use Rattle.edit.specs.Edits.{met_order}
use Rattle.book.specs.Pages.{met, sharing}
use Rattle.store.specs.Abs.{used, table_of}
use Rattle.store.specs.Spare.{work_of}
use Rattle.store.specs.With.{with_ranges}
use Rattle.range_table.specs.Edit.{Blank, Shifted, with_table}
use Rattle.range_table.specs.Shift.{blank_from, paste_in}
use Rattle.pages.specs.Inside.{Inside, inside_table}
use Rattle.pages.specs.Any.{zeros}
use Rattle.shares.specs.Moved.{begins, ends, IsMoved, moved_range}
use Rattle.shares.specs.Reranged.{Reranged}
use Rattle.shares.specs.Sharing.{sharing_inside}
use Rattle.shares.specs.Filling.{Filled, filled_start, filled_turn, made, piece, row}
use Rattle.whole_pages.specs.Spread.{sharing_begun, sharing_last}

-- ranges that are met: each has pages from a up to e of the line
abbrev pub AllMet : ℕ → ℕ → List PageRange → Type 0
AllMet a e rs = (i : ℕ) → i < length rs → Small (get_or rs i zero_range) × (begins a (get_or rs i zero_range) < ends e (get_or rs i zero_range))

-- a range that is met is turned into its part
pub moved_or : (a e o q : ℕ) (r : PageRange) → begins a r < ends e r → (x : Option PageRange) → IsMoved a e o q r x → unwrap_or x r ≡ moved_range a e o q r
moved_or a e o q r h None m = absurd (omega (arith, m))
moved_or a e o q r h (Some y) m = m.1

-- all of them are turned
pub turned_all : (g : PageRange → PageRange) (rs : List PageRange) (i : ℕ) → length rs ≤ i → mapped g rs i ≡ map g rs
unfolding mapped
turned_all g rs i h = ap₂ (λ x y. map g x ++ y) (take_all i rs h) (drop_of_length-le rs h) ∙ append-nil (map g rs)

-- rows written from slot c on
abbrev pub with_parts : ℕ → List PageRange → Store → Store
with_parts c rs s = with_ranges (paste s.ranges c rs (length rs)) s

-- ---- the table of s opened by k rows from row c on, and the first i parts, of the ranges from slot f on, laid there
pub record Opening (s : Store) (a e o q c f k i : ℕ) (u : Store) : Type 0 where
  pub same : u ≡ with_table (table_of u) s
  pub full : length u.ranges ≡ 512
  pub count : u.count ≡ s.count + k
  pub low : (j : ℕ) → j < c → row u j ≡ row s j
  pub laid : (m : ℕ) → m < i → row u (c + m) ≡ piece s a e o q c f m
  pub high : (j : ℕ) → row u (c + k + j) ≡ row s (c + j)

module _ (s : Store) (a e o q c f k : ℕ) where
  -- none is laid yet
  pub opening_start : (u : Store) → Blank s → Shifted s c (c + k) u → Opening s a e o q c f k 0 u
  opening_start u B S = record {
    same = S.same;
    full = S.rows.full;
    count = S.count ∙ omega arith;
    low = λ j l. S.rows.below j l (omega arith);
    laid = λ m l. absurd (omega arith);
    high = λ j. by-lt (c + j) s.count (λ l. S.rows.moved j l) (λ l. S.rows.rest j l ∙ sym (blank_from s.ranges s.count (c + j) B l));
  }

  module _ (i : ℕ) (u : Store) (O : Opening s a e o q c f k i u) where
    -- where a row of s stands
    pub opening_row : (j x : ℕ) → (j < c → x ≡ j) → (c ≤ j → x ≡ j + (c + k - c)) → row u x ≡ row s j
    opening_row j x g h =
        by-lt j c
        (λ l. ap (row u) (g l) ∙ O.low j l)
        (λ l.
        let z : j + (c + k - c) ≡ c + k + (j - c) = omega arith in
        let y : c + (j - c) ≡ j = omega arith in
        ap (row u) (h l ∙ z) ∙ O.high (j - c) ∙ ap (row s) y)

  -- the rows met stand from slot g on: f where they stay, f + k where they have moved up
  module _ (g : ℕ) (stay : f < c → g ≡ f) (rise : c ≤ f → g ≡ f + (c + k - c)) (side : f < c → f + k ≤ c) where
    opening_met : (u : Store) → Opening s a e o q c f k 0 u → (m : ℕ) → m < k → row u (g + m) ≡ row s (f + m)
    opening_met u O m l =
        opening_row 0 u O (f + m) (g + m)
        (λ h. omega (arith, stay (omega arith)))
        (λ h. by-lt f c (λ b. absurd (omega (arith, side b))) (λ b. omega (arith, rise b)))

    -- as rows that are copied
    pub opening_copied : (u : Store) → Opening s a e o q c f k 0 u → (m : ℕ) → m < k → get_or (take k (drop g u.ranges)) m zero_range ≡ row s (f + m)
    opening_copied u O m l = get_or-take k (drop g u.ranges) m zero_range l ∙ get_or-drop g u.ranges m zero_range ∙ opening_met u O m l

    -- they are copied to slot c, and each is turned into its part
    pub opening_laid : (u : Store) → Opening s a e o q c f k 0 u → c + k ≤ 512 → g + k ≤ 512
        → (v : Store) → v ≡ with_parts c (map (moved_range a e o q) (take k (drop g u.ranges))) u → Opening s a e o q c f k k v
    opening_laid u O b d v h =
        let R : List PageRange = take k (drop g u.ranges) in
        let M : List PageRange = map (moved_range a e o q) R in
        let n : length R ≡ k = length-take-le k (drop g u.ranges) (simp length-drop (omega (arith, O.full))) in
        let m : length M ≡ k = length-map R (moved_range a e o q) ∙ n in
        let room : c + length M ≤ length u.ranges = omega (arith, O.full) in
        rw h (record {
          same = ap (λ (w : Store). with_ranges (paste u.ranges c M (length M)) w) O.same;
          full = length-paste u.ranges c M (length M) room (le_refl (length M)) ∙ O.full;
          count = O.count;
          low = λ j l. paste_below u.ranges c M (length M) j zero_range (omega arith) (le_refl (length M)) l ∙ O.low j l;
          laid = λ i l.
              paste_in u.ranges c M (length M) i zero_range (omega arith) (le_refl (length M)) (omega arith)
              ∙ get_or-map (moved_range a e o q) R i zero_range zero_range (omega arith)
              ∙ ap (moved_range a e o q) (opening_copied u O i l);
          high = λ j.
              paste_above u.ranges c M (length M) (c + k + j) zero_range (omega arith) (le_refl (length M)) (omega arith) ∙ O.high j;
        })

  -- ALL ARE LAID: the store is the one in which the parts were put in one after another
  pub opening_end : (u : Store) → Opening s a e o q c f k k u → Inside s (zeros s) → Inside (made s a e o q c f k) (zeros (made s a e o q c f k)) → Filled s a e o q c f k
      → u ≡ made s a e o q c f k
  opening_end u O I J D =
      let t : Store = made s a e o q c f k in
      let R = D.risen in
      let n : u.count ≡ (made s a e o q c f k).count = omega (arith, O.count, R.count) in
      let g : u.ranges ≡ (made s a e o q c f k).ranges = ext_get_or zero_range u.ranges (made s a e o q c f k).ranges (O.full ∙ sym J.sized.ranges) (λ j l. each j) in
      O.same
      ∙ ap₂ (λ (m : ℕ) (rs : List PageRange). with_table (record { ranges = rs; count = m }) s) n g
      ∙ sym D.same
    where
      each : (j : ℕ) → row u j ≡ row (made s a e o q c f k) j
      each j =
          by-lt j c
          (λ l. O.low j l ∙ sym (D.risen.low j l))
          (λ l. by-lt j (c + k)
          (λ m.
          let z : c + (j - c) ≡ j = omega arith in
          ap (row u) (sym z) ∙ O.laid (j - c) (omega arith) ∙ sym (D.laid (j - c) (omega arith)) ∙ ap (row (made s a e o q c f k)) z)
          (λ m.
          let i : ℕ = j - (c + k) in
          let z : c + k + i ≡ j = omega arith in
          ap (row u) (sym z) ∙ O.high i ∙ by-lt (c + i) s.count
          (λ b.
          let y : c + i + (c + k - c) ≡ j = omega arith in
          sym (D.risen.high (c + i) (omega arith) b) ∙ ap (row (made s a e o q c f k)) y)
          (λ b.
          blank_from s.ranges s.count (c + i) I.rest_ranges b
          ∙ sym (blank_from (made s a e o q c f k).ranges (made s a e o q c f k).count j J.rest_ranges (omega (arith, D.risen.count))))))

-- ---- n whole pages from page p of object src on, which is page a of the line, where no range has the destination: the ranges met stand from slot f up to l
module _ (s : Store) (src p o q n a : ℕ) (ea : a ≡ line src p) (I : Inside s (zeros s)) (room : s.count + 2 * met src p n (work_of s (zeros s)) ≤ 512)
    (ne : src ≡ o → ⊥) (pn : p + n ≤ 262144) (qn : q + n ≤ 262144) (some : 0 < n) (c f l : ℕ) (ef : f ≡ ends_by a (ranged_of (used s)))
    (el : l ≡ starts_before (a + n) (ranged_of (used s))) (ec : c ≡ ends_by (line o q) (ranged_of (used s))) (free : starts_before (line o q + n) (ranged_of (used s)) ≤ c) where
  T : Table s.ranges s.count
  T = inside_table s (zeros s) I

  pub span_order : (f ≤ l) × (l ≤ s.count)
  span_order = met_order s.ranges s.count T a (a + n) f l (omega arith) ef el

  -- each of them is met
  pub span_met : (i : ℕ) → f ≤ i → i < l → begins a (row s i) < ends (a + n) (row s i)
  span_met i g h =
      let m = used_length s.ranges s.count T in
      let b : i < s.count = omega (arith, span_order.1) in
      let u = used_at s.ranges s.count T i b in
      omega (
        arith,
        ends_out (ranged zero_range) a 0 i (ranged_of (used s)) T.rising (omega arith) (omega arith),
        starts_in (ranged zero_range) (a + n) i (ranged_of (used s)) (omega arith),
        rising_full (ranged zero_range) 0 i (ranged_of (used s)) T.rising (omega arith),
        ap (λ (r : Ranged BackingPages). upto r) u,
        ap (λ (r : Ranged BackingPages). from r) u,
        ap (λ (r : Ranged BackingPages). r.len) u,
      )

  -- the parts can be put in one after another
  span_filled : (i : ℕ) → f + i ≤ l → Filled s a (a + n) o q c f i
  span_filled zero h = filled_start s a (a + n) o q c f I n refl (sharing_begun s src p o q n a ea I room f ef) ec free
  span_filled (suc i) h =
      filled_turn s a (a + n) o q c f I src p n ea refl pn ne (omega arith) i (omega (arith, span_order.1)) (span_met (f + i) (omega arith) (omega arith)) (span_filled i (omega arith))

  module _ (k : ℕ) (ek : k ≡ l - f) where
    filled : Filled s a (a + n) o q c f k
    filled = span_filled k (omega (arith, span_order.0))

    whole : Inside (made s a (a + n) o q c f k) (zeros (made s a (a + n) o q c f k))
    whole = sharing_inside s a (a + n) o q I (f + k) (made s a (a + n) o q c f k) filled.sharing

    -- there is room for them
    pub span_room : (c ≤ s.count) × (s.count + k ≤ 512)
    span_room = (filled.risen.within, omega (arith, filled.risen.count, whole.few_ranges))

    -- they stand on one side of the place, since the source is another object
    span_side : f < c → f + k ≤ c
    span_side h =
        by-lt c l
        (λ b.
        let m = used_length s.ranges s.count T in
        let at : ℕ → PageRange = λ j. row s j in
        let x = used_at s.ranges s.count T c (omega (arith, span_order)) in
        let y = used_at s.ranges s.count T f (omega (arith, span_order)) in
        absurd (
        by-lt src o
        (λ d. omega (
          arith,
          ends_out (ranged zero_range) (line o q) 0 c (ranged_of (used s)) T.rising (omega arith) (omega (arith, span_order)),
          starts_in (ranged zero_range) (a + n) c (ranged_of (used s)) (omega arith),
          ap (λ (r : Ranged BackingPages). upto r) x,
          ap (λ (r : Ranged BackingPages). from r) x,
          (T.small c (omega (arith, span_order))).ends,
        ))
        (λ d. omega (
          arith,
          ends_in (ranged zero_range) (line o q) f (ranged_of (used s)) (omega arith),
          ends_out (ranged zero_range) a 0 f (ranged_of (used s)) T.rising (omega arith) (omega (arith, span_order)),
          ap (λ (r : Ranged BackingPages). upto r) y,
          by-lt o src (λ w. w) (λ w. absurd (ne (omega arith))),
        ))))
        (λ b. omega (arith, span_order))

    module _ (u : Store) (S : Shifted s c (c + k) u) (g : ℕ) (stay : f < c → g ≡ f) (rise : c ≤ f → g ≡ f + (c + k - c)) where
      O : Opening s a (a + n) o q c f k 0 u
      O = opening_start s a (a + n) o q c f k u I.rest_ranges S

      pub span_long : (length u.ranges ≡ 512) × (c + k ≤ 512) × (g + k ≤ 512)
      span_long = (
        O.full,
        omega (arith, span_room),
        by-lt f c
            (λ b. omega (arith, stay b, span_order, I.few_ranges))
            (λ b. omega (arith, rise b, span_order, span_room)),
      )

      -- those that are copied are met
      pub span_copied : AllMet a (a + n) (take k (drop g u.ranges))
      span_copied i h =
          let b : i < k = omega (arith, length-take k (drop g u.ranges)) in
          let e = opening_copied s a (a + n) o q c f k g stay rise span_side u O i b in
          rw e (T.small (f + i) (omega (arith, span_order)), span_met (f + i) (omega arith) (omega (arith, span_order)))

      -- all are laid, and so the pages are shared
      pub span_shared : (v : Store) → v ≡ with_parts c (map (moved_range a (a + n) o q) (take k (drop g u.ranges))) u → (x : List ℕ) → Inside s x → Reranged s x (sharing src p o q n (work_of s x)) (line o q) v
      span_shared v h =
          let W = opening_laid s a (a + n) o q c f k g stay rise span_side u O span_long.1 span_long.2 v h in
          rw (opening_end s a (a + n) o q c f k v W I whole filled)
          (sharing_last s src p o q n a ea I room (f + k) l el (omega (arith, span_order.0)) (made s a (a + n) o q c f k) (omega (arith, span_order)) filled.sharing)
