-- A range put over its span and pages cut out, from the two searches, the parts and the rows written.
use Rattle.std.specs.Prelude.{◌≡◌, refl, ℕ, ◌+◌, ◌-◌, ◌*◌, ◌≤◌, ◌<◌, length, Option, Some, None}
use Rattle.std.proofs.Common.{ap, ap₂, ◌∙◌, arith, length-append}
use mathlib.Core.List.{List, [], ◌∷◌, ◌++◌, append_assoc}
use Rattle.ranges.specs.Range.{carve, from, upto, front, back}
use Rattle.ranges.specs.Search.{starts_before, ends_by, ends_few}
use Rattle.table.specs.declared.PageRange.{PageRange}
use Rattle.table.specs.Table.{Table, Small, ranged, ranged_of, zero_range, parts_of}
use Rattle.table.specs.Searching.{used_length}
use Rattle.lists.specs.Test.{by-lt}
use Rattle.edit.specs.declared.RangeTable.{RangeTable}
use Rattle.edit.specs.Edit.{spliced, put_table, cut_table}
use Rattle.edit.specs.Edits.{cut_met, cut_none, cut_room, met_order, put_met, put_none}
use Rattle.edit.specs.Keeps.{cut_keeps, put_keeps}
use Rattle.store.specs.declared.Store.{Store}
use Rattle.store.specs.Abs.{used}
use Rattle.store.specs.Ranges.{cut_rest, put_rest}
use Rattle.store.specs.With.{range_at, with_range, with_ranges}
use Rattle.range_table.specs.Shift.{Opened, laid, laid_more, laid_none, laid_one, spliced_laid}
use Rattle.range_table.specs.Edit.{CutIs, PutIs, Shifted, made_of, parts_made, rows_of, with_rows, with_table}

-- ---- a part as a row
pub lay_none : (s : Store) (at : ℕ) (q : Option PageRange) → q ≡ None → s ≡ with_rows at (rows_of q) s
lay_none s at q e = rw e (ap (λ k. with_ranges k s) (laid_none s.ranges at))

pub lay_fits : (at : ℕ) (q : Option PageRange) (r : PageRange) → q ≡ Some r → at + length (rows_of q) ≤ 512 → at < 512
lay_fits at q r e h = let k : at + 1 ≤ 512 = rw e at h in omega arith

pub lay_one : (s t : Store) (at : ℕ) (q : Option PageRange) (r : PageRange) → length s.ranges ≡ 512 → at < 512 → q ≡ Some r → t ≡ with_range at r s → t ≡ with_rows at (rows_of q) s
lay_one s t at q r l h e f = rw e (f ∙ ap (λ k. with_ranges k s) (laid_one s.ranges at r (omega arith)))

-- ---- parts written where the rows from p up to q were
pub made_length : (b m a : List PageRange) → length (made_of b m a) ≡ length b + length m + length a
made_length b m a = length-append b (m ++ a) ∙ omega (arith, length-append m a)

pub replaced : (s : Store) (p q x y z : ℕ) (b m a : List PageRange) (t u v w : Store) → s.count ≤ 512 → p ≤ q → q ≤ s.count
    → s.count + length (made_of b m a) ≤ 512 + (q - p) → x ≡ length b → y ≡ length m → z ≡ length a → Shifted s q (p + x + y + z) t
    → u ≡ with_rows p b t → v ≡ with_rows (p + x) m u → w ≡ with_rows (p + x + y) a v
    → w ≡ with_table (record { ranges = spliced s.ranges s.count p (q - p) (made_of b m a); count = s.count + length (made_of b m a) - (q - p) }) s
replaced s p q x y z b m a t u v w few pq qc room ex ey ez S eu ev ew =
    let n : ℕ = length (made_of b m a) in
    let ln : n ≡ x + y + z = made_length b m a ∙ omega arith in
    let lm : length (b ++ m) ≡ x + y = length-append b m ∙ omega arith in
    let g : p + x + y + z ≡ p + n = omega arith in
    let f : length t.ranges ≡ 512 = S.rows.full in
    let O : Opened s.ranges s.count q (p + n) t.ranges = rw (← g) S.rows in
    let i : laid (laid t.ranges p b) (p + x) m ≡ laid t.ranges p (b ++ m) = rw ex (laid_more t.ranges p b m (omega arith)) in
    let e : p + length (b ++ m) ≡ p + x + y = omega arith in
    let j : laid (laid t.ranges p (b ++ m)) (p + x + y) a ≡ laid t.ranges p (made_of b m a) =
    rw (← e) (laid_more t.ranges p (b ++ m) a (omega arith)) ∙ ap (λ k. laid t.ranges p k) (append_assoc b m a) in
    let c : t.count ≡ s.count + n - (q - p) = S.count ∙ omega arith in
    ew
    ∙ ap (λ (o : Store). with_rows (p + x + y) a o) (ev ∙ ap (λ (o : Store). with_rows (p + x) m o) eu)
    ∙ ap (λ l. with_ranges l t) (ap (λ l. laid l (p + x + y) a) i ∙ j ∙ spliced_laid s.ranges t.ranges (made_of b m a) s.count p q S.full few pq qc room O)
    ∙ ap (λ (o : Store). with_ranges (spliced s.ranges s.count p (q - p) (made_of b m a)) o) S.same
    ∙ ap (λ k. with_table (record { ranges = spliced s.ranges s.count p (q - p) (made_of b m a); count = k }) s) c

made_ranged : (before : Option PageRange) (n : PageRange) (after : Option PageRange) → ranged_of (parts_made before (Some n) after) ≡ parts_of before ++ (ranged n ∷ parts_of after)
unfolding ranged_of
made_ranged None n None = refl
made_ranged None n (Some y) = refl
made_ranged (Some x) n None = refl
made_ranged (Some x) n (Some y) = refl

both_ranged : (before after : Option PageRange) → ranged_of (parts_made before None after) ≡ parts_of before ++ parts_of after
unfolding ranged_of
both_ranged None None = refl
both_ranged None (Some y) = refl
both_ranged (Some x) None = refl
both_ranged (Some x) (Some y) = refl

-- a part is at most one row
pub one_row : (q : Option PageRange) → length (rows_of q) ≤ 1
one_row None = omega arith
one_row (Some r) = omega arith

-- what a splice makes of a store
abbrev pub spliced_in : Store → ℕ → ℕ → List PageRange → Store
spliced_in s p k new = with_table (record { ranges = spliced s.ranges s.count p k new; count = s.count + length new - k }) s

-- the rows that the pages from a up to e meet, from `first` up to `last`, replaced by what is left of them, with `middle` in between
pub record Spliced (a e : ℕ) (middle : Option PageRange) (s t : Store) : Type 0 where
  pub first : ℕ
  pub last : ℕ
  pub is_first : first ≡ ends_by a (ranged_of (used s))
  pub is_last : last ≡ starts_before e (ranged_of (used s))
  pub before : Option PageRange
  pub after : Option PageRange
  pub is_before : first < last → parts_of before ≡ front a (ranged (range_at s first))
  pub is_after : first < last → parts_of after ≡ back e (ranged (range_at s (last - 1)))
  pub over : first < last → t ≡ spliced_in s first (last - first) (parts_made before middle after)
  pub between : last ≤ first → t ≡ spliced_in s first (first - first) (parts_made None middle None)

-- ---- the rows that the pages from a up to e meet: those from p up to q
module _ (s : Store) (T : Table s.ranges s.count) (a e p q : ℕ) (h : a < e) (ep : p ≡ ends_by a (ranged_of (used s)))
    (eq : q ≡ starts_before e (ranged_of (used s))) where
  pub met_within : (p ≤ q) × (q ≤ s.count) × (s.count ≤ 512)
  met_within = let o = met_order s.ranges s.count T a e p q h ep eq in (o.0, o.1, T.few)

  -- the first of them, and the last
  pub near_small : p < q → Small (range_at s p)
  near_small k = T.small p (omega (arith, met_within))

  pub far_small : p < q → Small (range_at s (q - 1))
  far_small k = T.small (q - 1) (omega (arith, met_within))

module _ (s : Store) (T : Table s.ranges s.count) where
  -- the first rows that end by a page are rows of the table
  pub ends_within : (a p : ℕ) → p ≡ ends_by a (ranged_of (used s)) → p ≤ s.count
  ends_within a p e = omega (arith, ends_few (ranged zero_range) a (ranged_of (used s)), used_length s.ranges s.count T)

  -- ---- a range put over its span
  module _ (n : PageRange) (S : Small n) (h : 0 < n.length) (room : s.count + 2 ≤ 512) (a e p q : ℕ) (ea : a ≡ from (ranged n)) (ee : e ≡ upto (ranged n))
      (ep : p ≡ ends_by a (ranged_of (used s))) (eq : q ≡ starts_before e (ranged_of (used s))) where
    put_made : (t : Store) → t ≡ with_table (put_table s.ranges s.count n) s → PutIs n s t
    put_made t y =
        let k = put_keeps s.ranges s.count T n S h room (put_table s.ranges s.count n) refl in
        record { same = y; table = rw y k.0; few = rw y k.1; blank = rw y (put_rest s.ranges s.count n (put_table s.ranges s.count n) refl) }

    first_met : p ≡ ends_by (from (ranged n)) (ranged_of (used s))
    first_met = ep ∙ ap (λ k. ends_by k (ranged_of (used s))) ea

    last_met : q ≡ starts_before (upto (ranged n)) (ranged_of (used s))
    last_met = eq ∙ ap (λ k. starts_before k (ranged_of (used s))) ee

    pub put_over : (f l : PageRange) (before after : Option PageRange) (t : Store) → p < q → f ≡ range_at s p → l ≡ range_at s (q - 1) → parts_of before ≡ front a (ranged f)
        → parts_of after ≡ back e (ranged l) → t ≡ spliced_in s p (q - p) (parts_made before (Some n) after) → PutIs n s t
    put_over f l before after t k ef el ex ey y =
        put_made t (y ∙ ap (λ (r : RangeTable). with_table r s)
        (put_met s.ranges s.count T n p q h first_met last_met (parts_made before (Some n) after) _ _ _ (parts_of before) (parts_of after) k refl
        (made_ranged before n after) (ex ∙ ap₂ (λ i r. front i (ranged r)) ea ef) (ey ∙ ap₂ (λ i r. back i (ranged r)) ee el) refl refl))

    pub put_between : (t : Store) → q ≤ p → t ≡ spliced_in s p (p - p) (parts_made None (Some n) None) → PutIs n s t
    put_between t k y =
        let z : p - p ≡ 0 = omega arith in
        let x : t ≡ spliced_in s p 0 (n ∷ []) = rw z at y in
        put_made t (x ∙ ap (λ (r : RangeTable). with_table r s)
        (put_none s.ranges s.count T n p q h first_met last_met (n ∷ []) _ _ k (made_ranged None n None) refl (omega arith)))

  -- ---- the pages from a up to e cut out
  module _ (a e : ℕ) (h : a < e) (room : length (carve a e (ranged_of (used s))) ≤ 512) (p q : ℕ) (ep : p ≡ ends_by a (ranged_of (used s)))
      (eq : q ≡ starts_before e (ranged_of (used s))) where
    cut_made : (t : Store) → t ≡ with_table (cut_table s.ranges s.count a e) s → CutIs a e s t
    cut_made t y =
        let k = cut_keeps s.ranges s.count T a e h room (cut_table s.ranges s.count a e) refl in
        record { same = y; table = rw y k; blank = rw y (cut_rest s.ranges s.count a e (cut_table s.ranges s.count a e) refl) }

    module _ (f l : PageRange) (before after : Option PageRange) (k : p < q) (ef : f ≡ range_at s p) (el : l ≡ range_at s (q - 1)) (eb : parts_of before ≡ front a (ranged f))
        (er : parts_of after ≡ back e (ranged l)) where
      ex : parts_of before ≡ front a (ranged (range_at s p))
      ex = eb ∙ ap (λ r. front a (ranged r)) ef

      ey : parts_of after ≡ back e (ranged (range_at s (q - 1)))
      ey = er ∙ ap (λ r. back e (ranged r)) el

      pub cut_fits : s.count + length (parts_made before None after) ≤ 512 + (q - p)
      cut_fits =
          cut_room s.ranges s.count T a e p q h ep eq (parts_made before None after) _ (parts_of before) (parts_of after) k refl (both_ranged before after) ex ey room

      pub cut_over : (t : Store) → t ≡ spliced_in s p (q - p) (parts_made before None after) → CutIs a e s t
      cut_over t y =
          cut_made t (y ∙ ap (λ (r : RangeTable). with_table r s)
          (cut_met s.ranges s.count T a e p q h ep eq (parts_made before None after) _ _ _ (parts_of before) (parts_of after) k refl (both_ranged before after) ex ey refl refl))

    cut_nothing : (t : Store) → q ≤ p → t ≡ spliced_in s p (p - p) [] → CutIs a e s t
    cut_nothing t k y =
        let z : p - p ≡ 0 = omega arith in
        let c : s.count + 0 - 0 ≡ s.count = omega arith in
        let x : t ≡ spliced_in s p 0 [] = rw z at y in
        cut_made t (x ∙ ap (λ (n : ℕ). with_table (record { ranges = spliced s.ranges s.count p 0 []; count = n }) s) c ∙ ap (λ (r : RangeTable). with_table r s)
        (cut_none s.ranges s.count T a e p q h ep eq [] _ k (both_ranged None None) refl))

  -- ---- both by the one splice
  pub splice_fits : (a e : ℕ) → a < e → (middle : Option PageRange) → length (carve a e (ranged_of (used s))) ≤ 512 → s.count + 2 * length (rows_of middle) ≤ 512
      → (p q : ℕ) → p ≡ ends_by a (ranged_of (used s)) → q ≡ starts_before e (ranged_of (used s)) → p < q → (before after : Option PageRange)
      → parts_of before ≡ front a (ranged (range_at s p)) → parts_of after ≡ back e (ranged (range_at s (q - 1)))
      → s.count + length (parts_made before middle after) ≤ 512 + (q - p)
  splice_fits a e h None room few p q ep eq k before after eb ea = cut_fits a e h room p q ep eq _ _ before after k refl refl eb ea
  splice_fits a e h (Some n) room few p q ep eq k before after eb ea =
      omega (arith, made_length (rows_of before) (rows_of (Some n)) (rows_of after), one_row before, one_row after)

  pub put_spliced : (n : PageRange) → Small n → 0 < n.length → s.count + 2 ≤ 512 → (a e : ℕ) → a ≡ from (ranged n) → e ≡ upto (ranged n) → (t : Store) → Spliced a e (Some n) s t → PutIs n s t
  put_spliced n S h room a e ea ee t P =
      by-lt P.first P.last
      (λ k. put_over n S h room a e P.first P.last ea ee P.is_first P.is_last _ _ P.before P.after t k refl refl (P.is_before k) (P.is_after k) (P.over k))
      (λ k. put_between n S h room a e P.first P.last ea ee P.is_first P.is_last t k (P.between k))

  pub cut_spliced : (a e : ℕ) → a < e → length (carve a e (ranged_of (used s))) ≤ 512 → (t : Store) → Spliced a e None s t → CutIs a e s t
  cut_spliced a e h room t P =
      by-lt P.first P.last
      (λ k. cut_over a e h room P.first P.last P.is_first P.is_last _ _ P.before P.after k refl refl (P.is_before k) (P.is_after k) t (P.over k))
      (λ k. cut_nothing a e h room P.first P.last P.is_first P.is_last t k (P.between k))
