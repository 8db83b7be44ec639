-- A put and a cut of the table, from the two searches, the parts and the splice.
use Rattle.std.specs.Prelude.{◌≡◌, refl, ℕ, suc, zero, ◌+◌, ◌-◌, ◌≤◌, ◌<◌, get_or}
use Rattle.std.proofs.Math.Path.{ap, ap₂, sym}
use Rattle.std.proofs.Common.{◌∙◌, length-append, length-drop, length-take-le, lt-ltb, le-ltb}
use mathlib.Core.List.{List, [], ◌∷◌, ◌++◌, map, map-append, append_assoc}
use native.Mathlib.Omega.{arith}
use Rattle.std.proofs.Math.ListN.{length, take, drop}
use Rattle.std.proofs.lemmas.List.{length-map}
use Rattle.ranges.specs.Range.{Ranged, from, upto, front, back, carve, put}
use Rattle.ranges.specs.Search.{starts_before, ends_by}
use Rattle.ranges.specs.Around.{Around, around_is, fronts, backs, carve_around, put_around}
use Rattle.table.specs.declared.PageRange.{PageRange}
use Rattle.table.specs.declared.BackingPages.{BackingPages}
use Rattle.table.specs.Table.{Table, ranged, unranged, ranged_of, zero_range}
use Rattle.edit.specs.Edit.{padded, spliced, tabled, put_table, cut_table}
use Rattle.table.specs.Searching.{used_length, used_at, starts_count}

-- there and back
pub there_back : (l : List PageRange) → map unranged (ranged_of l) ≡ l
unfolding ranged_of
there_back [] = refl
there_back (r ∷ l) = ap (λ k. r ∷ k) (there_back l)

ranged_take : (p count : ℕ) (R : List PageRange) → p ≤ count → ranged_of (take p R) ≡ take p (ranged_of (take count R))
unfolding ranged_of
ranged_take zero count R h = refl
ranged_take (suc p) zero R h = absurd (omega arith)
ranged_take (suc p) (suc count) [] h = refl
ranged_take (suc p) (suc count) (r ∷ R) h = ap (λ k. ranged r ∷ k) (ranged_take p count R (omega arith))

ranged_drop : (q : ℕ) (l : List PageRange) → ranged_of (drop q l) ≡ drop q (ranged_of l)
unfolding ranged_of
ranged_drop zero l = refl
ranged_drop (suc q) [] = refl
ranged_drop (suc q) (r ∷ l) = ranged_drop q l

ranged_append : (x y : List PageRange) → ranged_of (x ++ y) ≡ ranged_of x ++ ranged_of y
unfolding ranged_of
ranged_append x y = map-append ranged x y

ranged_length : (x : List PageRange) → length (ranged_of x) ≡ length x
unfolding ranged_of
ranged_length x = length-map x ranged

module _ (R : List PageRange) (count : ℕ) (T : Table R count) where
  abbrev used : List (Ranged BackingPages)
  used = ranged_of (take count R)

  -- a splice is the table of the list it makes
  edited : (X : List (Ranged BackingPages)) (p q : ℕ) (new out : List PageRange) (n cnt : ℕ) → p ≤ q → q ≤ count → length new ≡ n
      → X ≡ take p used ++ (ranged_of new ++ drop q used) → out ≡ spliced R count p (q - p) new → cnt ≡ count + n - (q - p)
      → record { ranges = out; count = cnt } ≡ tabled X
  unfolding spliced
  edited X p q new out n cnt pq qc en ex eo ec =
      let L : List PageRange = take p R ++ new ++ drop (p + (q - p)) (take count R) in
      let z : p + (q - p) ≡ q = omega arith in
      let w : ranged_of L ≡ X = whole p q new pq qc ∙ sym ex in
      let m : L ≡ map unranged X = sym (there_back L) ∙ ap (λ k. map unranged k) w in
      let c : cnt ≡ length X = ec ∙ counted ∙ ap length w in
      ap₂ (λ (a : List PageRange) (b : ℕ). record { ranges = a; count = b }) (eo ∙ ap (λ k. padded k) m) c
    where
      whole : (p q : ℕ) (new : List PageRange) → p ≤ q → q ≤ count → ranged_of (take p R ++ new ++ drop (p + (q - p)) (take count R)) ≡ take p used ++ (ranged_of new ++ drop q used)
      whole p q new pq qc =
          let z : p + (q - p) ≡ q = omega arith in
          ranged_append (take p R ++ new) (drop (p + (q - p)) (take count R))
          ∙ ap₂ (λ x y. x ++ y) (ranged_append (take p R) new ∙ ap (λ x. x ++ ranged_of new) (ranged_take p count R (omega arith)))
          (ranged_drop (p + (q - p)) (take count R) ∙ ap (λ k. drop k used) z)
          ∙ append_assoc (take p used) (ranged_of new) (drop q used)

      counted : count + n - (q - p) ≡ length (ranged_of (take p R ++ new ++ drop (p + (q - p)) (take count R)))
      counted =
          let f = T.few in
          let l = T.full in
          let h : length (take p R ++ new ++ drop (p + (q - p)) (take count R)) ≡ p + n + (count - (p + (q - p))) =
          simp (length-append, length-drop, length-take-le p R (omega arith), length-take-le count R (omega arith), en) in
          omega (arith, ranged_length (take p R ++ new ++ drop (p + (q - p)) (take count R)), h)

  around : (a e : ℕ) → a < e → Around (ranged zero_range) a e used (ends_by a used) (starts_before e used)
  around a e h = around_is (ranged zero_range) a e 0 used h T.rising

  -- the ranges that a span meets
  module _ (a e p q : ℕ) (h : a < e) (ep : p ≡ ends_by a used) (eq : q ≡ starts_before e used) where
    pub met_order : (p ≤ q) × (q ≤ count)
    met_order = (omega (arith, (around a e h).ordered), omega (arith, starts_count R count T e))

    -- with the ranges met, and without
    front_met : p < q → fronts (ranged zero_range) a used p q ≡ front a (ranged (get_or R p zero_range))
    front_met k = rw (lt-ltb p q k) (ap (λ r. front a r) (used_at R count T p (omega (arith, met_order.1))))

    back_met : p < q → backs (ranged zero_range) e used p q ≡ back e (ranged (get_or R (q - 1) zero_range))
    back_met k = rw (lt-ltb p q k) (ap (λ r. back e r) (used_at R count T (q - 1) (omega (arith, met_order.1))))

    this : Around (ranged zero_range) a e used p q
    this = rw (ep, eq) (around a e h)

    pub cut_met : (new out : List PageRange) (n cnt : ℕ) (x y : List (Ranged BackingPages)) → p < q → length new ≡ n → ranged_of new ≡ x ++ y
        → x ≡ front a (ranged (get_or R p zero_range)) → y ≡ back e (ranged (get_or R (q - 1) zero_range)) → out ≡ spliced R count p (q - p) new → cnt ≡ count + n - (q - p)
        → record { ranges = out; count = cnt } ≡ cut_table R count a e
    unfolding cut_table
    cut_met new out n cnt x y k en er ex ey eo ec =
        edited (carve a e used) p q new out n cnt met_order.0 met_order.1 en
        (carve_around (ranged zero_range) a e 0 p q used h T.rising this
        ∙ ap (λ z. take p used ++ (z ++ drop q used)) (ap₂ (λ u v. u ++ v) (front_met k ∙ sym ex) (back_met k ∙ sym ey) ∙ sym er))
        eo ec

    -- there is room for the parts, if there is for the cut table
    pub cut_room : (new : List PageRange) (n : ℕ) (x y : List (Ranged BackingPages)) → p < q → length new ≡ n → ranged_of new ≡ x ++ y
        → x ≡ front a (ranged (get_or R p zero_range)) → y ≡ back e (ranged (get_or R (q - 1) zero_range)) → length (carve a e used) ≤ 512 → count + n ≤ 512 + (q - p)
    cut_room new n x y k en er ex ey room =
        let c : carve a e used ≡ take p used ++ (ranged_of new ++ drop q used) =
        carve_around (ranged zero_range) a e 0 p q used h T.rising this
        ∙ ap (λ z. take p used ++ (z ++ drop q used)) (ap₂ (λ u v. u ++ v) (front_met k ∙ sym ex) (back_met k ∙ sym ey) ∙ sym er) in
        let u = used_length R count T in
        let m : length (take p used ++ (ranged_of new ++ drop q used)) ≡ p + (n + (count - q)) =
        simp (length-append, length-drop, length-take-le p used (omega (arith, met_order.1)), ranged_length, en) (omega (arith, length-take-le count R (omega (arith, T.few, T.full)))) in
        omega (arith, ap length c, m, met_order.1)

    pub cut_none : (new out : List PageRange) → q ≤ p → ranged_of new ≡ [] → out ≡ spliced R count p 0 new → record { ranges = out; count = count } ≡ cut_table R count a e
    unfolding cut_table
    cut_none new out k er eo =
        let z : q - p ≡ 0 = omega arith in
        let n : length new ≡ 0 = sym (ranged_length new) ∙ ap length er in
        edited (carve a e used) p q new out 0 count met_order.0 met_order.1 n
        (carve_around (ranged zero_range) a e 0 p q used h T.rising this ∙ rw (le-ltb p q k) (ap (λ u. take p used ++ (u ++ drop q used)) (sym er)))
        (eo ∙ ap (λ u. spliced R count p u new) (sym z)) (omega arith)

  module _ (r : PageRange) (p q : ℕ) (h : 0 < r.length) (ep : p ≡ ends_by (from (ranged r)) used) (eq : q ≡ starts_before (upto (ranged r)) used) where
    abbrev a : ℕ
    a = from (ranged r)

    abbrev e : ℕ
    e = upto (ranged r)

    pub put_met : (new out : List PageRange) (n cnt : ℕ) (x y : List (Ranged BackingPages)) → p < q → length new ≡ n → ranged_of new ≡ x ++ (ranged r ∷ y)
        → x ≡ front a (ranged (get_or R p zero_range)) → y ≡ back e (ranged (get_or R (q - 1) zero_range)) → out ≡ spliced R count p (q - p) new → cnt ≡ count + n - (q - p)
        → record { ranges = out; count = cnt } ≡ put_table R count r
    unfolding put_table
    put_met new out n cnt x y k en er ex ey eo ec =
        let o = met_order a e p q (omega arith) ep eq in
        edited (put (ranged r) used) p q new out n cnt o.0 o.1 en
        (put_around (ranged zero_range) (ranged r) 0 p q used h T.rising (this a e p q (omega arith) ep eq)
        ∙ ap (λ z. take p used ++ (z ++ drop q used))
        (ap₂ (λ u v. u ++ (ranged r ∷ v)) (front_met a e p q (omega arith) ep eq k ∙ sym ex) (back_met a e p q (omega arith) ep eq k ∙ sym ey) ∙ sym er))
        eo ec

    pub put_none : (new out : List PageRange) (cnt : ℕ) → q ≤ p → ranged_of new ≡ ranged r ∷ [] → out ≡ spliced R count p 0 new → cnt ≡ count + 1
        → record { ranges = out; count = cnt } ≡ put_table R count r
    unfolding put_table
    put_none new out cnt k er eo ec =
        let o = met_order a e p q (omega arith) ep eq in
        let z : q - p ≡ 0 = omega arith in
        let n : length new ≡ 1 = sym (ranged_length new) ∙ ap length er in
        edited (put (ranged r) used) p q new out 1 cnt o.0 o.1 n
        (put_around (ranged zero_range) (ranged r) 0 p q used h T.rising (this a e p q (omega arith) ep eq)
        ∙ rw (le-ltb p q k) (ap (λ u. take p used ++ (u ++ drop q used)) (sym er)))
        (eo ∙ ap (λ u. spliced R count p u new) (sym z)) (omega arith)
