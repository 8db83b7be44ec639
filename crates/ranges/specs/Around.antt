-- A cut and a put as edits of a table: what is between the first p ranges and those from number q on is replaced.
use Rattle.std.specs.Prelude.{◌≡◌, ltb, length, get_or}
use Rattle.std.proofs.Math.Path.{refl, ap}
use Rattle.std.proofs.Common.{sym, ◌∙◌, inl, inr, ⊎_elim, not-suc-le-zero, le_refl, arith, take-append-drop, lt-ltb, le-ltb}
use mathlib.Core.List.Memᴰ
use mathlib.Core.List.{List, [], ◌∷◌, ◌++◌, append_assoc, Memᴰ}
use Prim.Native.Nat.{ℕ, zero, suc, ◌-◌, ◌≤◌, ◌<◌}
use Rattle.std.proofs.Math.ListN.{take, drop}
use Rattle.lists.specs.Test.{pick, by-lt}
use Rattle.ranges.specs.Range.{Ranged, from, upto, front, back, carve, insert, put, Rising}
use Rattle.ranges.specs.Put.{insert_here, insert_later, carve_table}
use Rattle.ranges.specs.Over.{whole_piece}
use Rattle.ranges.specs.Search.{rising_next, rising_full, ends_by, starts_before, ends_few, ends_in, starts_out, starts_few, ends_out, starts_in}
use Rattle.ranges.specs.Cut.{back_some, front_some, back_none, front_none}
use Rattle.ranges.specs.Find.{rising_low}

module _ {B : Type 0} (d : Ranged B) where
  -- the first p ranges end by a, those from number q on begin at or after e; if there are others, the first ends after a and the last begins before e
  pub record Around (a e : ℕ) (rs : List (Ranged B)) (p q : ℕ) : Type 0 where
    pub ordered : p ≤ q
    pub inside : q ≤ length rs
    pub before : (i : ℕ) → i < p → upto (get_or rs i d) ≤ a
    pub after : (i : ℕ) → q ≤ i → i < length rs → e ≤ from (get_or rs i d)
    pub first : p < q → a < upto (get_or rs p d)
    pub last : p < q → from (get_or rs (q - 1) d) < e

  -- they are found by two searches
  pub around_is : (a e low : ℕ) (rs : List (Ranged B)) → a < e → Rising low rs → Around a e rs (ends_by a rs) (starts_before e rs)
  around_is a e low rs h s = record {
    ordered = by-lt (starts_before e rs) (ends_by a rs)
        (λ l. absurd (let k : starts_before e rs < length rs = omega (arith, ends_few d a rs) in
        omega (arith, ends_in d a (starts_before e rs) rs l, starts_out d e low (starts_before e rs) rs s (le_refl _) k, rising_full d low (starts_before e rs) rs s k)))
        (λ l. l);
    inside = starts_few d e rs;
    before = λ i l. ends_in d a i rs l;
    after = λ i l m. starts_out d e low i rs s l m;
    first = λ l. ends_out d a low (ends_by a rs) rs s (le_refl _) (omega (arith, starts_few d e rs));
    last = λ l. starts_in d e (starts_before e rs - 1) rs (omega arith);
  }

  -- what is left of those between: the front of the first, the back of the last
  abbrev pub fronts : ℕ → List (Ranged B) → ℕ → ℕ → List (Ranged B)
  fronts a rs p q = pick (ltb p q) (front a (get_or rs p d)) []

  abbrev pub backs : ℕ → List (Ranged B) → ℕ → ℕ → List (Ranged B)
  backs e rs p q = pick (ltb p q) (back e (get_or rs (q - 1) d)) []

  -- nothing met, nothing cut
  carve_same : (a e : ℕ) (p low : ℕ) (rs : List (Ranged B)) → a ≤ e → Rising low rs → ((i : ℕ) → i < p → upto (get_or rs i d) ≤ a)
      → ((i : ℕ) → p ≤ i → i < length rs → e ≤ from (get_or rs i d)) → carve a e rs ≡ rs
  unfolding carve Rising
  carve_same a e p low [] h s b f = refl
  carve_same a e zero low (r ∷ rs) h s b f =
      rw (whole_piece a e r h s.1 (inr (f 0 (omega arith) (omega arith))))
      (ap (λ k. r ∷ k) (carve_same a e zero (upto r) rs h s.2 (λ i l. absurd (not-suc-le-zero l)) (λ i l m. f (suc i) (omega arith) (omega arith))))
  carve_same a e (suc p) low (r ∷ rs) h s b f =
      rw (whole_piece a e r h s.1 (inl (b 0 (omega arith))))
      (ap (λ k. r ∷ k) (carve_same a e p (upto r) rs h s.2 (λ i l. b (suc i) (omega arith)) (λ i l m. f (suc i) (omega arith) (omega arith))))

  -- what begins at or after e rises from e on
  drop_rising : (e low q : ℕ) (rs : List (Ranged B)) → Rising low rs → (q < length rs → e ≤ from (get_or rs q d)) → Rising e (drop q rs)
  unfolding Rising
  drop_rising e low zero [] s h = tt
  drop_rising e low (suc q) [] s h = tt
  drop_rising e low zero (r ∷ rs) s h = (h (omega arith), s.1, s.2)
  drop_rising e low (suc q) (r ∷ rs) s h = drop_rising e (upto r) q rs s.2 (λ l. h (omega arith))

  -- THE CUT, as an edit of the table
  pub carve_around : (a e low p q : ℕ) (rs : List (Ranged B)) → a < e → Rising low rs → Around a e rs p q
      → carve a e rs ≡ take p rs ++ (fronts a rs p q ++ backs e rs p q ++ drop q rs)
  carve_around a e low p q rs h s A =
      by-lt p q
      (λ l. rw (lt-ltb p q l) (some_met l))
      (λ l. rw (le-ltb p q l) (none_met l))
    where
      some_met : p < q → carve a e rs ≡ take p rs ++ (front a (get_or rs p d) ++ back e (get_or rs (q - 1) d) ++ drop q rs)
      some_met l =
          let n : suc (q - 1) ≡ q = omega arith in
          carve_table d a e h p (q - 1) low rs s (omega arith) (omega (arith, A.inside)) A.before (A.first l)
          (λ i k. by-lt i (q - 1)
          (λ m. let nx = rising_next d low i (q - 1) rs s m (omega (arith, A.inside)) in
          let fl = rising_full d low i rs s (omega (arith, A.inside)) in omega (arith, A.last l))
          (λ m. let e' : i ≡ q - 1 = omega arith in rw e' (A.last l)))
          (rw n (drop_rising e low q rs s (λ k. A.after q (le_refl q) k)))
          ∙ ap (λ k. take p rs ++ (front a (get_or rs p d) ++ back e (get_or rs (q - 1) d) ++ drop k rs)) n

      none_met : q ≤ p → carve a e rs ≡ take p rs ++ drop q rs
      none_met l =
          let z : q ≡ p = omega (arith, A.ordered) in
          carve_same a e p low rs (omega arith) s A.before (λ i k m. A.after i (omega arith) m)
          ∙ sym (take-append-drop p rs)
          ∙ ap (λ k. take p rs ++ drop k rs) (sym z)

  -- a range put between those that begin at or before it and those that begin after it
  insert_between : (n : Ranged B) (xs ys : List (Ranged B)) → ((x : Ranged B) → Memᴰ x xs → from x ≤ from n)
      → ((y : Ranged B) → Memᴰ y ys → from n < from y) → insert n (xs ++ ys) ≡ xs ++ (n ∷ ys)
  unfolding insert
  insert_between n [] [] a b = refl
  insert_between n [] (y ∷ ys) a b = insert_here n y ys (b y (Memᴰ.head refl))
  insert_between n (x ∷ xs) ys a b =
      insert_later n x (xs ++ ys) (a x (Memᴰ.head refl)) ∙ ap (λ k. x ∷ k) (insert_between n xs ys (λ z m. a z (Memᴰ.tail m)) b)

  take_below : (a p : ℕ) (rs : List (Ranged B)) → ((i : ℕ) → i < p → upto (get_or rs i d) ≤ a) → (x : Ranged B) → Memᴰ x (take p rs) → upto x ≤ a
  take_below a zero rs h x m = absurd (Memᴰ.not-nil m)
  take_below a (suc p) [] h x m = absurd (Memᴰ.not-nil m)
  take_below a (suc p) (r ∷ rs) h x m =
      ⊎_elim (λ e. rw e (h 0 (omega arith))) (λ k. take_below a p rs (λ i l. h (suc i) (omega arith)) x k) (Memᴰ.cases_cons m)

  front_low : (a : ℕ) (r x : Ranged B) → Memᴰ x (front a r) → from x ≤ a
  front_low a r x m =
      by-lt (from r) a
      (λ l. let k = rw (front_some a r l) at m in rw (Memᴰ.eq_of_singleton k) (omega arith))
      (λ l. absurd (Memᴰ.not-nil (rw (front_none a r l) at m)))

  back_high : (e : ℕ) (r x : Ranged B) → Memᴰ x (back e r) → e ≤ from x
  back_high e r x m =
      by-lt e (upto r)
      (λ l. let k = rw (back_some e r l) at m in rw (Memᴰ.eq_of_singleton k) (omega arith))
      (λ l. absurd (Memᴰ.not-nil (rw (back_none e r l) at m)))

  -- THE PUT, as an edit of the table
  pub put_around : (n : Ranged B) (low p q : ℕ) (rs : List (Ranged B)) → 0 < n.len → Rising low rs → Around (from n) (upto n) rs p q
      → put n rs ≡ take p rs ++ (fronts (from n) rs p q ++ (n ∷ backs (upto n) rs p q) ++ drop q rs)
  unfolding put
  put_around n low p q rs h s A =
      ap (λ k. insert n k) (carve_around (from n) (upto n) low p q rs (omega arith) s A ∙ regroup (fronts (from n) rs p q) (backs (upto n) rs p q))
      ∙ insert_between n (take p rs ++ fronts (from n) rs p q) (backs (upto n) rs p q ++ drop q rs) low_first high_last
      ∙ regroup' (fronts (from n) rs p q) (backs (upto n) rs p q)
    where
      regroup : (f b : List (Ranged B)) → take p rs ++ (f ++ b ++ drop q rs) ≡ (take p rs ++ f) ++ (b ++ drop q rs)
      regroup f b = simp append_assoc

      regroup' : (f b : List (Ranged B)) → (take p rs ++ f) ++ (n ∷ (b ++ drop q rs)) ≡ take p rs ++ (f ++ (n ∷ b) ++ drop q rs)
      regroup' f b = simp append_assoc

      pos : (x : Ranged B) → upto x ≤ from n → from x ≤ from n
      pos x l = omega arith

      low_first : (x : Ranged B) → Memᴰ x (take p rs ++ fronts (from n) rs p q) → from x ≤ from n
      low_first x m =
          ⊎_elim (λ k. pos x (take_below (from n) p rs A.before x k)) (λ k. fr k) (Memᴰ.append_cases (take p rs) m)
        where
          fr : Memᴰ x (fronts (from n) rs p q) → from x ≤ from n
          fr k = by-lt p q
              (λ l. front_low (from n) (get_or rs p d) x (rw (lt-ltb p q l) at k))
              (λ l. absurd (Memᴰ.not-nil (rw (le-ltb p q l) at k)))

      high_last : (y : Ranged B) → Memᴰ y (backs (upto n) rs p q ++ drop q rs) → from n < from y
      high_last y m =
          ⊎_elim (λ k. bk k)
          (λ k. omega (arith, rising_low (upto n) y (drop q rs) (drop_rising (upto n) low q rs s (λ l. A.after q (le_refl q) l)) k))
          (Memᴰ.append_cases (backs (upto n) rs p q) m)
        where
          bk : Memᴰ y (backs (upto n) rs p q) → from n < from y
          bk k = by-lt p q
              (λ l. omega (arith, back_high (upto n) (get_or rs (q - 1) d) y (rw (lt-ltb p q l) at k)))
              (λ l. absurd (Memᴰ.not-nil (rw (le-ltb p q l) at k)))
