-- A GAP OF A TABLE: pages that no range has, between the first p ranges and the others. A range put there is one row more, and every other range stays.
use Rattle.std.specs.Prelude.{◌≡◌, refl, ◌⊎◌, ℕ, zero, suc, ◌+◌, ◌-◌, ◌≤◌, ◌<◌, length, get_or, take, drop}
use Rattle.std.proofs.Common.{ap, ◌∙◌, inl, inr, ⊎_elim, not-suc-le-zero, le_refl, arith, le-ltb}
use mathlib.Core.List.Memᴰ
use mathlib.Core.List.{List, [], ◌∷◌, ◌++◌, Memᴰ}
use Rattle.lists.specs.Test.{by-lt}
use Rattle.ranges.specs.Range.{Ranged, from, upto, put, Rising}
use Rattle.ranges.specs.Over.{put_keeps}
use Rattle.ranges.specs.Search.{starts_before, ends_by, starts_out, ends_few, ends_in}
use Rattle.ranges.specs.Around.{put_around}

module _ {B : Type 0} (d : Ranged B) where
  -- ---- one element more in a list, as number p
  abbrev with : ℕ → Ranged B → List (Ranged B) → List (Ranged B)
  with p n rs = take p rs ++ (n ∷ drop p rs)

  with_length : (p : ℕ) (n : Ranged B) (rs : List (Ranged B)) → length (with p n rs) ≡ length rs + 1
  with_length zero n rs = omega arith
  with_length (suc p) n [] = refl
  with_length (suc p) n (r ∷ rs) = omega (arith, with_length p n rs)

  with_low : (p : ℕ) (n : Ranged B) (rs : List (Ranged B)) (i : ℕ) → i < p → p ≤ length rs → get_or (with p n rs) i d ≡ get_or rs i d
  with_low zero n rs i h l = absurd (not-suc-le-zero h)
  with_low (suc p) n [] i h l = absurd (not-suc-le-zero l)
  with_low (suc p) n (r ∷ rs) zero h l = refl
  with_low (suc p) n (r ∷ rs) (suc i) h l = with_low p n rs i (omega arith) (omega arith)

  with_here : (p : ℕ) (n : Ranged B) (rs : List (Ranged B)) → p ≤ length rs → get_or (with p n rs) p d ≡ n
  with_here zero n rs l = refl
  with_here (suc p) n [] l = absurd (not-suc-le-zero l)
  with_here (suc p) n (r ∷ rs) l = with_here p n rs (omega arith)

  with_high : (p : ℕ) (n : Ranged B) (rs : List (Ranged B)) (i : ℕ) → p ≤ i → get_or (with p n rs) (suc i) d ≡ get_or rs i d
  with_high zero n rs i h = refl
  with_high (suc p) n [] i h = refl
  with_high (suc p) n (r ∷ rs) zero h = absurd (not-suc-le-zero h)
  with_high (suc p) n (r ∷ rs) (suc i) h = with_high p n rs i (omega arith)

  -- ---- the pages from a up to e are in no range: the first p ranges end by a, the others begin at or after e
  pub record Gap (a e : ℕ) (rs : List (Ranged B)) (p : ℕ) : Type 0 where
    pub inside : p ≤ length rs
    pub before : (i : ℕ) → i < p → upto (get_or rs i d) ≤ a
    pub after : (i : ℕ) → p ≤ i → i < length rs → e ≤ from (get_or rs i d)

  -- two searches find it
  pub gap_found : (a e low p q : ℕ) (rs : List (Ranged B)) → Rising low rs → p ≡ ends_by a rs → q ≡ starts_before e rs → q ≤ p → Gap a e rs p
  gap_found a e low p q rs s ep eq h = record {
    inside = omega (arith, ends_few d a rs);
    before = λ i l. ends_in d a i rs (omega arith);
    after = λ i l m. starts_out d e low i rs s (omega arith) m;
  }

  module _ (a e : ℕ) (rs : List (Ranged B)) (p : ℕ) (G : Gap a e rs p) where
    -- fewer pages of it
    pub gap_less : (c : ℕ) → a ≤ c → Gap c e rs p
    gap_less c h = record { inside = G.inside; before = λ i l. omega (arith, G.before i l); after = G.after }

    -- a range stands before it or behind it
    gap_side : (r : Ranged B) → Memᴰ r rs → (upto r ≤ a) ⊎ (e ≤ from r)
    gap_side = go p rs G.before G.after
      where
        go : (p : ℕ) (rs : List (Ranged B)) → ((i : ℕ) → i < p → upto (get_or rs i d) ≤ a) → ((i : ℕ) → p ≤ i → i < length rs → e ≤ from (get_or rs i d))
            → (r : Ranged B) → Memᴰ r rs → (upto r ≤ a) ⊎ (e ≤ from r)
        go p [] b f r m = absurd (Memᴰ.not-nil m)
        go zero (x ∷ rs) b f r m =
            ⊎_elim
            (λ z. inr (rw z (f 0 (omega arith) (omega arith))))
            (λ k. go zero rs (λ i l. absurd (not-suc-le-zero l)) (λ i l j. f (suc i) (omega arith) (omega arith)) r k)
            (Memᴰ.cases_cons m)
        go (suc p) (x ∷ rs) b f r m =
            ⊎_elim
            (λ z. inl (rw z (b 0 (omega arith))))
            (λ k. go p rs (λ i l. b (suc i) (omega arith)) (λ i l j. f (suc i) (omega arith) (omega arith)) r k)
            (Memᴰ.cases_cons m)

    module _ (s : Rising 0 rs) (n : Ranged B) (full : 0 < n.len) (low : a ≤ from n) (high : upto n ≤ e) where
      -- A RANGE PUT INTO IT is one row more
      gap_with : put n rs ≡ with p n rs
      gap_with =
          put_around d n 0 p p rs full s (record {
            ordered = le_refl p;
            inside = G.inside;
            before = λ i l. omega (arith, G.before i l);
            after = λ i l m. omega (arith, G.after i l m);
            first = λ l. absurd (omega arith);
            last = λ l. absurd (omega arith);
          })
          ∙ rw (le-ltb p p (le_refl p))

      pub gap_length : length (put n rs) ≡ length rs + 1
      gap_length = ap length gap_with ∙ with_length p n rs

      -- the range stands there, the rows before it stay, and those behind it move up
      pub gap_here : get_or (put n rs) p d ≡ n
      gap_here = ap (λ k. get_or k p d) gap_with ∙ with_here p n rs G.inside

      pub gap_low : (i : ℕ) → i < p → get_or (put n rs) i d ≡ get_or rs i d
      gap_low i l = ap (λ k. get_or k i d) gap_with ∙ with_low p n rs i l G.inside

      pub gap_high : (i : ℕ) → p ≤ i → get_or (put n rs) (suc i) d ≡ get_or rs i d
      gap_high i l = ap (λ k. get_or k (suc i) d) gap_with ∙ with_high p n rs i l

      -- every range stays
      pub gap_keeps : (r : Ranged B) → Memᴰ r rs → Memᴰ r (put n rs)
      gap_keeps r m = put_keeps n r rs s m (⊎_elim (λ (l : upto r ≤ a). inl (omega arith)) (λ (l : e ≤ from r). inr (omega arith)) (gap_side r m))

      -- what is left of it lies behind the range
      pub gap_next : Gap (upto n) e (put n rs) (p + 1)
      gap_next = record {
        inside = omega (arith, gap_length, G.inside);
        before = λ i l.
            by-lt i p
            (λ k. rw (gap_low i k) (omega (arith, G.before i k)))
            (λ k. let z : i ≡ p = omega arith in
            let h : get_or (put n rs) i d ≡ n = ap (λ j. get_or (put n rs) j d) z ∙ gap_here in rw h (omega arith));
        after = λ i l m.
            let z : i ≡ suc (i - 1) = omega arith in
            let h : get_or (put n rs) i d ≡ get_or rs (i - 1) d = ap (λ j. get_or (put n rs) j d) z ∙ gap_high (i - 1) (omega arith) in
            rw h (G.after (i - 1) (omega arith) (omega (arith, gap_length)));
      }
