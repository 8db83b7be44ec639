-- What an edit of the table keeps: each range is fine, and ranges that hold one backing agree on its kind. Stated over lists of used slots: l before, m after.
use Rattle.std.specs.Prelude.{◌≡◌, refl, true, not, ◌⊎◌, ℕ, ◌≤◌, ◌<◌, eqb, take}
use Rattle.std.proofs.Math.Path.{ap}
use Rattle.std.proofs.Common.{ap₂, sym, subst, ◌∙◌, arith, ne_eqb}
use Rattle.std.proofs.Math.Logic.{inl, inr, ⊎_elim}
use mathlib.Core.List.{List, map, Memᴰ}
use Rattle.std.proofs.lemmas.Bool.{eqb-false, not-true}
use Rattle.table.specs.declared.PageRange.{PageRange}
use Rattle.table.specs.declared.BackingPages.{BackingPages}
use Rattle.table.specs.declared.BackingPages.TheVariants.{Nothing, Single, Many}
use Rattle.places.specs.declared.Place.{Place}
use Rattle.edit.specs.declared.RangeTable.{RangeTable}
use Rattle.lists.specs.Every.{All}
use Rattle.ranges.specs.Range.{Range, Ranged, from, upto, carve, put, Rising}
use Rattle.ranges.specs.Table.{holders}
use Rattle.ranges.specs.Piece.{Piece, Cut, rising_mem}
use Rattle.ranges.proofs.Piece.{carve_mem}
use Rattle.ranges.specs.Cut.{carve_rising}
use Rattle.ranges.specs.Over.{Rest, put_rising}
use Rattle.ranges.proofs.Over.{put_mem}
use Rattle.ranges.specs.Hold.{unheld, held_once}
use Rattle.table.specs.Table.{number_of, ranged, unranged, ranged_of, range_of, ranges_of}
use Rattle.edit.specs.Edit.{put_table, cut_table}
use Rattle.store.specs.Sound.{Kind, Agree, alike}
use Rattle.store.specs.Members.{all_of, of_all, origin, ranged_from, range_mem}
use Rattle.store.specs.Stands.{Stay, kind_moved}
use Rattle.store.specs.Ranges.{used_of, tabled_used}

-- ---- kinds agree

pub alike_self : (a : BackingPages) → alike a a ≡ true
alike_self Nothing = refl
alike_self (Single m) = refl
alike_self (Many m) = refl

differ_sym : (m n : ℕ) → not (eqb m n) ≡ true → not (eqb n m) ≡ true
differ_sym m n h = let e = ne_eqb n m (λ z. eqb-false m n (not-true (eqb m n) h) (sym z)) in rw e

pub alike_sym : (a b : BackingPages) → alike a b ≡ true → alike b a ≡ true
alike_sym Nothing Nothing h = refl
alike_sym Nothing (Single n) h = refl
alike_sym Nothing (Many n) h = refl
alike_sym (Single m) Nothing h = refl
alike_sym (Single m) (Single n) h = refl
alike_sym (Single m) (Many n) h = differ_sym m n h
alike_sym (Many m) Nothing h = refl
alike_sym (Many m) (Single n) h = differ_sym m n h
alike_sym (Many m) (Many n) h = refl

-- backings of different numbers agree
alike_apart : (a b : BackingPages) → (number_of a ≡ number_of b → ⊥) → alike a b ≡ true
alike_apart Nothing b h = refl
alike_apart (Single m) Nothing h = refl
alike_apart (Single m) (Single n) h = refl
alike_apart (Single m) (Many n) h = rw (ne_eqb m n h)
alike_apart (Many m) Nothing h = refl
alike_apart (Many m) (Single n) h = rw (ne_eqb m n h)
alike_apart (Many m) (Many n) h = refl

-- ---- pieces

-- a range with a page that is a piece of a range of l, and has its backing
pub record Part (l : List PageRange) (q : PageRange) : Type 0 where
  pub slot : PageRange
  pub mem : Memᴰ slot l
  pub piece : Piece (ranged q) (ranged slot)
  pub long : 0 < q.length

-- a piece of a range is of its kind: of a `Single` range, the whole
kind_piece : (n : ℕ) (ps : List Place) (q r : PageRange) (k : BackingPages) → Piece (ranged q) (ranged r) → 0 < q.length → Kind n ps r k → Kind n ps q k
kind_piece n ps q r Nothing P l h = h
kind_piece n ps q r (Single b) P l h = (h.0, omega (arith, P.first, P.last, h.1), omega (arith, P.first, P.last, P.shift, h.1, h.2), h.3)
kind_piece n ps q r (Many b) P l h = (h.0, omega (arith, P.first, P.last, P.shift, h.1))

pub kind_part : (n : ℕ) (ps : List Place) (l : List PageRange) (q : PageRange) → Part l q → All (λ r. Kind n ps r r.backing) l → Kind n ps q q.backing
kind_part n ps l q P h =
    subst (λ (k : BackingPages). Kind n ps q k) (sym P.piece.backing)
    (kind_piece n ps q P.slot P.slot.backing P.piece P.long (all_of (λ r. Kind n ps r r.backing) l h P.slot P.mem))

-- ---- what holds of all ranges

-- Each range is new and of a sound kind, or a part of an old one: all are of a sound kind. The places may change, from ps to qs, while the frames stay
-- that the ranges now name (those of old ranges that are gone may go)
pub kinds_kept : (ps qs : List Place) (n : ℕ) (l m : List PageRange) → All (λ r. Kind n ps r r.backing) l → Stay ps qs n (ranges_of m)
    → ((q : PageRange) → Memᴰ q m → (Kind n qs q q.backing) ⊎ Part l q) → All (λ r. Kind n qs r r.backing) m
kinds_kept ps qs n l m h K c = of_all (λ r. Kind n qs r r.backing) m (λ q k. ⊎_elim (λ f. f) (λ P. kind_moved ps qs n m q k K (kind_part n ps l q P h)) (c q k))

abbrev pub Agreed : List PageRange → Type 0
Agreed l = All (λ a. All (Agree a) l) l

agreed_of : (l : List PageRange) → Agreed l → (a b : PageRange) → Memᴰ a l → Memᴰ b l → Agree a b
agreed_of l h a b i j = all_of (Agree a) l (all_of (λ c. All (Agree c) l) l h a i) b j

of_agreed : (m : List PageRange) → ((a b : PageRange) → Memᴰ a m → Memᴰ b m → Agree a b) → Agreed m
of_agreed m h = of_all (λ a. All (Agree a) m) m (λ a i. of_all (Agree a) m (λ b j. h a b i j))

-- two parts agree, and a part with what has an old range's backing
agree_parts : (l : List PageRange) → Agreed l → (a b : PageRange) → Part l a → Part l b → Agree a b
agree_parts l h a b P Q = ap₂ alike P.piece.backing Q.piece.backing ∙ agreed_of l h P.slot Q.slot P.mem Q.mem

pub agree_same : (l : List PageRange) → Agreed l → (n r q : PageRange) → Memᴰ r l → n.backing ≡ r.backing → Part l q → Agree n q
agree_same l h n r q m e Q = ap₂ alike e Q.piece.backing ∙ agreed_of l h r Q.slot m Q.mem

-- what has a number that no old range has agrees with every part
pub agree_new : (l : List PageRange) (n q : PageRange) → holders (number_of n.backing) (ranges_of l) ≡ 0 → Part l q → Agree n q
agree_new l n q h Q =
    alike_apart n.backing q.backing
    (λ e. unheld (number_of n.backing) (ranges_of l) (range_of Q.slot) h (range_mem l Q.slot Q.mem) (e ∙ ap number_of Q.piece.backing))

-- what has the number of one old range r alone, and covers all of it, agrees with every part that it leaves
pub agree_over : (l : List PageRange) (n r q : PageRange) → holders (number_of n.backing) (ranges_of l) ≡ 1 → Memᴰ r l → number_of n.backing ≡ number_of r.backing
    → from (ranged n) ≤ from (ranged r) → upto (ranged r) ≤ upto (ranged n) → (upto (ranged q) ≤ from (ranged n)) ⊎ (upto (ranged n) ≤ from (ranged q)) → Part l q → Agree n q
agree_over l n r q h m e lo hi c Q = alike_apart n.backing q.backing (λ z.
    let o : range_of r ≡ range_of Q.slot =
    held_once (number_of n.backing) (ranges_of l) (range_of r) (range_of Q.slot) h (range_mem l r m) (range_mem l Q.slot Q.mem) e (z ∙ ap number_of Q.piece.backing) in
    let a : from (ranged r) ≡ from (ranged Q.slot) = ap (λ (x : Range). from x) o in
    let b : upto (ranged r) ≡ upto (ranged Q.slot) = ap (λ (x : Range). upto x) o in
    let p = Q.piece in
    ⊎_elim
    (λ (u : upto (ranged q) ≤ from (ranged n)). omega (arith, p.object, p.first, Q.long))
    (λ (u : upto (ranged n) ≤ from (ranged q)). omega (arith, p.object, p.last, Q.long))
    c)

-- THE KINDS AFTER A CUT: ranges that are parts of ranges that agree do so too
pub agreed_cut : (l m : List PageRange) → Agreed l → ((q : PageRange) → Memᴰ q m → Part l q) → Agreed m
agreed_cut l m h c = of_agreed m (λ a b i j. agree_parts l h a b (c a i) (c b j))

-- AND AFTER A PUT: the range n put in, and parts that agree with it
pub agreed_put : (n : PageRange) (l m : List PageRange) → Agreed l → ((q : PageRange) → Memᴰ q m → (q ≡ n) ⊎ (Part l q × Agree n q)) → Agreed m
agreed_put n l m h c = of_agreed m (λ a b i j. ⊎_elim
    (λ (e : a ≡ n). ⊎_elim (λ (f : b ≡ n). rw (e, f) (alike_self n.backing)) (λ (Q : Part l b × Agree n b). rw e Q.1) (c b j))
    (λ (P : Part l a × Agree n a). ⊎_elim
    (λ (f : b ≡ n). rw f (alike_sym n.backing a.backing P.1))
    (λ (Q : Part l b × Agree n b). agree_parts l h a b P.0 Q.0)
    (c b j))
    (c a i))

-- ---- the used slots of the table after an edit

piece_of : (l : List PageRange) (q : PageRange) (r : Ranged BackingPages) → q ≡ unranged r → 0 < r.len → Cut r (ranged_of l) → Part l q
piece_of l q r e h C =
    let F = ranged_from l C.r C.mem in
    rw e (record { slot = F.source; mem = F.mem; piece = subst (λ (z : Ranged BackingPages). Piece r z) F.is C.piece; long = h })

module _ (R : List PageRange) (count : ℕ) (rising : Rising 0 (ranged_of (take count R))) where
  -- of a cut, all are parts
  pub cut_member : (a e : ℕ) (t : RangeTable) → a ≤ e → t ≡ cut_table R count a e → (q : PageRange) → Memᴰ q (used_of t) → Part (take count R) q
  unfolding cut_table
  cut_member a e t h z q m =
      let X : List (Ranged BackingPages) = carve a e (ranged_of (take count R)) in
      let u : used_of t ≡ map unranged X = ap used_of z ∙ tabled_used X in
      let F = origin unranged q X (subst (λ (k : List PageRange). Memᴰ q k) u m) in
      piece_of (take count R) q F.source F.is (rising_mem 0 F.source X (carve_rising a e 0 (ranged_of (take count R)) h rising) F.mem)
      (carve_mem a e F.source (ranged_of (take count R)) F.mem)

  -- of a put, the range put in and parts that are clear of it
  pub put_member : (n : PageRange) (t : RangeTable) → 0 < n.length → t ≡ put_table R count n → (q : PageRange) → Memᴰ q (used_of t)
      → (q ≡ n) ⊎ (Part (take count R) q × ((upto (ranged q) ≤ from (ranged n)) ⊎ (upto (ranged n) ≤ from (ranged q))))
  unfolding put_table
  put_member n t h z q m =
      let X : List (Ranged BackingPages) = put (ranged n) (ranged_of (take count R)) in
      let u : used_of t ≡ map unranged X = ap used_of z ∙ tabled_used X in
      let F = origin unranged q X (subst (λ (k : List PageRange). Memᴰ q k) u m) in
      let l : 0 < F.source.len = rising_mem 0 F.source X (put_rising (ranged n) (ranged_of (take count R)) h rising) F.mem in
      ⊎_elim
      (λ (e : F.source ≡ ranged n). inl (F.is ∙ ap unranged e))
      (λ (S : Rest (ranged n) F.source (ranged_of (take count R))). inr (piece_of (take count R) q F.source F.is l S.cut, rw F.is S.clear))
      (put_mem (ranged n) F.source (ranged_of (take count R)) F.mem)

  -- ---- THE RANGES AFTER A CUT
  module _ (a e : ℕ) (t : RangeTable) (h : a ≤ e) (is : t ≡ cut_table R count a e) where
    pub cut_agreed : Agreed (take count R) → Agreed (used_of t)
    cut_agreed A = agreed_cut (take count R) (used_of t) A (cut_member a e t h is)

  -- ---- AND AFTER A PUT
  module _ (n : PageRange) (t : RangeTable) (h : 0 < n.length) (is : t ≡ put_table R count n) where
    abbrev Around : PageRange → Type 0
    Around q = Part (take count R) q × ((upto (ranged q) ≤ from (ranged n)) ⊎ (upto (ranged n) ≤ from (ranged q)))

    put_agreed : Agreed (take count R) → ((q : PageRange) → Around q → Agree n q) → Agreed (used_of t)
    put_agreed A g = agreed_put n (take count R) (used_of t) A (λ q m. ⊎_elim (λ (e : q ≡ n). inl e) (λ (P : Around q). inr (P.0, g q P)) (put_member n t h is q m))

    -- a range with the backing of an old one
    pub put_agreed_same : Agreed (take count R) → (r : PageRange) → Memᴰ r (take count R) → n.backing ≡ r.backing → Agreed (used_of t)
    put_agreed_same A r m e = put_agreed A (λ q P. agree_same (take count R) A n r q m e P.0)

    -- a range with a new number
    pub put_agreed_new : Agreed (take count R) → holders (number_of n.backing) (ranges_of (take count R)) ≡ 0 → Agreed (used_of t)
    put_agreed_new A z = put_agreed A (λ q P. agree_new (take count R) n q z P.0)

    -- a range put over the one range that had its number (`Single` may become `Many`)
    pub put_agreed_over : Agreed (take count R) → (r : PageRange) → holders (number_of n.backing) (ranges_of (take count R)) ≡ 1 → Memᴰ r (take count R)
        → number_of n.backing ≡ number_of r.backing → from (ranged n) ≤ from (ranged r) → upto (ranged r) ≤ upto (ranged n) → Agreed (used_of t)
    put_agreed_over A r o m e lo hi = put_agreed A (λ q P. agree_over (take count R) n r q o m e lo hi P.1 P.0)
