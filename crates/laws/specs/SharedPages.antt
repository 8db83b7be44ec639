-- THE LAW OF WHOLE PAGES, as bytes: after pages are shared, each page of the destination reads as its source page does, if that is covered, and
-- else as it did; every other page reads as it did. Pages left uncovered are absent; every other page reads as it did.
use Rattle.std.proofs.Math.Path.{◌≡◌, refl, sym}
use Rattle.std.proofs.Common.{ap, ◌∙◌, arith, ne_eqb, eq-eqb}
use Rattle.std.specs.Prelude.{◌⊎◌, Option, Some, None}
use Rattle.std.proofs.Math.Logic.{inl, inr, ⊎_elim}
use mathlib.Core.List.{List, [], ◌∷◌, ◌++◌, map}
use Prim.Native.Nat.{ℕ, ◌+◌, ◌-◌, ◌≤◌, ◌<◌, min, max}
use Rattle.lists.specs.Test.{by-lt, by-eq}
use Rattle.ranges.specs.Range.{Range, Slot, line, from, upto, slot_in, slot_at, carve, put}
use Rattle.ranges.specs.Cut.{slot_hit, slot_low, slot_high, carve_inside, carve_below}
use Rattle.ranges.proofs.Cut.{carve_above}
use Rattle.ranges.specs.Table.{part, parts, moved}
use Rattle.ranges.specs.Find.{slot_named}
use Rattle.ranges.proofs.Over.{put_other}
use Rattle.ranges.specs.Parts.{put_all, or_else, source, part_some, part_none}
use Rattle.ranges.proofs.Parts.{shared_in_lem}
use Rattle.book.specs.Cell.{trim}
use Rattle.book.specs.Work.{Work, slot_bytes, page_of}
use Rattle.book.specs.Pages.{with_ranges, share, sharing, uncover}
use Rattle.laws.specs.Cells.{trim_named}
use Rattle.laws.specs.State.{Ordered}
use Rattle.laws.specs.Settle.{page_some}

-- ---- a new table, and the cells trimmed by it
with_ranges_page : (rs : List Range) (w : Work) (g : ℕ) → slot_at g rs ≡ slot_at g w.ranges → page_of g (with_ranges rs w) ≡ page_of g w
unfolding page_of
with_ranges_page rs w g e = go (slot_at g w.ranges) refl
  where
    go : (t : Option Slot) → slot_at g w.ranges ≡ t → slot_bytes (trim rs w.cells) (slot_at g rs) ≡ slot_bytes w.cells (slot_at g w.ranges)
    go None f = rw (e, f)
    go (Some s) f = rw (e, f) (trim_named s rs w.cells (slot_named g rs s (e ∙ f)))

-- ---- uncovered pages

module _ (o p n : ℕ) (w : Work) where
  pub uncover_out : (g : ℕ) → (g < line o p) ⊎ (line o p + n ≤ g) → page_of g (uncover o p n w) ≡ page_of g w
  unfolding uncover
  uncover_out g x =
      by-eq n 0
      (λ e. rw (eq-eqb n 0 e))
      (λ e. rw (ne_eqb n 0 e)
      (with_ranges_page (carve (line o p) (line o p + n) w.ranges) w g
      (⊎_elim (λ (l : g < line o p). carve_below (line o p) (line o p + n) g w.ranges (omega arith) l)
      (λ (l : line o p + n ≤ g). carve_above (line o p) (line o p + n) g w.ranges (omega arith) l) x)))

  pub uncover_in : (g : ℕ) → line o p ≤ g → g < line o p + n → page_of g (uncover o p n w) ≡ None
  unfolding uncover page_of
  uncover_in g l u = rw (ne_eqb n 0 (λ e. omega arith), carve_inside (line o p) (line o p + n) g w.ranges l u)

-- ---- ranges put in one after another

-- page g is in none of them
unfoldable pub Missed : ℕ → List Range → Type 0
Missed g [] = Unit {0}
Missed g (n ∷ ns) = ((g < from n) ⊎ (upto n ≤ g)) × Missed g ns

pub share_ranges : (ns : List Range) (w : Work) → (share ns w).ranges ≡ put_all ns w.ranges
unfolding share put_all
share_ranges [] w = refl
share_ranges (n ∷ ns) w = share_ranges ns (with_ranges (put n w.ranges) w)

share_slot : (ns : List Range) (w : Work) (g : ℕ) → Missed g ns → slot_at g (share ns w).ranges ≡ slot_at g w.ranges
unfolding share Missed
share_slot [] w g m = refl
share_slot (n ∷ ns) w g m = share_slot ns (with_ranges (put n w.ranges) w) g m.1 ∙ put_other n g w.ranges m.0

share_missed : (ns : List Range) (w : Work) (g : ℕ) → Missed g ns → page_of g (share ns w) ≡ page_of g w
unfolding share Missed
share_missed [] w g m = refl
share_missed (n ∷ ns) w g m =
    share_missed ns (with_ranges (put n w.ranges) w) g m.1 ∙ with_ranges_page (put n w.ranges) w g (put_other n g w.ranges m.0)

-- which pages the parts of a table miss, moved from the line's page a to page q of object o
module _ (a o q e : ℕ) where
  one_missed : (g : ℕ) (r : Range) (ns : List Range) → (max a (from r) < min e (upto r) → (g < line o q + (max a (from r) - a)) ⊎ (line o q + (min e (upto r) - a) ≤ g))
      → Missed g (map (moved a o q) ns) → Missed g (map (moved a o q) (part a e r ++ ns))
  unfolding Missed
  one_missed g r ns f m =
      by-lt (max a (from r)) (min e (upto r))
      (λ h. rw (part_some a e r h) (
        ⊎_elim (λ (l : g < line o q + (max a (from r) - a)). inl (omega arith)) (λ (l : line o q + (min e (upto r) - a) ≤ g). inr (omega arith)) (f h),
        m,
      ))
      (λ h. rw (part_none a e r h) m)

  missed_out : (g : ℕ) (src : List Range) → (g < line o q) ⊎ (line o q + (e - a) ≤ g) → Missed g (map (moved a o q) (parts a e src))
  unfolding parts Missed
  missed_out g [] x = tt
  missed_out g (r ∷ src) x =
      one_missed g r (parts a e src)
      (λ h. ⊎_elim (λ (l : g < line o q). inl (omega arith)) (λ (l : line o q + (e - a) ≤ g). inr (omega arith)) x)
      (missed_out g src x)

  missed_hole : (g : ℕ) (src : List Range) → line o q ≤ g → slot_at (source a o q g) src ≡ None → Missed g (map (moved a o q) (parts a e src))
  unfolding parts Missed
  missed_hole g [] l z = tt
  missed_hole g (r ∷ src) l z =
      by-lt (source a o q g) (from r)
      (λ u. one_missed g r (parts a e src) (λ h. inl (omega arith)) (missed_hole g src l (sym (slot_low (source a o q g) r src u) ∙ z)))
      (λ u. by-lt (source a o q g) (upto r)
      (λ v. absurd (let c : Some (slot_in (source a o q g) r) ≡ None = sym (slot_hit (source a o q g) r src u v) ∙ z in let y : ◌≡◌ {A = ℕ} 0 1 = cc in omega arith))
      (λ v. one_missed g r (parts a e src) (λ h. inr (omega arith)) (missed_hole g src l (sym (slot_high (source a o q g) r src v) ∙ z))))

-- what a page reads as after sharing: as its source page where that is covered, else as before
abbrev pub from_source : Option Slot → Option (List ℕ) → Option (List ℕ) → Option (List ℕ)
from_source None x y = y
from_source (Some s) x y = x

module _ (s p o q n : ℕ) (w : Work) (W : Ordered w) (other : s ≡ o → ⊥) (ps : p + n ≤ 262144) (qs : q + n ≤ 262144) where
  pub sharing_out : (g : ℕ) → (g < line o q) ⊎ (line o q + n ≤ g) → page_of g (sharing s p o q n w) ≡ page_of g w
  unfolding sharing
  sharing_out g x =
      share_missed (map (moved (line s p) o q) (parts (line s p) (line s p + n) w.ranges)) w g
      (missed_out (line s p) o q (line s p + n) g w.ranges
      (⊎_elim (λ (l : g < line o q). inl l) (λ (l : line o q + n ≤ g). inr (omega arith)) x))

  pub sharing_in : (j : ℕ) → j < n
      → page_of (line o (q + j)) (sharing s p o q n w) ≡ from_source (slot_at (line s (p + j)) w.ranges) (page_of (line s (p + j)) w) (page_of (line o (q + j)) w)
  unfolding sharing
  sharing_in j l = go (slot_at (line s (p + j)) w.ranges) refl
    where
      a : ℕ
      a = line s p

      g : ℕ
      g = line o (q + j)

      h : ℕ
      h = line s (p + j)

      ns : List Range
      ns = map (moved (line s p) o q) (parts (line s p) (line s p + n) w.ranges)

      at : source (line s p) o q (line o (q + j)) ≡ line s (p + j)
      at = omega arith

      go : (t : Option Slot) → slot_at (line s (p + j)) w.ranges ≡ t
          → page_of (line o (q + j)) (share (map (moved (line s p) o q) (parts (line s p) (line s p + n) w.ranges)) w) ≡ from_source t (page_of (line s (p + j)) w) (page_of (line o (q + j)) w)
      go None e = share_missed ns w g (missed_hole (line s p) o q (line s p + n) g w.ranges (omega arith) (rw at e))
      go (Some S) e =
          let out : (h < line o q) ⊎ (line o q + ((line s p + n) - line s p) ≤ h) = by-lt s o (λ u. inl (omega arith)) (λ u. inr (omega (arith, other))) in
          let m : Missed h ns = missed_out (line s p) o q (line s p + n) h w.ranges out in
          let x : slot_at h (share ns w).ranges ≡ Some S = share_slot ns w h m ∙ e in
          let y : slot_at g (share ns w).ranges ≡ Some S =
          ap (λ rs. slot_at g rs) (share_ranges ns w)
          ∙ shared_in_lem (line s p) o q (line s p + n) g 0 w.ranges w.ranges W.rising (omega arith) (omega arith)
          ∙ ap (λ t. or_else t (slot_at g w.ranges)) (ap (λ z. slot_at z w.ranges) at ∙ e) in
          page_some g (share ns w) S y ∙ sym (page_some h (share ns w) S x) ∙ share_missed ns w h m

-- no pages: nothing to share
parts_none : (a : ℕ) (rs : List Range) → parts a (a + 0) rs ≡ []
unfolding parts
parts_none a [] = refl
parts_none a (r ∷ rs) = rw (part_none a (a + 0) r (omega arith), parts_none a rs)

pub sharing_none : (s p o q : ℕ) (w : Work) → sharing s p o q 0 w ≡ w
unfolding sharing share
sharing_none s p o q w = rw (parts_none (line s p) w.ranges)
