-- BACKING NUMBERS: "internal backing numbers are equal exactly where the backing is the same". Page steps, sharing and uncovering leave every other covered
-- page at its slot, the backing's number and the index; a page that they work on is where 01 says; a number taken anew was held by no range.
use Rattle.std.specs.Prelude.{◌≡◌, ◌⊎◌, List, ℕ, ◌+◌, ◌≤◌, ◌<◌, length, Some, None}
use Rattle.std.proofs.Math.Path.{ap}
use Rattle.std.proofs.Common.{sym, ◌∙◌, ⊎_elim, eq-eqb, ne_eqb}
use Rattle.std.proofs.Math.Logic.{inl, inr}
use native.Mathlib.Omega.{arith}
use Rattle.lists.specs.Test.{by-lt, by-eq}
use Rattle.ranges.specs.Range.{Range, Slot, line, from, upto, slot_in, slot_at}
use Rattle.ranges.specs.Table.{holders, fresh}
use Rattle.ranges.specs.Fresh.{fresh_unused, fresh_small}
use Rattle.ranges.specs.Cut.{carve_inside, carve_below}
use Rattle.ranges.proofs.Cut.{carve_above}
use Rattle.ranges.specs.Over.{put_hit}
use Rattle.ranges.proofs.Over.{put_other}
use Rattle.ranges.specs.Parts.{or_else, source}
use Rattle.ranges.proofs.Parts.{shared_in_lem, shared_out}
use Rattle.book.specs.Work.{Work, settle}
use Rattle.book.specs.Pages.{sharing, uncover}
use Rattle.book.specs.Book.{Book}
use Rattle.book.specs.Sound.{Sound}
use Rattle.laws.specs.Origin.{Origin, stayed}
use Rattle.laws.specs.State.{Ordered}
use Rattle.laws.specs.Way.{Way, as_is, settled}
use Rattle.laws.specs.SharedPages.{share_ranges}
use Rattle.laws.specs.PageLaw.{way_private}

-- ---- one page step

-- every other page that was covered is at the slot that it was at
pub way_others : (o p : ℕ) (x : List ℕ) (w v : Work) → Way o p w x v → (g : ℕ) → (g ≡ line o p → ⊥) → (s : Slot) → slot_at g w.ranges ≡ Some s → slot_at g v.ranges ≡ Some s
unfolding settle
way_others o p x w v (as_is P e) g ne s h = h
way_others o p x w v (settled n S) g ne s h =
    by-lt g (from n)
    (λ l. put_other n g w.ranges (inl l) ∙ h)
    (λ l. by-lt g (upto n)
    (λ u. put_hit n g w.ranges l u ∙ ap Some (sym (S.kept g s l u ne h)))
    (λ u. put_other n g w.ranges (inr u) ∙ h))

-- every page that is covered afterwards is at the slot that it was at, or in the range before it that was made longer over it, or in a backing that no
-- range held before
pub way_origin : (o p : ℕ) (x : List ℕ) (w v : Work) → Way o p w x v → (g : ℕ) (s : Slot) → slot_at g v.ranges ≡ Some s → Origin g w.ranges s
unfolding settle
way_origin o p x w v (as_is P e) g s h = stayed h
way_origin o p x w v (settled n S) g s h =
    by-lt g (from n)
    (λ l. stayed (sym (put_other n g w.ranges (inl l)) ∙ h))
    (λ l. by-lt g (upto n)
    (λ u. let z : slot_in g n ≡ s = same (slot_in g n) s (sym (put_hit n g w.ranges l u) ∙ h) in rw (← z) (S.origin g l u))
    (λ u. stayed (sym (put_other n g w.ranges (inr u)) ∙ h)))
  where
    same : (a b : Slot) → Some a ≡ Some b → a ≡ b
    same a b e = cc

-- where page p of object o is afterwards
pub record Numbered (o p : ℕ) (w v : Work) : Type 0 where
  pub slot : Slot
  pub is : slot_at (line o p) v.ranges ≡ Some slot
  pub origin : Origin (line o p) w.ranges slot

pub way_number : (o p : ℕ) (x : List ℕ) (w v : Work) → Way o p w x v → Numbered o p w v
way_number o p x w v way =
    let P = way_private o p x w v way in
    record { slot = slot_in (line o p) P.r; is = P.slot; origin = way_origin o p x w v way (line o p) _ P.slot }

-- ---- a number taken anew

pub record New (rs : List Range) : Type 0 where
  -- no range holds it
  pub unused : holders (fresh rs) rs ≡ 0
  -- there always is one, and it is small
  pub positive : 1 ≤ fresh rs
  pub small : fresh rs ≤ length rs + 1

pub fresh_law : (rs : List Range) → New rs
fresh_law rs = record { unused = fresh_unused rs; positive = (fresh_small rs).0; small = omega (arith, (fresh_small rs).1) }

-- of a sound book it is at most 513
pub fresh_most : (b : Book) → Sound b → fresh b.ranges ≤ 513
fresh_most b S = omega (arith, (fresh_small b.ranges).1, S.count)

-- ---- whole pages

module _ (s p o q n : ℕ) (w : Work) where
  -- a page of the destination is at the very slot of its source page where that is covered, else where it was
  pub sharing_slot : Ordered w → (j : ℕ) → j < n → slot_at (line o (q + j)) (sharing s p o q n w).ranges ≡ or_else (slot_at (line s (p + j)) w.ranges) (slot_at (line o (q + j)) w.ranges)
  unfolding sharing
  sharing_slot W j l =
      let a : source (line s p) o q (line o (q + j)) ≡ line s (p + j) = omega arith in
      ap (λ rs. slot_at (line o (q + j)) rs) (share_ranges _ w)
      ∙ shared_in_lem (line s p) o q (line s p + n) (line o (q + j)) 0 w.ranges w.ranges W.rising (omega arith) (omega arith)
      ∙ ap (λ z. or_else (slot_at z w.ranges) (slot_at (line o (q + j)) w.ranges)) a

  -- every other page is where it was
  pub sharing_others : (g : ℕ) → (g < line o q) ⊎ (line o q + n ≤ g) → slot_at g (sharing s p o q n w).ranges ≡ slot_at g w.ranges
  unfolding sharing
  sharing_others g x =
      ap (λ rs. slot_at g rs) (share_ranges _ w)
      ∙ shared_out (line s p) o q (line s p + n) g w.ranges w.ranges (⊎_elim (λ (l : g < line o q). inl l) (λ (l : line o q + n ≤ g). inr (omega arith)) x)

-- pages left uncovered are nowhere, every other page is where it was
module _ (o p n : ℕ) (w : Work) where
  pub uncover_slot : (g : ℕ) → line o p ≤ g → g < line o p + n → slot_at g (uncover o p n w).ranges ≡ None
  unfolding uncover
  uncover_slot g l u = rw (ne_eqb n 0 (λ e. omega arith)) (carve_inside (line o p) (line o p + n) g w.ranges l u)

  pub uncover_others : (g : ℕ) → (g < line o p) ⊎ (line o p + n ≤ g) → slot_at g (uncover o p n w).ranges ≡ slot_at g w.ranges
  unfolding uncover
  uncover_others g x =
      by-eq n 0
      (λ e. rw (eq-eqb n 0 e))
      (λ e. rw (ne_eqb n 0 e)
      (⊎_elim (λ (l : g < line o p). carve_below (line o p) (line o p + n) g w.ranges (omega arith) l)
      (λ (l : line o p + n ≤ g). carve_above (line o p) (line o p + n) g w.ranges (omega arith) l) x))
