-- The count of a call's needs may stop at frames + 1 pages: it refuses exactly where the full count does, and is else the full count.
use Rattle.std.specs.Prelude.{◌≡◌, refl, ◌⊎◌, List, [], ◌∷◌, ltb, length, Some}
use Rattle.std.proofs.Common.{ap, sym, ◌∙◌, inl, inr, ⊎_elim, arith, lt-ltb}
use Prim.Native.Nat.{ℕ, zero, suc, ◌+◌, ◌/◌, ◌≤◌, ◌<◌, min, zero-le}
use Rattle.std.proofs.Math.ListN.{length-map}
use Rattle.lists.specs.Test.{by-test, by-eq, by-lt}
use Rattle.ranges.specs.Range.{Slot, line, slot_in, slot_at}
use Rattle.ranges.specs.Find.{slot_mem}
use Rattle.book.specs.Cell.{Cell, free, holds, is_at, bytes_at, vacate, free_from}
use Rattle.book.specs.Work.{Work}
use Rattle.book.specs.Page.{touched}
use Rattle.book.specs.Need.{wants, wanted, counted}
use Rattle.book.specs.Book.{in_use}
use Rattle.laws.specs.Cells.{Differ, vacate_other, vacate_free}
use Rattle.laws.specs.State.{Ordered, spare_keep}
use Rattle.laws.specs.Settle.{page_some}
use Rattle.laws.specs.PageLaw.{Alone, only}
use Rattle.laws.specs.Count.{in_use_vacate}
use Rattle.laws.specs.Enough.{Ready, ready_wants, wants_small, wants_ready}

-- a slot that holds bytes is vacated: fewer frames are in use
vacate_less : (s : Slot) (x : List ℕ) (cs : List Cell) → bytes_at s cs ≡ Some x → in_use (vacate s cs) < in_use cs
unfolding in_use vacate bytes_at
vacate_less s x [] e = absurd (let z : ◌≡◌ {A = ℕ} 0 1 = cc in omega arith)
vacate_less s x (free ∷ cs) e = vacate_less s x cs e
vacate_less s x (holds b i y ∷ cs) e =
    by-test (is_at s (holds b i y))
    (λ t. rw t (omega (arith, in_use_vacate s cs)))
    (λ t. rw t (omega (arith, vacate_less s x cs (rw t at e))))

abbrev without : Slot → Work → Work
without s w = record { size = w.size; ranges = w.ranges; cells = vacate s w.cells; spare = w.spare }

without_whole : (s : Slot) (w : Work) → Ordered w → Ordered (without s w)
without_whole s w W =
    let l : length (vacate s w.cells) ≡ length w.cells = unfold vacate in simp length-map in
    record { rising = W.rising; within = W.within; spare = rw l (spare_keep (length w.cells) w.cells (vacate s w.cells) w.spare (λ k _ e. vacate_free s w.cells k e) W.spare) }

-- where a page held alone is
abbrev home : (g : ℕ) (w : Work) → Alone g w → Slot
home g w A = slot_in g A.r

home_slot : (g : ℕ) (w : Work) → Ordered w → (A : Alone g w) → slot_at g w.ranges ≡ Some (home g w A)
home_slot g w W A = slot_mem 0 g A.r w.ranges W.rising A.mem A.low A.high

-- two pages held alone are at two slots
homes_differ : (g h : ℕ) (w : Work) → Ordered w → (A : Alone g w) (B : Alone h w) → (g ≡ h → ⊥) → Differ (home h w B) (home g w A)
homes_differ g h w W A B ne i j =
    let q = only w A.r h (home h w B) A.mem A.once (home_slot h w W B) i in
    let k : (home h w B).index ≡ (slot_in h A.r).index = ap (λ (s : Slot). s.index) q.2 in
    ne (omega (arith, q.0, A.low, j, k))

module _ (g : ℕ) (w : Work) (W : Ordered w) (R : Ready g w) where
  -- without the frame of one page that is ready, the others are still ready
  abbrev v : Work
  v = without (home g w R.alone) w

  fewer : in_use v.cells < in_use w.cells
  fewer = vacate_less (home g w R.alone) R.bytes w.cells (sym (page_some g w _ (home_slot g w W R.alone)) ∙ R.has)

  ready_still : (h : ℕ) → (g ≡ h → ⊥) → Ready h w → Ready h v
  ready_still h ne S =
      let B : Alone h w = S.alone in
      record {
        alone = record { r = B.r; mem = B.mem; low = B.low; high = B.high; once = B.once };
        bytes = S.bytes;
        has = page_some h v (home h w B) (home_slot h w W B)
            ∙ vacate_other (home g w R.alone) (home h w B) w.cells (homes_differ g h w W R.alone B ne)
            ∙ sym (page_some h w (home h w B) (home_slot h w W B)) ∙ S.has;
      }

  wants_still : (o q : ℕ) → (g ≡ line o q → ⊥) → wants o q v ≤ wants o q w
  wants_still o q ne =
      by-eq (wants o q w) 0
      (λ e. omega (arith, ready_wants o q v (without_whole (home g w R.alone) w W) (ready_still (line o q) ne (wants_ready o q w e).0)))
      (λ e. omega (arith, wants_small o q v))

  wanted_still : (n o q : ℕ) → g < line o q → wanted n o q v ≤ wanted n o q w
  unfolding wanted
  wanted_still zero o q l = zero-le
  wanted_still (suc n) o q l = omega (arith, wants_still o q (λ e. omega arith), wanted_still n o (suc q) (omega arith))

-- of n pages those that are not wanted have a frame each
pub wanted_rest : (n o p : ℕ) (w : Work) → Ordered w → n ≤ wanted n o p w + in_use w.cells
unfolding wanted
wanted_rest zero o p w W = zero-le
wanted_rest (suc n) o p w W =
    by-eq (wants o p w) 0
    (λ e. let R = (wants_ready o p w e).0 in
    omega (
      arith,
      wanted_rest n o (suc p) (without (home (line o p) w R.alone) w) (without_whole _ w W),
      fewer (line o p) w W R,
      wanted_still (line o p) w W R n o (suc p) (omega arith),
    ))
    (λ e. omega (arith, wanted_rest n o (suc p) w W))

-- "free" and "in use" are all frames
pub free_count_lem : (k : ℕ) (acc : List ℕ) (cs : List Cell) → length (free_from k acc cs) + in_use cs ≡ length acc + length cs
unfolding free_from in_use
free_count_lem k acc [] = refl
free_count_lem k acc (free ∷ cs) = omega (arith, free_count_lem (suc k) (k ∷ acc) cs)
free_count_lem k acc (holds b i x ∷ cs) = omega (arith, free_count_lem (suc k) acc cs)

module _ (n o p : ℕ) (w : Work) (W : Ordered w) (all : length w.spare + in_use w.cells ≡ length w.cells) where
  abbrev few : ℕ
  few = min n (suc (length w.cells))

  same_or_more : (few ≡ n) ⊎ ((length w.spare < wanted few o p w) × (length w.spare < wanted n o p w))
  same_or_more =
      by-lt (suc (length w.cells)) n
      (λ l. inr (omega (arith, wanted_rest few o p w W), omega (arith, wanted_rest n o p w W)))
      (λ l. inl (omega arith))

  -- refused exactly where the full count refuses
  pub cap_refuses : ltb (length w.spare) (wanted few o p w) ≡ ltb (length w.spare) (wanted n o p w)
  cap_refuses =
      ⊎_elim (λ (e : few ≡ n). rw e)
      (λ (q : (length w.spare < wanted few o p w) × (length w.spare < wanted n o p w)). lt-ltb _ _ q.0 ∙ sym (lt-ltb _ _ q.1))
      same_or_more

  -- and else the full count
  pub cap_counts : wanted few o p w ≤ length w.spare → wanted few o p w ≡ wanted n o p w
  cap_counts h =
      ⊎_elim (λ (e : few ≡ n). rw e)
      (λ (q : (length w.spare < wanted few o p w) × (length w.spare < wanted n o p w)). absurd (omega (arith, q.0)))
      same_or_more

-- of the count in the table
module _ (o x n : ℕ) (w : Work) (W : Ordered w) (all : length w.spare + in_use w.cells ≡ length w.cells) where
  pub counted_refuses : ltb (length w.spare) (counted o x n w) ≡ ltb (length w.spare) (wanted (touched w.size x n) o (x / w.size) w)
  unfolding counted
  counted_refuses = cap_refuses (touched w.size x n) o (x / w.size) w W all

  pub counted_is : counted o x n w ≤ length w.spare → counted o x n w ≡ wanted (touched w.size x n) o (x / w.size) w
  unfolding counted
  counted_is h = cap_counts (touched w.size x n) o (x / w.size) w W all h
