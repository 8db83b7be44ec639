-- THE PAGE STEP `settle`: what it leaves at every page, and that it keeps the state good.
use Rattle.std.specs.Prelude.{◌≡◌, ◌⊎◌, ℕ, ◌+◌, ◌≤◌, ◌<◌, get_or, true, Option, Some, None}
use Rattle.std.proofs.Math.Path.{refl, sym}
use Rattle.std.proofs.Common.{◌∙◌, arith}
use Rattle.std.proofs.Math.Logic.{inl, inr, ⊎_elim}
use mathlib.Core.List.{List, [], ◌∷◌, head_d, tail}
use Rattle.std.proofs.Math.ListN.{length, set, length-map, length-set}
use Rattle.std.proofs.Math.Seq.{get_or-set_other}
use Rattle.ranges.specs.Range.{Range, Slot, from, upto, slot_at, put}
use Rattle.ranges.specs.Table.{named}
use Rattle.ranges.specs.Find.{named_mem, slot_named}
use Rattle.ranges.specs.Over.{put_rising, put_in}
use Rattle.ranges.proofs.Over.{put_other, put_all_lem}
use Rattle.book.specs.Cell.{Cell, free, holds, bytes_at, trim, vacate}
use Rattle.book.specs.Work.{Work, next, page_of, settle}
use Rattle.laws.specs.Cells.{Differ, trim_at, vacate_at, set_at, trim_free, vacate_free, set_other, set_here, vacate_other, vacate_here, trim_named}
use Rattle.laws.specs.State.{Spare, Ordered, Tight, Fits, Apart, spare_keep, spare_weaken, spare_next}

abbrev pub target : Range → ℕ → Slot
target n i = record { inside = n.backing; index = i }

pub page_none : (g : ℕ) (w : Work) → slot_at g w.ranges ≡ None → page_of g w ≡ None
unfolding page_of
page_none g w e = rw e

pub page_some : (g : ℕ) (w : Work) (s : Slot) → slot_at g w.ranges ≡ Some s → page_of g w ≡ bytes_at s w.cells
unfolding page_of
page_some g w s e = rw e

module _ (n : Range) (i : ℕ) (x : List ℕ) (w : Work) (W : Ordered w) where
  abbrev rs : List Range
  rs = put n w.ranges

  abbrev ds : List Cell
  ds = vacate (target n i) (trim rs w.cells)

  -- the frame that is taken is still free
  free_next : get_or ds (next w) free ≡ free
  free_next = vacate_free (target n i) (trim rs w.cells) (next w) (trim_free rs w.cells (next w) (spare_next w W))

  same_length : length ds ≡ length w.cells
  same_length = unfold vacate trim in simp length-map

  -- a slot that a page of the new table names, and that is not the page's: its bytes are what they were
  pub settle_bytes : (g : ℕ) (s : Slot) → slot_at g rs ≡ Some s → Differ s (target n i) → page_of g (settle n i x w) ≡ bytes_at s w.cells
  unfolding page_of settle
  settle_bytes g s e d =
      rw e (set_other s n.backing i x ds (next w) free_next d ∙ vacate_other (target n i) s (trim rs w.cells) d ∙ trim_named s rs w.cells (slot_named g rs s e))

  -- the page itself, while there is a frame
  pub settle_here : (g : ℕ) → slot_at g rs ≡ Some (target n i) → next w < length w.cells → page_of g (settle n i x w) ≡ Some x
  unfolding page_of settle
  settle_here g e h = rw e (set_here (target n i) x ds (next w) (rw same_length h) (vacate_here (target n i) (trim rs w.cells)))

  -- a page outside the range put in, if its slot is not the page's
  pub settle_out : (g : ℕ) → (g < from n) ⊎ (upto n ≤ g) → ((s : Slot) → slot_at g w.ranges ≡ Some s → Differ s (target n i)) → page_of g (settle n i x w) ≡ page_of g w
  settle_out g o d = go (slot_at g w.ranges) refl
    where
      go : (t : Option Slot) → slot_at g w.ranges ≡ t → page_of g (settle n i x w) ≡ page_of g w
      go None e = page_none g (settle n i x w) (unfold settle in put_other n g w.ranges o ∙ e) ∙ sym (page_none g w e)
      go (Some s) e = settle_bytes g s (put_other n g w.ranges o ∙ e) (d s e) ∙ sym (page_some g w s e)

  -- a frame in use afterwards: the one taken, or one that was in use, is in a window and at another slot
  pub settle_at : (f b j : ℕ) (y : List ℕ) → get_or (settle n i x w).cells f free ≡ holds b j y
      → ((f ≡ next w) × (holds n.backing i x ≡ holds b j y))
      ⊎ ((get_or w.cells f free ≡ holds b j y) × (named b j rs ≡ true) × Differ (record { inside = b; index = j }) (target n i))
  unfolding settle
  settle_at f b j y e =
      ⊎_elim (λ (p : (f ≡ next w) × (holds n.backing i x ≡ holds b j y)). inl p)
      (λ (q : (f ≡ next w → ⊥) × (get_or ds f free ≡ holds b j y)).
      let v = vacate_at (target n i) (trim rs w.cells) f b j y q.1 in
      let t = trim_at rs w.cells f b j y v.0 in
      inr (t.0, t.1, v.1))
      (set_at ds (next w) (holds n.backing i x) f b j y e)

  pub settle_tight : n.offset ≤ i → i < n.offset + n.len → Tight (settle n i x w)
  unfolding Tight settle
  settle_tight l u f b j y e =
      ⊎_elim
      (λ (p : (f ≡ next w) × (holds n.backing i x ≡ holds b j y)).
      let h = p.1 in
      let c : n.backing ≡ b = cc in
      let d : i ≡ j = cc in
      rw (← c, ← d) (named_mem n.backing i rs n (put_in n w.ranges) refl l u))
      (λ q. q.1)
      (settle_at f b j y e)

  pub settle_fits : length x ≡ w.size → Fits w → Fits (settle n i x w)
  unfolding Fits settle
  settle_fits l F f b j y e =
      ⊎_elim
      (λ (p : (f ≡ next w) × (holds n.backing i x ≡ holds b j y)). let h = p.1 in let c : x ≡ y = cc in rw (← c) l)
      (λ q. F f b j y q.0)
      (settle_at f b j y e)

  pub settle_apart : Apart w → Apart (settle n i x w)
  unfolding Apart
  settle_apart A f g b j y z d e = go (settle_at f b j y d) (settle_at g b j z e)
    where
      go : ((f ≡ next w) × (holds n.backing i x ≡ holds b j y)) ⊎ ((get_or w.cells f free ≡ holds b j y) × (named b j rs ≡ true) × Differ (record { inside = b; index = j }) (target n i))
          → ((g ≡ next w) × (holds n.backing i x ≡ holds b j z)) ⊎ ((get_or w.cells g free ≡ holds b j z) × (named b j rs ≡ true) × Differ (record { inside = b; index = j }) (target n i))
          → f ≡ g
      go (inl p) (inl q) = p.0 ∙ sym q.0
      go (inl p) (inr q) = let h = p.1 in absurd (q.2 (cc) (cc))
      go (inr p) (inl q) = let h = q.1 in absurd (p.2 (cc) (cc))
      go (inr p) (inr q) = A f g b j y z p.0 q.0

  settle_spare : (fs : List ℕ) → Spare (length w.cells) w.cells fs
      → Spare (length (set ds (head_d fs (length w.cells)) (holds n.backing i x))) (set ds (head_d fs (length w.cells)) (holds n.backing i x)) (tail fs)
  unfolding Spare head_d
  settle_spare [] s = tt
  settle_spare (f ∷ fs) s =
      let es : List Cell = set ds f (holds n.backing i x) in
      let m : length es ≡ length w.cells = simp length-set same_length in
      spare_weaken f (length es) es fs (omega (arith, s.0))
      (spare_keep f w.cells es fs
      (λ k o e. get_or-set_other ds f k _ free (λ z. omega arith) ∙ vacate_free (target n i) (trim rs w.cells) k (trim_free rs w.cells k e))
      s.2)

  pub settle_ordered : 0 < n.len → n.start + n.len ≤ 262144 → Ordered (settle n i x w)
  unfolding settle
  settle_ordered l k = record {
    rising = put_rising n w.ranges l W.rising;
    within = put_all_lem (λ q r P h. omega (arith, P.last)) n w.ranges k W.within;
    spare = settle_spare w.spare W.spare;
  }
