-- FRAMES THAT STAY: a page step, and an edit of a page's bytes, leave every other page in the frame that it has, with its bytes.
use Rattle.std.specs.Prelude.{◌≡◌, true, List, ℕ, ◌<◌, get_or, Option, Some, None}
use Rattle.std.proofs.Math.Path.{ap}
use Rattle.std.proofs.Common.{sym, ◌∙◌, inl, inr, arith, get_or-set_other}
use Rattle.std.proofs.Math.ListN.{get_or-map}
use Rattle.lists.specs.Test.{by-lt}
use Rattle.ranges.specs.Range.{Range, Slot, line, from, upto, slot_in, slot_at, put}
use Rattle.ranges.specs.Table.{named}
use Rattle.ranges.specs.Find.{slot_named}
use Rattle.book.specs.Cell.{Cell, free, holds, kept, trim, emptied, vacate, changed, edit}
use Rattle.book.specs.Work.{Work, next, settle, writable, edited, write_page}
use Rattle.laws.specs.Cells.{Differ, apart, holds_free}
use Rattle.laws.specs.State.{Ordered, spare_next}
use Rattle.laws.specs.Settle.{target}
use Rattle.laws.specs.Way.{Way, as_is, settled, Settles, writable_way}
use Rattle.laws.specs.PageLaw.{way_private, private_differ}
use Rattle.laws.specs.Numbers.{way_others}

-- ---- one cell, of a frame that holds index i of backing b with the bytes x
module _ (cs : List Cell) (f b i : ℕ) (x : List ℕ) (e : get_or cs f free ≡ holds b i x) where
  -- trimming keeps it where a range names it
  trim_frame : (rs : List Range) → named b i rs ≡ true → get_or (trim rs cs) f free ≡ holds b i x
  unfolding trim
  trim_frame rs h = get_or-map (kept rs) cs f free ∙ ap (kept rs) e ∙ rw h

  -- vacating another slot keeps it
  vacate_frame : (s : Slot) → Differ (record { inside = b; index = i }) s → get_or (vacate s cs) f free ≡ holds b i x
  unfolding vacate
  vacate_frame s d = get_or-map (emptied s) cs f free ∙ ap (emptied s) e ∙ rw (apart s b i x d)

  -- an edit of another slot keeps it
  pub edit_frame : (s : Slot) (g : List ℕ → List ℕ) → Differ (record { inside = b; index = i }) s → get_or (edit s g cs) f free ≡ holds b i x
  unfolding edit
  edit_frame s g d = get_or-map (changed s g) cs f free ∙ ap (changed s g) e ∙ rw (apart s b i x d)

-- ---- a page step

-- another page is not at the slot where the page is settled
settles_differ : (o p : ℕ) (w : Work) (n : Range) → Settles o p w n → (g : ℕ) → (g ≡ line o p → ⊥) → (s : Slot) → slot_at g w.ranges ≡ Some s
    → Differ s (target n (slot_in (line o p) n).index)
settles_differ o p w n S g ne s h b i =
    by-lt g (from n)
    (λ l. S.others g s (inl l) h b)
    (λ l. by-lt g (upto n)
    (λ u. let k : s.index ≡ (slot_in g n).index = ap (λ t. t.index) (S.kept g s l u ne h) in ne (omega (arith, S.low)))
    (λ u. S.others g s (inr u) h b))

-- every other page is in the frame that it was in, with its bytes
pub way_frame : (o p : ℕ) (x : List ℕ) (w v : Work) → Way o p w x v → Ordered w → (g : ℕ) → (g ≡ line o p → ⊥) → (s : Slot) → slot_at g w.ranges ≡ Some s
    → (f : ℕ) (z : List ℕ) → get_or w.cells f free ≡ holds s.inside s.index z → get_or v.cells f free ≡ holds s.inside s.index z
unfolding settle
way_frame o p x w v (as_is P e) W g ne s h f z c = c
way_frame o p x w v (settled n S) W g ne s h f z c =
    let t : Slot = target n (slot_in (line o p) n).index in
    let rs : List Range = put n w.ranges in
    let m : named s.inside s.index rs ≡ true = slot_named g rs s (way_others o p x w _ (settled n S) g ne s h) in
    let k : get_or (trim rs w.cells) f free ≡ holds s.inside s.index z = trim_frame w.cells f s.inside s.index z c rs m in
    get_or-set_other (vacate t (trim rs w.cells)) (next w) f (holds t.inside t.index x) free
    (λ q. holds_free s.inside s.index z (sym c ∙ ap (λ j. get_or w.cells j free) q ∙ spare_next w W))
    ∙ vacate_frame (trim rs w.cells) f s.inside s.index z k t (settles_differ o p w n S g ne s h)

-- ---- a page written

module _ (o p : ℕ) (f : List ℕ → List ℕ) (w : Work) (W : Ordered w) (hp : p < 262144) (g : ℕ) (ne : g ≡ line o p → ⊥) (s : Slot) (h : slot_at g w.ranges ≡ Some s) where
  -- the page is made writable first, and its bytes are changed then
  abbrev made : Work
  made = writable o p w

  made_slot : slot_at g made.ranges ≡ Some s
  made_slot = way_others o p _ w made (writable_way o p w W hp) g ne s h

  -- every other page is at the slot that it was at
  pub write_slot : slot_at g (write_page o p f w).ranges ≡ Some s
  unfolding write_page
  write_slot = go (slot_at (line o p) made.ranges)
    where
      go : (t : Option Slot) → slot_at g (edited t f made).ranges ≡ Some s
      go None = made_slot
      go (Some t) = made_slot

  -- and in the frame that it was in, with its bytes
  pub write_frame : (k : ℕ) (z : List ℕ) → get_or w.cells k free ≡ holds s.inside s.index z → get_or (write_page o p f w).cells k free ≡ holds s.inside s.index z
  unfolding write_page
  write_frame k z c =
      let way = writable_way o p w W hp in
      let P = way_private o p _ w made way in
      let c' = way_frame o p _ w made way W g ne s h k z c in
      rw P.slot (edit_frame made.cells k s.inside s.index z c' (slot_in (line o p) P.r) f (private_differ o p made P g ne s made_slot))
