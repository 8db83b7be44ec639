-- ADDING A PAGE: the frame handed out is the highest-numbered free one, the answer names it, and afterwards the page is in it.
use Rattle.std.specs.Prelude.{◌≡◌, refl, ℕ, zero, suc, ◌+◌, ◌≤◌, ◌<◌, length, get_or, set, Some, None}
use Rattle.std.proofs.Common.{ap, ◌∙◌, ⊎_elim, le_refl, not-suc-le-zero, arith, eq-eqb}
use mathlib.Core.List.Memᴰ
use mathlib.Core.List.{List, [], ◌∷◌, head_d, tail, Memᴰ}
use Rattle.std.proofs.Math.ListN.{length-map}
use Rattle.lists.specs.Test.{by-test}
use Rattle.ranges.specs.Range.{Slot, line, slot_in, put, slot_at}
use Rattle.ranges.specs.Over.{put_hit}
use Rattle.book.specs.Work.{Work, next, settle, blank, add_page}
use Rattle.book.specs.Cell.{Cell, free, holds, is_at, bytes_at, frame_at, trim, vacate}
use Rattle.book.specs.Book.{Book, Answer, add, added, entry, perform, step, frame_of, free_frames, frame_in}
use Rattle.book.specs.Sound.{Sound}
use Rattle.laws.specs.Cells.{vacate_here}
use Rattle.laws.specs.State.{Spare, spare_room}
use Rattle.laws.specs.Accepted.{Accepted, accepted_step, add_rows}
use Rattle.laws.specs.Sound.{good, free_spare, pages_few}
use Rattle.laws.specs.Way.{Settled, add_page_settled}

-- ---- the frame that is taken

-- spare frames are below their bound
spare_below : (top : ℕ) (cs : List Cell) (fs : List ℕ) (g : ℕ) → Spare top cs fs → Memᴰ g fs → g < top
unfolding Spare
spare_below top cs [] g s m = absurd (Memᴰ.not-nil m)
spare_below top cs (f ∷ fs) g s m = ⊎_elim (λ e. rw e s.0) (λ k. omega (arith, spare_below f cs fs g s.2 k, s.0)) (Memᴰ.cases_cons m)

-- the first of the spare frames is free, and higher than every other
pub record First (cs : List Cell) (fs : List ℕ) (f : ℕ) : Type 0 where
  pub first : fs ≡ f ∷ tail fs
  pub small : f < length cs
  pub vacant : get_or cs f free ≡ free
  pub highest : (g : ℕ) → Memᴰ g fs → g ≤ f

spare_first : (cs : List Cell) (fs : List ℕ) (d : ℕ) → Spare (length cs) cs fs → 0 < length fs → First cs fs (head_d fs d)
unfolding Spare head_d
spare_first cs [] d s h = absurd (not-suc-le-zero h)
spare_first cs (f ∷ fs) d s h = record {
  first = refl;
  small = s.0;
  vacant = s.1;
  highest = λ g m. ⊎_elim (λ e. rw e (le_refl f)) (λ k. omega (arith, spare_below f cs fs g s.2 k)) (Memᴰ.cases_cons m);
}

-- ---- where it stands

-- a cell set at a slot that no cell is at is the slot's frame
frame_here : (s : Slot) (x : List ℕ) (cs : List Cell) (n f : ℕ) → f < length cs → bytes_at s cs ≡ None → frame_at s n (set cs f (holds s.inside s.index x)) ≡ Some (n + f)
unfolding bytes_at frame_at
frame_here s x [] n f h e = absurd (not-suc-le-zero h)
frame_here s x (c ∷ cs) n zero h e = rw (eq-eqb s.inside s.inside refl, eq-eqb s.index s.index refl) (ap Some (omega arith))
frame_here s x (free ∷ cs) n (suc f) h e = frame_here s x cs (suc n) f (omega arith) e ∙ ap Some (omega arith)
frame_here s x (holds b i y ∷ cs) n (suc f) h e =
    by-test (is_at s (holds b i y))
    (λ t. absurd (let z : Some y ≡ None = rw t at e in let u : ◌≡◌ {A = ℕ} 0 1 = cc in omega arith))
    (λ t. rw t (frame_here s x cs (suc n) f (omega arith) (rw t at e) ∙ ap Some (omega arith)))

-- the page names the frame taken
fresh_frame : (o p : ℕ) (w v : Work) → Settled o p w (blank w) v → next w < length w.cells → frame_in v.cells (slot_at (line o p) v.ranges) ≡ Some (next w)
unfolding settle
fresh_frame o p w v F h = rw F.is (rw (put_hit F.n (line o p) w.ranges F.settles.low F.settles.high) (frame_here s (blank w) (vacate s cs) 0 (next w) l (vacate_here s cs) ∙ ap Some (omega arith)))
  where
    s : Slot
    s = slot_in (line o p) F.n

    cs : List Cell
    cs = trim (put F.n w.ranges) w.cells

    l : next w < length (vacate (slot_in (line o p) F.n) (trim (put F.n w.ranges) w.cells))
    l = unfold vacate trim in simp length-map h

-- ---- A PAGE ADDED

pub record Added (b : Book) (o p : ℕ) (a : Answer) (c : Book) : Type 0 where
  pub frame : ℕ
  -- the answer is the frame, the first of those that were free
  pub is : a ≡ added frame
  pub first : First b.cells (free_frames b) frame
  -- and afterwards the page names it
  pub names : frame_of c o p ≡ Some frame

-- "The frame handed out is the highest-numbered free one"
pub add_law : (b : Book) → Sound b → (o p : ℕ) → Accepted b (add o p) → Added b o p (step b (add o p)).answer (step b (add o p)).book
unfolding perform
add_law b S o p e = rw (accepted_step b (add o p) e) (record { frame = next w; is = refl; first = one; names = named })
  where
    w : Work
    w = entry b

    one : First b.cells (free_frames b) (next (entry b))
    one = unfold entry in spare_first b.cells (free_frames b) (length b.cells) (free_spare b.cells) (add_rows b o p e).room.frames

    named : frame_of (perform b (add o p)).book o p ≡ Some (next (entry b))
    named = unfold frame_of in fresh_frame o p w (add_page o p w) (add_page_settled o p w (good b S).whole (omega (arith, (add_rows b o p e).ends, pages_few b S))) (spare_room w (good b S).whole (add_rows b o p e).room.frames)
