-- THE LAW OF PRESENCE: after every call that is not refused the pages that Presence.antt says are present, and no others.
use Rattle.std.specs.Prelude.{◌≡◌, Bool, true, false, List, [], ◌∷◌, Option, Some, None}
use Rattle.std.proofs.Math.Path.{refl, sym}
use Rattle.std.proofs.Common.{ap, ◌∙◌, arith, eqb-true}
use Prim.Native.Nat.{ℕ, suc, ◌+◌, ◌-◌, ◌/◌, ◌%◌, ◌≤◌, ◌<◌, zero-le, ◌*◌}
use Rattle.std.proofs.Math.ListN.{length}
use Rattle.lists.specs.Test.{pick, by-test}
use Rattle.ranges.specs.Range.{Slot, line, slot_at}
use Rattle.ranges.specs.Find.{Found, found}
use Rattle.book.specs.Page.{object_bytes, Span, span_of, tail_at, touched}
use Rattle.book.specs.Cell.{Cell, free, holds, is_at, bytes_at, frame_at}
use Rattle.book.specs.Work.{Work, page_of, slot_bytes, add_page}
use Rattle.book.specs.Bytes.{clear, writing}
use Rattle.book.specs.Pages.{uncover}
use Rattle.book.specs.Copy.{copying, equal_places, shadowing, zeroing}
use Rattle.book.specs.Need.{common, counted, counted_parts, state_of}
use Rattle.book.specs.Book.{Book, Call, new_object, drop_object, add, look_up, show, read, write, copy, shadow, zero_out, counts, entry, frame_in, frame_of, leave, perform, set_live, step}
use Rattle.book.specs.Presence.{is_some, Presence, presence, present, present_after, is_whole}
use Rattle.book.specs.Sound.{Sound}
use Rattle.laws.specs.State.{Good}
use Rattle.laws.specs.Accepted.{Accepted, accepted_step, new_rows, add_rows, write_rows, copy_rows, shadow_rows, zero_rows}
use Rattle.laws.specs.Cap.{counted_is}
use Rattle.laws.specs.Enough.{present_wants}
use Rattle.laws.specs.FileLaw.{all_frames, bare}
use Rattle.laws.specs.Kept.{Kept, here}
use Rattle.laws.specs.Settle.{page_none}
use Rattle.laws.specs.Sound.{good, large, pages_few}
use Rattle.laws.specs.Spans.{object_in, pages_in, whole_in}
use Rattle.laws.specs.PresentCopy.{equal_present}
use Rattle.laws.specs.Presents.{has, shared_has, Presents, Same, presents_amid, presents_none, presents_top, presented, add_present, bytes_present, clear_same, sharing_present, uncover_present, writing_present}
use Rattle.laws.specs.Zeroing.{sum, KV, head_counts, split, tail_room}

-- ---- zeroing: its whole pages are left uncovered between the clearing of its head and of its tail
module _ (o x n : ℕ) (w : Work) (G : Good w) (hs : 4096 ≤ w.size) (h : x + n ≤ 1073741824)
    (enough : counted_parts (λ q. common (state_of o q w)) w.size x n ≤ length w.spare) where
  abbrev P : Span
  P = span_of w.size x n

  abbrev t : ℕ
  t = tail_at w.size P

  -- the first whole page
  abbrev q : ℕ
  q = (x + P.head) / w.size

  -- the state after the head, and after the whole pages
  abbrev u : Work
  u = clear o x P.head w

  abbrev v : Work
  v = uncover o q P.whole u

  total : P.head + P.whole * w.size + P.tail ≡ n
  total = sum o x n w G hs h

  top : q + P.whole ≤ 262144
  top = whole_in w.size x n (omega arith) 262144 (object_in w.size x n hs h)

  head_same : Same w u
  head_same =
      clear_same o x P.head w G hs (omega (arith, total))
      (λ y e. rw (present_wants o (x / w.size) w y e) (omega (arith, split o x n w G hs h enough, head_counts o x n w G hs h)))

  tail_same : Same v (clear o (x + t) P.tail v)
  tail_same =
      let K : Kept w v = KV o x n w G hs h in
      clear_same o (x + t) P.tail v K.good (rw K.size hs) (omega (arith, total)) (tail_room o x n w G hs h enough v.size K.size)

  -- ZEROING: whole pages are absent, and no other page becomes present or absent
  pub zeroing_present : Presents o q (q + P.whole) (λ _. false) w (zeroing o x n w)
  unfolding zeroing
  zeroing_present = presents_amid o q (q + P.whole) (λ _. false) w u v (clear o (x + t) P.tail v) top head_same (uncover_present o q P.whole u top) tail_same

-- ---- what a call's work leaves, as a book

leave_presents : (b : Book) (o p q : ℕ) (f : ℕ → Bool) (v : Work) → Presents o p q f (entry b) v → Presents o p q f (entry b) (entry (leave b v))
unfolding entry page_of
leave_presents b o p q f v A = record { within = A.within; outside = A.outside }

-- from the book before a call to a state v, pages become present or absent as Presence.antt says of the call
abbrev pub Shows : Book → Call → Work → Type 0
Shows b c v = let e : Presence = presence b c in Presents e.object e.first e.past e.value (entry b) v

module _ (b : Book) (S : Sound b) where
  abbrev w : Work
  w = entry b

  G : Good w
  G = good b S

  hs : 4096 ≤ w.size
  hs = large b S

  -- no range reaches past the object's last page
  past_end : (o p : ℕ) → object_bytes / b.size ≤ p → p < 262144 → slot_at (line o p) b.ranges ≡ None
  past_end o p l h = go (slot_at (line o p) b.ranges) refl
    where
      go : (t : Option Slot) → slot_at (line o p) b.ranges ≡ t → t ≡ None
      go None k = refl
      go (Some s) k =
          let F : Found (line o p) b.ranges s = found (line o p) b.ranges s k in
          absurd (omega (arith, F.low, F.high, S.ends F.r F.mem, pages_few b S))

  absent : (o p : ℕ) → slot_at (line o p) b.ranges ≡ None → has (line o p) w ≡ false
  absent o p e = ap (λ t. is_some t) (page_none (line o p) w (unfold entry in e))

  new_shows : (o : ℕ) → Accepted b (new_object o) → Shows b (new_object o) (entry (set_live o true b))
  unfolding presence
  new_shows o e = record {
    within = λ k l m. unfold entry in absent o k (bare b S o k (new_rows b o e).1 (omega (arith, pages_few b S)));
    outside = λ o' k h c. unfold entry in refl;
  }

  drop_shows : (o : ℕ) → Shows b (drop_object o) (entry (set_live o false (leave b (uncover o 0 262144 w))))
  unfolding presence
  drop_shows o =
      unfold entry in leave_presents b o 0 (0 + object_bytes / b.size) (λ _. false) (uncover o 0 262144 w)
      (presents_top o 0 (0 + 262144) (0 + object_bytes / b.size) (λ _. false) w (uncover o 0 262144 w) (omega (arith, pages_few b S))
      (λ k l m h. A.within k zero-le m ∙ sym (absent o k (past_end o k (omega arith) h))) A)
    where
      A : Presents o 0 (0 + 262144) (λ _. false) (entry b) (uncover o 0 262144 (entry b))
      A = uncover_present o 0 262144 (entry b) (omega arith)

  add_shows : (o p : ℕ) → Accepted b (add o p) → Shows b (add o p) (entry (leave b (add_page o p w)))
  unfolding presence
  add_shows o p e =
      let A = add_rows b o p e in
      leave_presents b o p (p + 1) (λ _. true) (add_page o p w) (add_present o p w G (omega (arith, A.ends, pages_few b S)) A.room.frames)

  write_shows : (o x : ℕ) (d : List ℕ) → Accepted b (write o x d) → Shows b (write o x d) (entry (leave b (writing o x d w)))
  unfolding presence entry
  write_shows o x d e =
      let A = write_rows b o x d e in
      let c : counted o x (length d) w ≤ length w.spare = A.room.frames in
      leave_presents b o _ _ (λ _. true) (writing o x d w)
      (writing_present o x d w G hs A.ends (rw (counted_is o x (length d) w G.whole (all_frames b) c) at c))

  zero_shows : (o x n : ℕ) → Accepted b (zero_out o x n) → Shows b (zero_out o x n) (entry (leave b (zeroing o x n w)))
  unfolding presence
  zero_shows o x n e =
      let A = zero_rows b o x n e in
      leave_presents b o _ _ (λ _. false) (zeroing o x n w) (unfold entry in zeroing_present o x n w G hs A.ends A.room.frames)

  module _ (s x o y n : ℕ) (e : Accepted b (copy s x o y n)) where
    -- at equal places, and at unequal ones
    equal_shows : equal_places w.size x y ≡ true
        → Presents o (y / w.size) (y / w.size + touched w.size y n) (λ k. pick (is_whole w.size y n k) (shared_has w s (x / w.size + (k - y / w.size)) o k) true) w (copying s x o y n w)
    unfolding copying
    equal_shows t =
        let A = copy_rows b s x o y n e in
        rw t (equal_present s x o y n w G hs A.other A.begins A.ends (eqb-true (x % w.size) (y % w.size) t) (rw t at A.room.frames))

    unequal_shows : equal_places w.size x y ≡ false → Presents o (y / w.size) (y / w.size + touched w.size y n) (λ _. true) w (copying s x o y n w)
    unfolding copying
    unequal_shows t =
        let A = copy_rows b s x o y n e in
        let c : counted o y n w ≤ length w.spare = rw t at A.room.frames in
        rw t (bytes_present s x o y n w w G hs (here w G hs) A.ends (rw (counted_is o y n w G.whole (all_frames b) c) at c))

    copy_shows : Shows b (copy s x o y n) (entry (leave b (copying s x o y n w)))
    unfolding presence entry
    copy_shows =
        leave_presents b o _ _ _ (copying s x o y n w)
        (by-test (equal_places w.size x y) (λ t. rw t (equal_shows t)) (λ t. rw t (unequal_shows t)))

  shadow_shows : (s x o y n : ℕ) → Accepted b (shadow s x o y n) → Shows b (shadow s x o y n) (entry (leave b (shadowing s x o y n w)))
  unfolding presence entry shadowing
  shadow_shows s x o y n e =
      let A = (shadow_rows b s x o y n e).copied in
      let ps : 0 < b.size = omega (arith, S.large) in
      leave_presents b o _ _ _ (shadowing s x o y n w)
      (sharing_present s (x / b.size) o (y / b.size) (n / b.size) w G A.other
      (pages_in b.size x n ps 262144 (object_in b.size x n S.large A.begins)) (pages_in b.size y n ps 262144 (object_in b.size y n S.large A.ends)))

  performs : (c : Call) → Accepted b c → Shows b c (entry (perform b c).book)
  unfolding perform
  performs (new_object o) e = new_shows o e
  performs (drop_object o) e = drop_shows o
  performs (add o p) e = add_shows o p e
  performs (look_up o p) e = unfold presence in presents_none 0 0 0 (λ _. false) w w zero-le refl
  performs (show o p) e = unfold presence in presents_none 0 0 0 (λ _. false) w w zero-le refl
  performs (read o x n) e = unfold presence in presents_none 0 0 0 (λ _. false) w w zero-le refl
  performs (write o x d) e = write_shows o x d e
  performs (copy s x o y n) e = copy_shows s x o y n e
  performs (shadow s x o y n) e = shadow_shows s x o y n e
  performs (zero_out o x n) e = zero_shows o x n e
  performs counts e = unfold presence in presents_none 0 0 0 (λ _. false) w w zero-le refl

-- THE LAW OF PRESENCE: after a call that is not refused every page of every object is present exactly if Presence.antt says so
pub presence_law : (b : Book) → Sound b → (c : Call) → Accepted b c → (o p : ℕ) → p < object_bytes / b.size → present (step b c).book o p ≡ present_after b c o p
unfolding present_after
presence_law b S c e o p h =
    let f : Presence = presence b c in
    ap (λ d. present d.book o p) (accepted_step b c e)
    ∙ presented f.object f.first f.past f.value (entry b) (entry (perform b c).book) (performs b S c e) o p (omega (arith, pages_few b S))

-- ---- "present if it also has a frame"

-- bytes stand at a slot exactly if a frame does
frame_bytes : (s : Slot) (n : ℕ) (cs : List Cell) → is_some (bytes_at s cs) ≡ is_some (frame_at s n cs)
unfolding bytes_at frame_at
frame_bytes s n [] = refl
frame_bytes s n (free ∷ cs) = frame_bytes s (suc n) cs
frame_bytes s n (holds b i x ∷ cs) = by-test (is_at s (holds b i x)) (λ t. rw t) (λ t. rw t (frame_bytes s (suc n) cs))

-- a page is present exactly if it names a frame
pub present_frame : (b : Book) (o p : ℕ) → present b o p ≡ is_some (frame_of b o p)
unfolding entry page_of frame_of
present_frame b o p = go (slot_at (line o p) b.ranges)
  where
    go : (t : Option Slot) → is_some (slot_bytes b.cells t) ≡ is_some (frame_in b.cells t)
    go None = refl
    go (Some s) = frame_bytes s 0 b.cells
