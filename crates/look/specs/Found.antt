-- What `locate` finds is the book's: the page's bytes and its state.
use Rattle.std.proofs.Math.Path.{◌≡◌, refl, ap}
use mathlib.Core.List.{List, []}
use Rattle.std.specs.Prelude.{ℕ, ◌≤◌, ◌<◌, length, take, get_or, Option, Some, None}
use Rattle.std.proofs.Common.{arith, lt-ltb, le-ltb}
use Rattle.book.specs.Need as need
use Rattle.pool.specs.Bytes as bytes
use Rattle.table.specs.declared.PageRange.{PageRange}
use Rattle.store.specs.Located as found
use Rattle.store.specs.declared.Store.{Store}
use Rattle.look.specs.declared.Located.{Located}
use Rattle.look.specs.declared.State.{State}
use Rattle.look.specs.declared.State.TheVariants as state
use Rattle.lists.specs.Test.{by-lt}
use Rattle.ranges.specs.Range.{line, slot_in, slot_at}
use Rattle.ranges.specs.Table.{holders}
use Rattle.book.specs.Work.{page_of}
use Rattle.book.specs.Book.{entry, frame_in, frame_of}
use Rattle.places.specs.Places.{frame_at}
use Rattle.table.specs.Table.{Table, number_of, ranged_of, range_of, ranges_of, zero_range, covering_at}
use Rattle.store.specs.Abs.{used, cells_of, book_of}
use Rattle.store.specs.Tabled.{covered_missing, covered_at}
use Rattle.store.specs.Looked.{page_missing, page_hole, page_there, look_missing, look_hole, look_shared, look_private}
use Rattle.look.specs.Look.{index_in, in_frame, in_found, located, seen}

-- the book's state, and its page
abbrev pub state_is : State → need.State
state_is state.Absent = need.absent
state_is state.Private = need.private
state_is state.Shared = need.shared

abbrev pub page_is : List ℕ → Option Located → Option (List ℕ)
page_is x None = None
page_is x (Some l) = Some (bytes.frame_at 4096 x l.frame)

abbrev pub frame_is : Option Located → Option ℕ
frame_is None = None
frame_is (Some l) = Some l.frame

module _ (s : Store) (T : Table s.ranges s.count) (n : s.frames ≤ length s.places) (o p : ℕ) where
  abbrev g : ℕ
  g = line o p

  abbrev at : ℕ → PageRange
  at k = get_or s.ranges k zero_range

  abbrev frame : ℕ → Option ℕ
  frame k = frame_at (number_of (at k).backing) (index_in (at k) g) 0 (take s.frames s.places)

  -- THE PAGE'S BYTES
  pub page_located : (x : List ℕ) → page_of g (entry (book_of s x)) ≡ page_is x (located s g)
  unfolding located
  page_located x = go (covering_at g (ranged_of (used s))) refl
    where
      in_frame_lem : (k : ℕ) → covering_at g (ranged_of (used s)) ≡ Some k → (f : Option ℕ) → frame k ≡ f → page_of g (entry (book_of s x)) ≡ page_is x (in_frame (number_of (at k).backing) f)
      in_frame_lem k e None h = page_hole s T n o p x k e h
      in_frame_lem k e (Some f) h = page_there s T n o p x k f e h

      go : (c : Option ℕ) → covering_at g (ranged_of (used s)) ≡ c → page_of g (entry (book_of s x)) ≡ page_is x (in_found s g c)
      go None e = page_missing s T n o p x e
      go (Some k) e = in_frame_lem k e (frame k) refl

  -- ITS STATE
  pub state_located : (x : List ℕ) → state_is (seen s (located s g)) ≡ need.state_of o p (entry (book_of s x))
  unfolding located
  state_located x = go (covering_at g (ranged_of (used s))) refl
    where
      in_frame_lem : (k : ℕ) → covering_at g (ranged_of (used s)) ≡ Some k → (f : Option ℕ) → frame k ≡ f → state_is (seen s (in_frame (number_of (at k).backing) f)) ≡ need.state_of o p (entry (book_of s x))
      in_frame_lem k e None h = look_hole s T n o p x k e h
      in_frame_lem k e (Some f) h =
          by-lt 1 (holders (number_of (at k).backing) (ranges_of (used s)))
          (λ l. rw (lt-ltb 1 (holders (number_of (at k).backing) (ranges_of (used s))) l) (look_shared s T n o p x k f e h l))
          (λ l. rw (le-ltb 1 (holders (number_of (at k).backing) (ranges_of (used s))) l) (look_private s T n o p x k f e h l))

      go : (c : Option ℕ) → covering_at g (ranged_of (used s)) ≡ c → state_is (seen s (in_found s g c)) ≡ need.state_of o p (entry (book_of s x))
      go None e = look_missing s T n o p x e
      go (Some k) e = in_frame_lem k e (frame k) refl

  -- ITS FRAME
  pub frame_located : (x : List ℕ) → frame_of (book_of s x) o p ≡ frame_is (located s g)
  unfolding located frame_of book_of
  frame_located x = go (covering_at g (ranged_of (used s))) refl
    where
      in_frame_lem : (k : ℕ) → slot_at g (ranges_of (used s)) ≡ Some (slot_in g (range_of (at k))) → (f : Option ℕ) → frame k ≡ f
          → frame_in (cells_of 4096 s.frames s.places x) (slot_at g (ranges_of (used s))) ≡ frame_is (in_frame (number_of (at k).backing) f)
      in_frame_lem k e None h = rw e (found.absent_there 4096 s.frames s.places x (number_of (at k).backing) (index_in (at k) g) n h).1
      in_frame_lem k e (Some f) h = rw e (found.located 4096 s.frames s.places x (number_of (at k).backing) (index_in (at k) g) n f h).frame

      go : (c : Option ℕ) → covering_at g (ranged_of (used s)) ≡ c → frame_in (cells_of 4096 s.frames s.places x) (slot_at g (ranges_of (used s))) ≡ frame_is (in_found s g c)
      go None e = rw (covered_missing s.ranges s.count T g e)
      go (Some k) e = in_frame_lem k (covered_at s.ranges s.count T g k e).slot (frame k) refl

  -- a frame of the store
  pub located_below : (l : Located) → located s g ≡ Some l → l.frame < s.frames
  unfolding located
  located_below l h = go (covering_at g (ranged_of (used s))) h
    where
      in_frame_lem : (k : ℕ) (f : Option ℕ) → frame k ≡ f → in_frame (number_of (at k).backing) f ≡ Some l → l.frame < s.frames
      in_frame_lem k None q e = absurd (let z : ◌≡◌ {A = ℕ} 0 1 = cc in omega arith)
      in_frame_lem k (Some f) q e =
          let z : record { backing = number_of (at k).backing; frame = f } ≡ l = cc in
          let b = (found.located 4096 s.frames s.places [] (number_of (at k).backing) (index_in (at k) g) n f q).below in
          omega (arith, ap (λ w. w.frame) z)

      go : (c : Option ℕ) → in_found s g c ≡ Some l → l.frame < s.frames
      go None e = absurd (let z : ◌≡◌ {A = ℕ} 0 1 = cc in omega arith)
      go (Some k) e = in_frame_lem k (frame k) refl e
