-- A page of a store's book: absent, private or shared, and its bytes, from what the table and the places say.
use Rattle.std.specs.Prelude.{◌≡◌, List, ℕ, ◌+◌, ◌-◌, ◌≤◌, ◌<◌, length, take, get_or, Option, Some, None}
use Rattle.std.proofs.Math.Path.{refl, sym}
use Rattle.std.proofs.Common.{lt-ltb, le-ltb}
use Rattle.pool.specs.Bytes as bytes
use Rattle.table.specs.declared.PageRange.{PageRange}
use Rattle.store.specs.declared.Store.{Store}
use Rattle.ranges.specs.Range.{line, from, slot_in, slot_at}
use Rattle.ranges.specs.Table.{holders}
use Rattle.book.specs.Work.{page_of}
use Rattle.book.specs.Need.{absent, private, shared, state_of, state_in}
use Rattle.book.specs.Book.{entry}
use Rattle.places.specs.Places.{frame_at}
use Rattle.table.specs.Table.{Table, number_of, ranged, ranged_of, range_of, ranges_of, zero_range, covering_at}
use Rattle.store.specs.Abs.{used, book_of}
use Rattle.store.specs.Located.{located, absent_there}
use Rattle.store.specs.Tabled.{covered_missing, covered_at}

module _ (s : Store) (T : Table s.ranges s.count) (n : s.frames ≤ length s.places) (o p : ℕ) (x : List ℕ) where
  abbrev g : ℕ
  g = line o p

  -- the range in slot k, and the index of the page in its backing
  abbrev at : ℕ → PageRange
  at k = get_or s.ranges k zero_range

  abbrev index : ℕ → ℕ
  index k = (at k).offset + (g - from (ranged (at k)))

  -- no range covers the page
  pub page_missing : covering_at g (ranged_of (used s)) ≡ None → page_of g (entry (book_of s x)) ≡ None
  unfolding page_of entry book_of
  page_missing e = rw (covered_missing s.ranges s.count T g e)

  -- no frame stands at its index
  pub page_hole : (k : ℕ) → covering_at g (ranged_of (used s)) ≡ Some k → frame_at (number_of (at k).backing) (index k) 0 (take s.frames s.places) ≡ None
      → page_of g (entry (book_of s x)) ≡ None
  unfolding page_of entry book_of
  page_hole k e f = rw (covered_at s.ranges s.count T g k e).slot (absent_there 4096 s.frames s.places x (number_of (at k).backing) (index k) n f).0

  -- a frame does
  pub page_there : (k f : ℕ) → covering_at g (ranged_of (used s)) ≡ Some k → frame_at (number_of (at k).backing) (index k) 0 (take s.frames s.places) ≡ Some f
      → page_of g (entry (book_of s x)) ≡ Some (bytes.frame_at 4096 x f)
  unfolding page_of entry book_of
  page_there k f e h = rw (covered_at s.ranges s.count T g k e).slot (located 4096 s.frames s.places x (number_of (at k).backing) (index k) n f h).bytes

  -- THE STATE of the page
  pub look_missing : covering_at g (ranged_of (used s)) ≡ None → absent ≡ state_of o p (entry (book_of s x))
  unfolding state_of
  look_missing e = sym (rw (page_missing e) (go (slot_at g (entry (book_of s x)).ranges)))
    where
      go : (t : Option _) → state_in (entry (book_of s x)) t None ≡ absent
      go None = refl
      go (Some y) = refl

  pub look_hole : (k : ℕ) → covering_at g (ranged_of (used s)) ≡ Some k → frame_at (number_of (at k).backing) (index k) 0 (take s.frames s.places) ≡ None
      → absent ≡ state_of o p (entry (book_of s x))
  unfolding state_of
  look_hole k e f = sym (rw (page_hole k e f) (go (slot_at g (entry (book_of s x)).ranges)))
    where
      go : (t : Option _) → state_in (entry (book_of s x)) t None ≡ absent
      go None = refl
      go (Some y) = refl

  module _ (k f : ℕ) (e : covering_at g (ranged_of (used s)) ≡ Some k) (h : frame_at (number_of (at k).backing) (index k) 0 (take s.frames s.places) ≡ Some f) where
    there : slot_at g (entry (book_of s x)).ranges ≡ Some (slot_in g (range_of (at k)))
    there = unfold entry book_of in (covered_at s.ranges s.count T g k e).slot

    pub look_shared : 1 < holders (number_of (at k).backing) (ranges_of (used s)) → shared ≡ state_of o p (entry (book_of s x))
    unfolding state_of
    look_shared l = sym (rw (page_there k f e h, there) (unfold entry book_of in rw (lt-ltb 1 (holders (number_of (at k).backing) (ranges_of (used s))) l)))

    pub look_private : holders (number_of (at k).backing) (ranges_of (used s)) ≤ 1 → private ≡ state_of o p (entry (book_of s x))
    unfolding state_of
    look_private l = sym (rw (page_there k f e h, there) (unfold entry book_of in rw (le-ltb 1 (holders (number_of (at k).backing) (ranges_of (used s))) l)))
