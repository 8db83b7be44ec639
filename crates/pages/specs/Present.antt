-- A PAGE INSIDE A CALL, as `locate` finds it: absent, or present in a frame.
use Rattle.std.proofs.Math.Path.{◌≡◌, refl, ap, ap₂}
use Rattle.std.proofs.Common.{sym, ◌∙◌, arith}
use Rattle.std.specs.Prelude.{true, false, List, ℕ, ◌+◌, ◌*◌, ◌≤◌, ◌<◌, length, take, get_or, Option, Some, None}
use Rattle.places.specs.Places as places
use Rattle.store.specs.Located as found
use Rattle.store.specs.declared.Store.{Store}
use Rattle.look.specs.declared.Located.{Located}
use Rattle.ranges.specs.Range.{Slot, line, slot_at}
use Rattle.book.specs.Work.{Work, is_shared, own, page_of, slot_bytes, add_page, privately, writable}
use Rattle.book.specs.Need.{state_in, lacks, wants, state_of}
use Rattle.frames.specs.Free.{spare_of}
use Rattle.table.specs.Table.{Table, number_of, ranged_of, ranges_of, zero_range, covering_at}
use Rattle.places.specs.Places.{place_at}
use Rattle.pool.specs.Bytes.{frame_at}
use Rattle.book.specs.Book.{entry}
use Rattle.store.specs.Abs.{used, book_of}
use Rattle.store.specs.Edits.{slot}
use Rattle.store.specs.Spare.{work_of}
use Rattle.store.specs.Tabled.{covered_at}
use Rattle.look.specs.Look.{index_in, in_frame, in_found, located}
use Rattle.look.specs.Found.{page_is, page_located}
use Rattle.pages.specs.Inside.{Has}

-- frame f has page p of object o, with its bytes
pub record Present (s : Store) (x : List ℕ) (o p f : ℕ) : Type 0 where
  pub has : Has s o p f
  pub page : page_of (line o p) (work_of s x) ≡ Some (frame_at 4096 x f)

-- there are a frame and two slots, if the page needs them to become writable
pub record Room (s : Store) (x : List ℕ) (o p : ℕ) : Type 0 where
  pub frames : wants o p (work_of s x) ≤ length (spare_of s.free 1024)
  pub slots : s.count + 2 * wants o p (work_of s x) ≤ 512

-- there are a frame and two slots, so that any page may be added
abbrev pub HasRoom : Store → Type 0
HasRoom s = (0 < length (spare_of s.free 1024)) × (s.count + 2 ≤ 512)

-- ---- what `locate` finds

pub record Held (s : Store) (x : List ℕ) (o p : ℕ) (l : Located) : Type 0 where
  pub present : Present s x o p l.frame
  pub backing : (place_at s.places l.frame).backing ≡ l.backing

module _ (s : Store) (T : Table s.ranges s.count) (n : s.frames ≤ length s.places) (o p : ℕ) (x : List ℕ) where
  pub located_held : (l : Located) → located s (line o p) ≡ Some l → Held s x o p l
  unfolding located page_of work_of
  located_held l h = go (covering_at (line o p) (ranged_of (used s))) refl h
    where
      in_frame_lem : (k : ℕ) → covering_at (line o p) (ranged_of (used s)) ≡ Some k → (f : Option ℕ)
          → places.frame_at (number_of (get_or s.ranges k zero_range).backing) (index_in (get_or s.ranges k zero_range) (line o p)) 0 (take s.frames s.places) ≡ f
          → in_frame (number_of (get_or s.ranges k zero_range).backing) f ≡ Some l → Held s x o p l
      in_frame_lem k c None q e = absurd (let z : ◌≡◌ {A = ℕ} 0 1 = cc in omega arith)
      in_frame_lem k c (Some f) q e =
          let z : record { backing = number_of (get_or s.ranges k zero_range).backing; frame = f } ≡ l = cc in
          let C = covered_at s.ranges s.count T (line o p) k c in
          let F = found.located 4096 s.frames s.places x (number_of (get_or s.ranges k zero_range).backing) (index_in (get_or s.ranges k zero_range) (line o p)) n f q in
          rw (← z) (record {
            present = record {
              has = record {
                below = F.below;
                held = omega (arith, F.positive, F.backing);
                slot = C.slot ∙ ap₂ (λ b i. Some (slot b i)) (sym F.backing) (sym F.index);
              };
              page = rw C.slot F.bytes;
            };
            backing = F.backing;
          })

      go : (c : Option ℕ) → covering_at (line o p) (ranged_of (used s)) ≡ c → in_found s (line o p) c ≡ Some l → Held s x o p l
      go None c e = absurd (let z : ◌≡◌ {A = ℕ} 0 1 = cc in omega arith)
      go (Some k) c e = in_frame_lem k c _ refl e

  pub located_absent : located s (line o p) ≡ None → page_of (line o p) (work_of s x) ≡ None
  unfolding page_of work_of entry book_of
  located_absent e = page_located s T n o p x ∙ ap (page_is x) e

-- ---- what becomes of it

module _ (o p : ℕ) (w : Work) where
  -- absent: it is added
  pub absent_added : page_of (line o p) w ≡ None → (writable o p w ≡ add_page o p w) × (wants o p w ≡ 1)
  unfolding writable page_of wants state_of
  absent_added e = go (slot_at (line o p) w.ranges) e
    where
      go : (t : Option Slot) → slot_bytes w.cells t ≡ None → (privately o p w t (slot_bytes w.cells t) ≡ add_page o p w) × (lacks (state_in w t (slot_bytes w.cells t)) ≡ 1)
      go None h = (refl, refl)
      go (Some t) h = rw h (refl, refl)

  module _ (t : Slot) (z : List ℕ) (at : slot_at (line o p) w.ranges ≡ Some t) (page : page_of (line o p) w ≡ Some z) where
    bytes : slot_bytes w.cells (slot_at (line o p) w.ranges) ≡ Some z
    bytes = unfold page_of in page

    -- shared: it is copied
    pub shared_copied : is_shared t.inside w.ranges ≡ true → (writable o p w ≡ own o p z w) × (wants o p w ≡ 1)
    unfolding writable page_of wants state_of
    shared_copied h = rw (bytes, at, h) (refl, refl)

    -- private: it stays
    pub private_stays : is_shared t.inside w.ranges ≡ false → writable o p w ≡ w
    unfolding writable
    private_stays h = rw (bytes, at, h)

-- ---- what it needs is there

module _ (s : Store) (x : List ℕ) (o p : ℕ) (R : Room s x o p) where
  pub absent_room : page_of (line o p) (work_of s x) ≡ None → (0 < length (spare_of s.free 1024)) × (s.count + 2 ≤ 512)
  absent_room e = let W = absent_added o p (work_of s x) e in (omega (arith, W.1, R.frames), omega (arith, W.1, R.slots))

  pub shared_room : (f : ℕ) → Present s x o p f → is_shared (place_at s.places f).backing (ranges_of (used s)) ≡ true → (0 < length (spare_of s.free 1024)) × (s.count + 2 ≤ 512)
  unfolding work_of
  shared_room f H h =
      let W = shared_copied o p (work_of s x) (slot (place_at s.places f).backing (place_at s.places f).index) (frame_at 4096 x f) H.has.slot H.page h in
      (omega (arith, W.1, R.frames), omega (arith, W.1, R.slots))
