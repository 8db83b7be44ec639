-- What a call that is not refused has: store and pool inside a call, and room for its pages.
use Rattle.std.specs.Prelude.{◌≡◌, List, ℕ, ◌+◌, ◌*◌, ◌/◌, ◌≤◌, ◌<◌}
use Rattle.std.proofs.Math.Path.{ap}
use Rattle.std.proofs.Common.{◌∙◌, arith}
use Rattle.std.proofs.Math.ListN.{length}
use Rattle.store.specs.declared.Store.{Store}
use Rattle.book.specs.Page.{touched}
use Rattle.book.specs.Work.{Work}
use Rattle.book.specs.Need.{wanted, counted}
use Rattle.book.specs.Book.{add, read, write, entry}
use Rattle.laws.specs.Accepted.{add_rows, read_rows, write_rows}
use Rattle.laws.specs.Sound.{good}
use Rattle.laws.specs.FileLaw.{all_frames}
use Rattle.laws.specs.Cap.{counted_is}
use Rattle.table.specs.Table.{Table}
use Rattle.table.specs.Holding.{ranges_length}
use Rattle.frames.specs.Free.{spare_of}
use Rattle.store.specs.Abs.{book_of}
use Rattle.store.specs.Sound.{Sound, Sized}
use Rattle.store.specs.Good.{sound_book, sound_table}
use Rattle.store.specs.Spare.{work_of, entry_work}
use Rattle.refusals.specs.Refuse.{refusal}
use Rattle.calls.specs.Kept.{with_sound, with_accepted}
use Rattle.pages.specs.Inside.{Inside}
use Rattle.pages.specs.Enter.{enter}
use Rattle.writes.specs.Turn.{want_at}
use Rattle.writes.specs.Written.{Room}

module _ (s : Store) (x : List ℕ) (Z : Sized s) where
  -- the book's spare frames and ranges are the store's
  pub spare_count : Sound s → length (entry (book_of s x)).spare ≡ length (spare_of s.free 1024)
  spare_count S = unfold work_of in ap (λ (w : Work). length w.spare) (entry_work s Z S x)

  pub range_count : Sound s → length (entry (book_of s x)).ranges ≡ s.count
  unfolding entry book_of
  range_count S = ranges_length s.ranges s.count (omega (arith, Z.ranges, S.few_ranges))

  pub add_enters : (o p : ℕ) → 0 ≡ refusal s x (add o p) → Inside s x × (p < 262144) × (0 < length (spare_of s.free 1024)) × (s.count + 2 ≤ 512)
  unfolding book_of
  add_enters o p r =
      let S = with_sound (add o p) s x r in
      let A = add_rows (book_of s x) o p (with_accepted (add o p) s x r) in
      (enter s Z S x A.pool, A.ends, omega (arith, spare_count S, A.room.frames), omega (arith, range_count S, A.room.slots))

  pub read_enters : (o off n : ℕ) → 0 ≡ refusal s x (read o off n)
      → (Table s.ranges s.count × (s.frames ≤ 1024) × (length s.places ≡ 1024) × (length x ≡ s.frames * 4096)) × (off + n ≤ 1073741824)
  unfolding book_of
  read_enters o off n r =
      let S = with_sound (read o off n) s x r in
      let A = read_rows (book_of s x) o off n (with_accepted (read o off n) s x r) in
      ((sound_table s Z S, S.few_frames, Z.places, A.0), A.2)

  -- the pages counted are those that the write wants
  pub want_count : (o off n : ℕ) (S : Sound s) → length x ≡ s.frames * 4096 → counted o off n (entry (book_of s x)) ≤ length (entry (book_of s x)).spare
      → counted o off n (entry (book_of s x)) ≡ want_at o off n (work_of s x)
  unfolding work_of
  want_count o off n S l h =
      let G = good (book_of s x) (sound_book s Z S x (omega arith)) in
      counted_is o off n (entry (book_of s x)) G.whole (all_frames (book_of s x)) h
      ∙ ap (λ (w : Work). wanted (touched w.size off n) o (off / w.size) w) (entry_work s Z S x)

  pub write_enters : (o off : ℕ) (d : List ℕ) → 0 ≡ refusal s x (write o off d) → Room s x o off (length d)
  unfolding book_of
  write_enters o off d r =
      let S = with_sound (write o off d) s x r in
      let A = write_rows (book_of s x) o off d (with_accepted (write o off d) s x r) in
      let e = want_count o off (length d) S A.pool A.room.frames in
      record {
        inside = enter s Z S x A.pool;
        ends = A.ends;
        spare = omega (arith, spare_count S, A.room.frames);
        slots = omega (arith, range_count S, A.room.slots);
      }
