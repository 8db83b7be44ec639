-- A sound store stands for a sound book. Only `pages` asks for the pool's length: all else holds for any bytes x, as calls that lend no pool want it.
use Rattle.std.specs.Prelude.{◌≡◌, refl, true, false, ℕ, ◌+◌, ◌*◌, ◌≤◌, ◌<◌, zero, suc, length, get_or}
use Rattle.std.proofs.Common.{ap, ap₂, sym, ◌∙◌, arith, length-take-le, get_or-take}
use mathlib.Core.List.{List, [], ◌∷◌, Memᴰ}
use Rattle.std.proofs.Math.ListN.{get_or-eq_default}
use Rattle.table.specs.declared.PageRange.{PageRange}
use Rattle.table.specs.declared.BackingPages.{BackingPages}
use Rattle.table.specs.declared.BackingPages.TheVariants.{Nothing, Single, Many}
use Rattle.places.specs.declared.Place.{Place}
use Rattle.book.specs.Sound as bookSound
use Rattle.store.specs.declared.Store.{Store}
use Rattle.lists.specs.Test.{by-lt}
use Rattle.ranges.specs.Range.{Range, Rising}
use Rattle.ranges.specs.Table.{named}
use Rattle.ranges.specs.Reback.{rising_reback}
use Rattle.book.specs.Cell.{free, holds}
use Rattle.table.specs.Table.{number_of, ranges_of, Table, ranged_of, zero_range, Small}
use Rattle.table.specs.Holding.{ranges_length}
use Rattle.places.specs.Places.{place_at}
use Rattle.pool.specs.Bytes.{frame_at}
use Rattle.pool.specs.Frames.{frame_length, frames_apart}
use Rattle.store.specs.Abs.{used, cells_of, book_of, live_of}
use Rattle.store.specs.Sound.{Fine, Kind, Sound, Sized}
use Rattle.store.specs.Edits.{cell_at, cell_place, length_cells}
use Rattle.store.specs.Members.{all_of, range_from}
use Rattle.store.specs.Live.{live_at, live_length}
use Rattle.store.specs.Ranges.{ranges_ranged}

-- ---- ranges

-- either kind of backing has a positive number and small indexes
pub kind_small : (n : ℕ) (ps : List Place) (r : PageRange) (k : BackingPages) → Kind n ps r k → (1 ≤ number_of k) × (r.offset + r.length ≤ 1048576)
kind_small n ps r Nothing h = absurd h
kind_small n ps r (Single b) h = (h.0, omega (arith, h.1, h.2))
kind_small n ps r (Many b) h = (h.0, h.1)

-- ---- cells

-- what the book says of a frame in use is what the store says
pub record Standing (size n : ℕ) (ps : List Place) (x : List ℕ) (f k i : ℕ) (y : List ℕ) : Type 0 where
  pub below : f < n
  pub held : (place_at ps f).backing ≡ 0 → ⊥
  pub backing : (place_at ps f).backing ≡ k
  pub index : (place_at ps f).index ≡ i
  pub bytes : frame_at size x f ≡ y

pub standing : (size n : ℕ) (ps : List Place) (x : List ℕ) (f k i : ℕ) (y : List ℕ) → get_or (cells_of size n ps x) f free ≡ holds k i y → Standing size n ps x f k i y
standing size n ps x f k i y e =
    by-lt f n
    (λ l. let p = cell_place (place_at ps f) (frame_at size x f) k i y (sym (cell_at size n ps x f l) ∙ e) in
    record { below = l; held = p.0; backing = p.1; index = p.2; bytes = p.3 })
    (λ l. absurd (let c = length_cells size n ps x in
    let q : get_or (cells_of size n ps x) f free ≡ free = get_or-eq_default (cells_of size n ps x) free {n = f} (omega arith) in
    let z : ◌≡◌ {A = ℕ} 0 1 = cc in omega arith))

module _ (s : Store) (S : Sound s) where
  -- "Each range belongs to a live object"
  pub book_owned : (r : Range) → Memᴰ r (ranges_of (used s)) → get_or (live_of s.live) r.object false ≡ true
  book_owned r m =
      let F = range_from (used s) r m in
      let f = all_of (Fine s.live s.frames s.places) (used s) S.fine F.source F.mem in
      rw F.is (live_at s.live F.source.object (omega (arith, f.name)) ∙ f.live)

  -- "ends by page 262,144"
  pub book_ends : (r : Range) → Memᴰ r (ranges_of (used s)) → r.start + r.len ≤ 262144
  book_ends r m =
      let F = range_from (used s) r m in
      let f = all_of (Fine s.live s.frames s.places) (used s) S.fine F.source F.mem in
      rw F.is f.within

  -- "offset + length at most 1,048,576"; backings are numbered from 1
  pub book_indexes : (r : Range) → Memᴰ r (ranges_of (used s)) → r.offset + r.len ≤ 1048576
  book_indexes r m =
      let F = range_from (used s) r m in
      let f = all_of (Fine s.live s.frames s.places) (used s) S.fine F.source F.mem in
      rw F.is (kind_small s.frames s.places F.source F.source.backing f.kind).1

  pub book_numbered : (r : Range) → Memᴰ r (ranges_of (used s)) → 1 ≤ r.backing
  book_numbered r m =
      let F = range_from (used s) r m in
      let f = all_of (Fine s.live s.frames s.places) (used s) S.fine F.source F.mem in
      rw F.is (kind_small s.frames s.places F.source F.source.backing f.kind).0

  -- "at most 512 ranges"
  pub book_count : Sized s → length (ranges_of (used s)) ≡ s.count
  book_count Z = ranges_length s.ranges s.count (omega (arith, Z.ranges, S.few_ranges))

  module _ (size : ℕ) (x : List ℕ) where
    -- "Each vector entry lies in the window of some range that holds the vector."
    pub book_windows : (f k i : ℕ) (y : List ℕ) → get_or (cells_of size s.frames s.places x) f free ≡ holds k i y → named k i (ranges_of (used s)) ≡ true
    book_windows f k i y e =
        let p = standing size s.frames s.places x f k i y e in
        ap₂ (λ b j. named b j (ranges_of (used s))) (sym p.backing) (sym p.index) ∙ S.window f p.below p.held

    -- "no two at the same"
    pub book_apart : (f g k i : ℕ) (y z : List ℕ) → get_or (cells_of size s.frames s.places x) f free ≡ holds k i y
        → get_or (cells_of size s.frames s.places x) g free ≡ holds k i z → f ≡ g
    book_apart f g k i y z e h =
        let p = standing size s.frames s.places x f k i y e in
        let q = standing size s.frames s.places x g k i z h in
        by-lt f g
        (λ l. absurd (S.alone g f l q.below q.held (p.backing ∙ sym q.backing) (p.index ∙ sym q.index)))
        (λ l. by-lt g f
        (λ j. absurd (S.alone f g j p.below p.held (q.backing ∙ sym p.backing) (q.index ∙ sym p.index)))
        (λ j. omega arith))

    -- "a frame number and 4,096 bytes", while the pool has all frames
    pub book_pages : s.frames * size ≤ length x → (f k i : ℕ) (y : List ℕ) → get_or (cells_of size s.frames s.places x) f free ≡ holds k i y → length y ≡ size
    book_pages h f k i y e =
        let p = standing size s.frames s.places x f k i y e in
        let l = frames_apart size f s.frames p.below in
        ap length (sym p.bytes) ∙ frame_length size x f (omega arith)

-- ---- the table, as the calls that read and edit it want it

-- ranges of the book that rise do so with their backings
pub rising_ranged : (l : List PageRange) → Rising 0 (ranges_of l) → Rising 0 (ranged_of l)
rising_ranged l h = rising_reback number_of 0 (ranged_of l) (rw (← ranges_ranged l) h)

-- the range in a used slot is one of them
pub mem_at : (l : List PageRange) (i : ℕ) → i < length l → Memᴰ (get_or l i zero_range) l
mem_at [] i h = absurd (omega arith)
mem_at (r ∷ l) zero h = Memᴰ.head refl
mem_at (r ∷ l) (suc i) h = Memᴰ.tail (mem_at l i (omega arith))

-- a sound store's slots are a table
pub sound_table : (s : Store) → Sized s → Sound s → Table s.ranges s.count
sound_table s Z S = record { full = Z.ranges; few = S.few_ranges; small = small; rising = rising_ranged (used s) S.order }
  where
    small : (i : ℕ) → i < s.count → Small (get_or s.ranges i zero_range)
    small i h =
        let l : length (used s) ≡ s.count = length-take-le s.count s.ranges (omega (arith, Z.ranges, S.few_ranges)) in
        let f = all_of (Fine s.live s.frames s.places) (used s) S.fine (get_or (used s) i zero_range) (mem_at (used s) i (omega arith)) in
        let k = kind_small s.frames s.places (get_or (used s) i zero_range) (get_or (used s) i zero_range).backing f.kind in
        let m : Small (get_or (used s) i zero_range) = record { ends = f.within; indexes = k.1 } in
        rw (get_or-take s.count s.ranges i zero_range h) at m

-- A SOUND STORE STANDS FOR A SOUND BOOK
pub sound_book : (s : Store) → Sized s → Sound s → (x : List ℕ) → s.frames * 4096 ≤ length x → bookSound.Sound (book_of s x)
unfolding book_of
sound_book s Z S x h = record {
  large = omega arith;
  divides = refl;
  least = S.some_frames;
  most = S.few_frames;
  cells = length_cells 4096 s.frames s.places x;
  names = live_length s.live;
  count = omega (arith, book_count s S Z, S.few_ranges);
  owned = book_owned s S;
  order = S.order;
  ends = book_ends s S;
  indexes = book_indexes s S;
  numbered = book_numbered s S;
  windows = book_windows s S 4096 x;
  apart = book_apart s S 4096 x;
  pages = book_pages s S 4096 x h;
}
