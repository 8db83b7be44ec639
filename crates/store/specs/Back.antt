-- THE WAY BACK: what a call leaves is the book's state, and a store whose book is sound is sound, with what the book does not say (kinds, unused slots, bits).
use Rattle.std.specs.Prelude.{◌≡◌, true, false, ℕ, ◌≤◌, ◌<◌, length, drop}
use Rattle.std.proofs.Common.{ap, ◌∙◌}
use Rattle.std.proofs.Math.Path.{ap₂, sym}
use Rattle.std.proofs.lemmas.Bool.{false≢true}
use mathlib.Core.List.{List, Memᴰ}
use native.Mathlib.Omega.{arith}
use Rattle.std.proofs.Math.ListN.{get_or, get_or-eq_default}
use Rattle.table.specs.declared.PageRange.{PageRange}
use Rattle.places.specs.declared.Place.{Place}
use Rattle.book.specs.Sound as bookSound
use Rattle.store.specs.declared.Store.{Store}
use Rattle.lists.specs.Test.{by-lt}
use Rattle.lists.specs.Every.{All}
use Rattle.ranges.specs.Piece.{rising_mem}
use Rattle.book.specs.Cell.{free, holds}
use Rattle.book.specs.Book.{leave}
use Rattle.table.specs.Table.{range_of, ranges_of, zero_range}
use Rattle.places.specs.Places.{FreeMap, place_at}
use Rattle.pool.specs.Bytes.{frame_at}
use Rattle.store.specs.Abs.{used, cells_of, book_of, live_of}
use Rattle.store.specs.Sound.{Fine, Kind, Sound, Sized}
use Rattle.store.specs.Members.{of_all, all_of, range_mem}
use Rattle.store.specs.Edits.{cell_at, cell_holds}
use Rattle.store.specs.Live.{live_at, live_length}
use Rattle.store.specs.Kinds.{Agreed}
use Rattle.store.specs.Spare.{work_of, sound_map}
use Rattle.store.specs.Idle.{Idle}

-- a store t, with the pool y, after the work of a call on s with the pool x: the book that the call leaves. The free map is not read
pub leave_work : (s t : Store) (x y : List ℕ) → t.frames ≡ s.frames → t.live ≡ s.live → length y ≡ length x → book_of t y ≡ leave (book_of s x) (work_of t y)
unfolding book_of work_of
leave_work s t x y e f g = λ j. record {
  size = 4096;
  frames = e j;
  pool = g j;
  live = ap live_of f j;
  ranges = ranges_of (used t);
  cells = cells_of 4096 t.frames t.places y;
}

-- what a sound book does not say of the store
pub record Besides (s : Store) : Type 0 where
  pub few_ranges : s.count ≤ 512
  pub kinds : All (λ r. Kind s.frames s.places r r.backing) (used s)
  pub agree : Agreed (used s)
  pub rest_ranges : All (λ r. r ≡ zero_range) (drop s.count s.ranges)
  pub rest_places : Idle s.frames s.places
  pub bits : FreeMap s.frames s.places s.free

-- a sound store has it
pub sound_besides : (s : Store) → Sized s → Sound s → Besides s
unfolding Idle
sound_besides s Z S = record {
  few_ranges = S.few_ranges;
  kinds = of_all (λ r. Kind s.frames s.places r r.backing) (used s) (λ q m. (all_of (Fine s.live s.frames s.places) (used s) S.fine q m).kind);
  agree = S.agree;
  rest_ranges = S.rest_ranges;
  rest_places = S.rest_places;
  bits = sound_map s Z S;
}

-- a name that is live is below 32
pub live_small : (w o : ℕ) → get_or (live_of w) o false ≡ true → o < 32
live_small w o h =
    by-lt o 32
    (λ l. l)
    (λ l. absurd (false≢true (sym (get_or-eq_default (live_of w) false {n = o} (omega (arith, live_length w))) ∙ h)))

module _ (s : Store) (x : List ℕ) (B : bookSound.Sound (book_of s x)) (K : Besides s) where
  book_fine : (q : PageRange) → Memᴰ q (used s) → Fine s.live s.frames s.places q
  unfolding book_of
  book_fine q m =
      let i = range_mem (used s) q m in
      let o = B.owned (range_of q) i in
      let l = live_small s.live q.object o in
      record {
        name = omega arith;
        live = sym (live_at s.live q.object l) ∙ o;
        long = rising_mem 0 (range_of q) (ranges_of (used s)) B.order i;
        within = omega (arith, B.ends (range_of q) i);
        kind = all_of (λ r. Kind s.frames s.places r r.backing) (used s) K.kinds q m;
      }

  held_cell : (f : ℕ) → f < s.frames → ((place_at s.places f).backing ≡ 0 → ⊥)
      → get_or (cells_of 4096 s.frames s.places x) f free ≡ holds (place_at s.places f).backing (place_at s.places f).index (frame_at 4096 x f)
  held_cell f l ne = cell_at 4096 s.frames s.places x f l ∙ cell_holds (place_at s.places f) (frame_at 4096 x f) ne

  -- no two frames at one place
  book_alone : (f g : ℕ) → g < f → f < s.frames → ((place_at s.places f).backing ≡ 0 → ⊥)
      → (place_at s.places g).backing ≡ (place_at s.places f).backing → (place_at s.places g).index ≡ (place_at s.places f).index → ⊥
  unfolding book_of
  book_alone f g l h ne u v =
      let p : Place = place_at s.places f in
      let c : get_or (cells_of 4096 s.frames s.places x) g free ≡ holds p.backing p.index (frame_at 4096 x g) =
      held_cell g (omega arith) (λ z. ne (sym u ∙ z)) ∙ ap₂ (λ k i. holds k i (frame_at 4096 x g)) u v in
      let e : g ≡ f = B.apart g f p.backing p.index (frame_at 4096 x g) (frame_at 4096 x f) c (held_cell f h ne) in
      omega arith

  -- A STORE WHOSE BOOK IS SOUND IS SOUND, with what besides must hold
  pub store_sound : Sound s
  unfolding book_of Idle
  store_sound = record {
    some_frames = B.least;
    few_frames = B.most;
    few_ranges = K.few_ranges;
    fine = of_all (Fine s.live s.frames s.places) (used s) book_fine;
    order = B.order;
    agree = K.agree;
    window = λ f l ne. B.windows f (place_at s.places f).backing (place_at s.places f).index (frame_at 4096 x f) (held_cell f l ne);
    alone = book_alone;
    rest_ranges = K.rest_ranges;
    rest_places = K.rest_places;
    bits = λ f l. K.bits.bits f;
  }
