-- The free map is the book's list of free frames, and the places give the number of frames in use.
use Rattle.std.specs.Prelude.{◌≡◌, refl, Bool, false, List, [], ◌∷◌, ℕ, zero, suc, ◌+◌, ◌/◌, ◌≤◌, eqb, length, get_or, take}
use Rattle.std.proofs.Common.{ap, sym, ◌∙◌, arith, eq-eqb, ne_eqb, lt-ltb, le-ltb}
use Rattle.std.proofs.Math.ListN.{get_or-eq_default}
use Rattle.places.specs.declared.Place.{Place}
use Rattle.store.specs.declared.Store.{Store}
use Rattle.lists.specs.Test.{pick, by-eq, by-lt}
use Rattle.lists.specs.Listed.{listed}
use Rattle.book.specs.Cell.{free_from}
use Rattle.book.specs.Work.{Work}
use Rattle.book.specs.Book.{entry, in_use}
use Rattle.frames.specs.Free.{is_free, spare_of}
use Rattle.frames.specs.Bits.{zero_bit}
use Rattle.places.specs.Places.{FreeMap, place_at, used_count, vacant_from}
use Rattle.places.specs.Map.{map_spare, map_vacant, free_and_used}
use Rattle.pool.specs.Bytes.{frame_at}
use Rattle.table.specs.Table.{ranges_of}
use Rattle.store.specs.Abs.{used, cell_of, cells_of, book_of}
use Rattle.store.specs.Sound.{Sound, Sized}
use Rattle.store.specs.Edits.{cell_free, cell_holds}

-- ---- cells and places, frame by frame

free_vacant : (y : ℕ → List ℕ) (n : ℕ) (ps : List Place) (m : ℕ) (acc : List ℕ) → n ≤ length ps
    → free_from m acc (listed (λ f. cell_of (place_at ps f) (y f)) n) ≡ vacant_from m acc (take n ps)
unfolding free_from vacant_from listed
free_vacant y zero ps m acc h = refl
free_vacant y (suc n) [] m acc h = absurd (omega arith)
free_vacant y (suc n) (p ∷ ps) m acc h =
    by-eq p.backing 0
    (λ e. rw (cell_free p (y 0) e) (free_vacant (λ f. y (suc f)) n ps (suc m) (m ∷ acc) (omega arith) ∙ ap next (sym (eq-eqb p.backing 0 e))))
    (λ e. rw (cell_holds p (y 0) e) (free_vacant (λ f. y (suc f)) n ps (suc m) acc (omega arith) ∙ ap next (sym (ne_eqb p.backing 0 e))))
  where
    next : Bool → List ℕ
    next t = vacant_from (suc m) (pick t (m ∷ acc) acc) (take n ps)

used_cells : (y : ℕ → List ℕ) (n : ℕ) (ps : List Place) → n ≤ length ps → in_use (listed (λ f. cell_of (place_at ps f) (y f)) n) ≡ used_count (take n ps)
unfolding in_use used_count listed
used_cells y zero ps h = refl
used_cells y (suc n) [] h = absurd (omega arith)
used_cells y (suc n) (p ∷ ps) h =
    let ih = used_cells (λ f. y (suc f)) n ps (omega arith) in
    by-eq p.backing 0
    (λ e. rw (cell_free p (y 0) e, le-ltb 0 p.backing (omega arith)) (omega arith))
    (λ e. rw (cell_holds p (y 0) e, lt-ltb 0 p.backing (omega arith)) (omega arith))

-- the book's free frames are those that stand at no backing
pub cells_vacant : (size n : ℕ) (ps : List Place) (x : List ℕ) → n ≤ length ps → free_from 0 [] (cells_of size n ps x) ≡ vacant_from 0 [] (take n ps)
unfolding cells_of
cells_vacant size n ps x h = free_vacant (λ f. frame_at size x f) n ps 0 [] h

-- "frames in use": those that stand at a backing
pub cells_used : (size n : ℕ) (ps : List Place) (x : List ℕ) → n ≤ length ps → in_use (cells_of size n ps x) ≡ used_count (take n ps)
unfolding cells_of
cells_used size n ps x h = used_cells (λ f. frame_at size x f) n ps h

-- ---- the free map

-- a free map of the places: its list of set bits, the highest first, is the book's free frames
pub map_cells : (size n : ℕ) (ps : List Place) (ws x : List ℕ) → n ≤ 1024 → n ≤ length ps → FreeMap n ps ws → free_from 0 [] (cells_of size n ps x) ≡ spare_of ws 1024
map_cells size n ps ws x l h m = cells_vacant size n ps x h ∙ map_vacant n ps ws m h n (omega arith) ∙ sym (map_spare n ps ws m l)

-- bits beyond the sixteen words are clear
beyond : (ws : List ℕ) (f : ℕ) → length ws ≡ 16 → 1024 ≤ f → is_free ws f ≡ false
beyond ws f h l =
    let e : get_or ws (f / 64) 0 ≡ 0 = get_or-eq_default ws 0 {n = f / 64} (omega arith) in
    ap (λ b. eqb b 1) (zero_bit ws f e)

module _ (s : Store) (Z : Sized s) (S : Sound s) where
  -- a sound store's free map is the map of its places
  pub sound_map : FreeMap s.frames s.places s.free
  sound_map = record {
    long = Z.free;
    bits = λ f. by-lt f 1024 (λ l. S.bits f l)
        (λ l. beyond s.free f Z.free l ∙ sym (rw (le-ltb f s.frames (omega (arith, S.few_frames)))));
  }

  sized_places : s.frames ≤ length s.places
  sized_places = omega (arith, Z.places, S.few_frames)

  -- THE FREE MAP IS THE BOOK'S LIST OF FREE FRAMES
  pub sound_spare : (size : ℕ) (x : List ℕ) → free_from 0 [] (cells_of size s.frames s.places x) ≡ spare_of s.free 1024
  sound_spare size x = map_cells size s.frames s.places s.free x S.few_frames sized_places sound_map

  -- "frames in use" can be counted from the places
  pub sound_used : (size : ℕ) (x : List ℕ) → in_use (cells_of size s.frames s.places x) ≡ used_count (take s.frames s.places)
  sound_used size x = cells_used size s.frames s.places x sized_places

  -- free frames and frames in use are all frames
  pub sound_count : length (spare_of s.free 1024) + used_count (take s.frames s.places) ≡ s.frames
  sound_count = free_and_used s.frames s.places s.free sound_map S.few_frames sized_places

-- ---- the state inside a call, as a store and a pool: the free map is the book's spare frames, those that the call has not taken yet

unfoldable pub work_of : Store → List ℕ → Work
work_of s x = record { size = 4096; ranges = ranges_of (used s); cells = cells_of 4096 s.frames s.places x; spare = spare_of s.free 1024 }

-- at entry it is the book's
pub entry_work : (s : Store) → Sized s → Sound s → (x : List ℕ) → entry (book_of s x) ≡ work_of s x
unfolding entry book_of work_of
entry_work s Z S x =
    ap (λ (l : List ℕ). record { size = 4096; ranges = ranges_of (used s); cells = cells_of 4096 s.frames s.places x; spare = l }) (sound_spare s Z S 4096 x)
