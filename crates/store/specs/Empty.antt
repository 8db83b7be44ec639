-- A store with no live name, no range and no frame in use: its book is the empty one, and it is sound.
use Rattle.std.specs.Prelude.{◌≡◌, false, List, [], ℕ, ◌%◌, ◌^◌, ◌≤◌, eqb, length, take, drop, replicate}
use Rattle.std.proofs.Common.{ap, sym, subst, ◌∙◌, arith}
use Rattle.std.proofs.Math.Nat.{zero-div}
use Rattle.table.specs.declared.PageRange.{PageRange}
use Rattle.places.specs.declared.Place.{Place}
use Rattle.store.specs.declared.Store.{Store}
use Rattle.lists.specs.Listed.{listed_ext, listed_one}
use Rattle.lists.specs.Every.{All}
use Rattle.ranges.specs.Range.{Rising}
use Rattle.book.specs.Cell.{free}
use Rattle.book.specs.Book.{empty}
use Rattle.table.specs.Table.{ranges_of, zero_range}
use Rattle.places.specs.Places.{FreeMap, place_at, nowhere}
use Rattle.pool.specs.Bytes.{frame_at}
use Rattle.store.specs.Abs.{used, cell_of, cells_of, book_of, live_bit, live_of}
use Rattle.store.specs.Sound.{Fine, Agree, Sound}
use Rattle.store.specs.Edits.{cell_free}

-- no name is live
pub live_none : live_of 0 ≡ replicate 32 false
unfolding live_of
live_none = listed_ext (live_bit 0) (λ o. false) 32 (λ o l. ap (λ z. eqb (z % 2) 1) (zero-div (2 ^ o))) ∙ listed_one false 32

-- no frame stands anywhere
pub cells_none : (size n : ℕ) (ps : List Place) (x : List ℕ) → ((f : ℕ) → place_at ps f ≡ nowhere) → cells_of size n ps x ≡ replicate n free
unfolding cells_of
cells_none size n ps x h =
    listed_ext (λ f. cell_of (place_at ps f) (frame_at size x f)) (λ f. free) n (λ f l. cell_free (place_at ps f) (frame_at size x f) (ap (λ p. p.backing) (h f)))
    ∙ listed_one free n

-- what a new store has
pub record Blank (s : Store) : Type 0 where
  pub live : s.live ≡ 0
  pub count : s.count ≡ 0
  pub ranges : All (λ r. r ≡ zero_range) s.ranges
  pub places : (f : ℕ) → place_at s.places f ≡ nowhere
  pub free : FreeMap s.frames s.places s.free

none_used : (s : Store) → Blank s → used s ≡ []
none_used s B = ap (λ c. take c s.ranges) B.count

-- "It starts empty."
pub empty_book : (s : Store) → Blank s → (x : List ℕ) → book_of s x ≡ empty 4096 s.frames (length x)
unfolding book_of empty ranges_of
empty_book s B x =
    let v : live_of s.live ≡ replicate 32 false = ap live_of B.live ∙ live_none in
    let r : ranges_of (used s) ≡ [] = ap ranges_of (none_used s B) in
    let c : cells_of 4096 s.frames s.places x ≡ replicate s.frames free = cells_none 4096 s.frames s.places x B.places in
    λ j. record { size = 4096; frames = s.frames; pool = length x; live = v j; ranges = r j; cells = c j }

-- and is sound
pub empty_sound : (s : Store) → Blank s → 1 ≤ s.frames → s.frames ≤ 1024 → Sound s
unfolding All Rising ranges_of
empty_sound s B h l =
    let u : [] ≡ used s = sym (none_used s B) in
    let at : (f : ℕ) → (place_at s.places f).backing ≡ 0 = λ f. ap (λ p. p.backing) (B.places f) in
    record {
      some_frames = h;
      few_frames = l;
      few_ranges = omega (arith, B.count);
      fine = subst (λ (k : List PageRange). All (Fine s.live s.frames s.places) k) u tt;
      order = subst (λ (k : List PageRange). Rising 0 (ranges_of k)) u tt;
      agree = subst (λ (k : List PageRange). All (λ a. All (Agree a) k) k) u tt;
      window = λ f k ne. absurd (ne (at f));
      alone = λ f g k i ne a b. ne (at f);
      rest_ranges = subst (λ (k : ℕ). All (λ r. r ≡ zero_range) (drop k s.ranges)) (sym B.count) B.ranges;
      rest_places = λ f k c. B.places f;
      bits = λ f k. B.free.bits f;
    }
