-- A STORE INSIDE A CALL stays so with any pool of the length: what `Inside` says, it says of places and ranges, not of bytes. So a step that lends no pool
-- can ask for it with a pool of zeros.
use Rattle.std.specs.Prelude.{◌≡◌, List, ℕ, ◌*◌, ◌<◌, get_or, replicate}
use Rattle.std.proofs.Math.Path.{ap}
use Rattle.std.proofs.Common.{sym, ◌∙◌, arith}
use Rattle.std.proofs.Math.ListN.{length}
use Rattle.std.proofs.lemmas.List.{length-replicate}
use Rattle.store.specs.declared.Store.{Store}
use Rattle.lists.specs.Test.{by-eq}
use Rattle.book.specs.Cell.{free, holds}
use Rattle.laws.specs.State.{Tight, Fits, Apart, Good, spare_keep}
use Rattle.laws.specs.Cells.{holds_free}
use Rattle.places.specs.Places.{place_at}
use Rattle.pool.specs.Bytes.{frame_at}
use Rattle.pool.specs.Frames.{frame_length, frames_apart}
use Rattle.store.specs.Abs.{cells_of}
use Rattle.store.specs.Edits.{cell_at, cell_free, cell_holds, length_cells}
use Rattle.store.specs.Good.{standing}
use Rattle.store.specs.Spare.{work_of}
use Rattle.pages.specs.Inside.{Inside}

-- a pool of zeros for the store's frames
abbrev pub zeros : Store → List ℕ
zeros s = replicate (s.frames * 4096) 0

module _ (s : Store) (x y : List ℕ) where
  -- a frame in use with one pool is so with the other, with that one's bytes
  held_any : (f b i : ℕ) (z : List ℕ) → get_or (cells_of 4096 s.frames s.places y) f free ≡ holds b i z
      → get_or (cells_of 4096 s.frames s.places x) f free ≡ holds b i (frame_at 4096 x f)
  held_any f b i z e =
      let p = standing 4096 s.frames s.places y f b i z e in
      cell_at 4096 s.frames s.places x f p.below ∙ rw (← p.backing, ← p.index) (cell_holds (place_at s.places f) (frame_at 4096 x f) p.held)

  -- and so is a free one
  free_any : (f : ℕ) → f < s.frames → get_or (cells_of 4096 s.frames s.places x) f free ≡ free → get_or (cells_of 4096 s.frames s.places y) f free ≡ free
  free_any f l e =
      by-eq (place_at s.places f).backing 0
      (λ z. cell_at 4096 s.frames s.places y f l ∙ cell_free (place_at s.places f) (frame_at 4096 y f) z)
      (λ ne. absurd (holds_free _ _ _ (sym (cell_holds (place_at s.places f) (frame_at 4096 x f) ne) ∙ sym (cell_at 4096 s.frames s.places x f l) ∙ e)))

  good_any : length y ≡ s.frames * 4096 → Good (work_of s x) → Good (work_of s y)
  unfolding work_of Tight Fits Apart
  good_any h G = record {
    whole = record {
      rising = G.whole.rising;
      within = G.whole.within;
      spare = rw (length_cells 4096 s.frames s.places y)
          (spare_keep s.frames (cells_of 4096 s.frames s.places x) _ _ free_any (rw (length_cells 4096 s.frames s.places x) at G.whole.spare));
    };
    tight = λ f b i z e. G.tight f b i (frame_at 4096 x f) (held_any f b i z e);
    fits = λ f b i z e. let p = standing 4096 s.frames s.places y f b i z e in
        ap length (sym p.bytes) ∙ frame_length 4096 y f (omega (arith, frames_apart 4096 f s.frames p.below));
    apart = λ f g b i z u d e. G.apart f g b i (frame_at 4096 x f) (frame_at 4096 x g) (held_any f b i z d) (held_any g b i u e);
  }

-- THE BYTES DO NOT MATTER
pub inside_any : (s : Store) (x : List ℕ) → Inside s x → (y : List ℕ) → length y ≡ length x → Inside s y
inside_any s x I y h = record {
  sized = I.sized;
  few_frames = I.few_frames;
  few_ranges = I.few_ranges;
  pool = h ∙ I.pool;
  good = good_any s x y (h ∙ I.pool) I.good;
  kinds = I.kinds;
  agree = I.agree;
  rest_ranges = I.rest_ranges;
  rest_places = I.rest_places;
}

-- so it is inside a call with a pool of zeros
pub inside_zeros : (s : Store) (x : List ℕ) → Inside s x → Inside s (zeros s)
inside_zeros s x I = inside_any s x I (zeros s) (length-replicate {A = ℕ} (s.frames * 4096) 0 ∙ sym I.pool)
