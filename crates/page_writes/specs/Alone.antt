-- Inside a call no two frames stand at one place.
use Rattle.std.specs.Prelude.{◌≡◌, List, ℕ, ◌<◌, get_or}
use Rattle.std.proofs.Common.{ap₂, ◌∙◌, arith}
use Rattle.places.specs.declared.Place.{Place}
use Rattle.store.specs.declared.Store.{Store}
use Rattle.book.specs.Cell.{free, holds}
use Rattle.laws.specs.State.{Apart}
use Rattle.places.specs.Places.{place_at}
use Rattle.pool.specs.Bytes.{frame_at}
use Rattle.store.specs.Abs.{cells_of}
use Rattle.store.specs.Edits.{cell_at, cell_holds}
use Rattle.store.specs.Spare.{work_of}
use Rattle.pages.specs.Inside.{Inside}
use Rattle.lookup.specs.Charted.{Lone}

pub inside_lone : (s : Store) (x : List ℕ) → Inside s x → Lone s
unfolding work_of Apart
inside_lone s x I = record { alone = alone }
  where
    -- what the book has of a frame in use
    held : (f : ℕ) → f < s.frames → ((place_at s.places f).backing ≡ 0 → ⊥)
        → get_or (cells_of 4096 s.frames s.places x) f free ≡ holds (place_at s.places f).backing (place_at s.places f).index (frame_at 4096 x f)
    held f l ne = cell_at 4096 s.frames s.places x f l ∙ cell_holds (place_at s.places f) (frame_at 4096 x f) ne

    alone : (f g : ℕ) → g < f → f < s.frames → ((place_at s.places f).backing ≡ 0 → ⊥)
        → (place_at s.places g).backing ≡ (place_at s.places f).backing → (place_at s.places g).index ≡ (place_at s.places f).index → ⊥
    alone f g l h ne u v =
        let p : Place = place_at s.places f in
        let c : get_or (cells_of 4096 s.frames s.places x) g free ≡ holds p.backing p.index (frame_at 4096 x g) =
        held g (omega arith) (λ e. ne (omega arith)) ∙ ap₂ (λ b i. holds b i (frame_at 4096 x g)) u v in
        let e : f ≡ g = I.good.apart f g p.backing p.index (frame_at 4096 x f) (frame_at 4096 x g) (held f h ne) c in
        omega arith
