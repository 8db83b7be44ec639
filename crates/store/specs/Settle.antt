-- THE PAGE STEP OF A STORE: places trimmed, the slot vacated, the highest free frame placed there and taken out of the map. It is the book's `settle`.
use Rattle.std.specs.Prelude.{◌≡◌, ℕ, ◌≤◌, ◌<◌, take, drop, set, Some}
use Rattle.std.proofs.Common.{ap, ap₂, sym, ◌∙◌, arith}
use mathlib.Core.List.{List, ◌++◌, map, head_d, tail}
use Rattle.std.proofs.Math.ListN.{length}
use Rattle.std.proofs.lemmas.List.{length-map}
use Rattle.std.proofs.Math.Seq.{length_front}
use Rattle.places.specs.declared.Place.{Place}
use Rattle.store.specs.declared.Store.{Store}
use Rattle.lists.specs.Test.{by-eq, by-test}
use Rattle.ranges.specs.Range.{Range, put}
use Rattle.ranges.specs.Table.{named}
use Rattle.book.specs.Cell.{Cell, holds, trim, vacate}
use Rattle.book.specs.Work.{settle}
use Rattle.frames.specs.Free.{highest_below, spare_of, TakenOut}
use Rattle.frames.specs.Spare.{highest_found, spare_taken}
use Rattle.places.specs.Places.{place, place_at, stands_at, emptied_at}
use Rattle.pool.specs.Bytes.{frame_at}
use Rattle.table.specs.Table.{ranges_of}
use Rattle.store.specs.Abs.{used, cells_of}
use Rattle.store.specs.Trim.{kept_place}
use Rattle.store.specs.Edits.{slot, trimmed, vacated, mapped_at, settle_frame, trim_places, vacate_places}
use Rattle.store.specs.Stands.{Stay, stands_trimmed, stands_vacated, stands_beside, stands_placed}
use Rattle.store.specs.Spare.{work_of}
use Rattle.store.specs.Sound.{Stands}

abbrev pub settled : ℕ → List Range → ℕ → ℕ → ℕ → List Place → List Place
settled n rs f b i ps = set (vacated n b i (trimmed n rs ps)) f (place b i)

-- ---- lengths, and free frames

pub mapped_length : (h : Place → Place) (n : ℕ) (ps : List Place) → length (map h (take n ps) ++ drop n ps) ≡ length ps
mapped_length h n ps = length_front ps (map h (take n ps)) n (length-map (take n ps) h)

pub trimmed_length : (n : ℕ) (rs : List Range) (ps : List Place) → length (trimmed n rs ps) ≡ length ps
trimmed_length n rs ps = mapped_length (kept_place rs) n ps

pub vacated_length : (n b i : ℕ) (ps : List Place) → length (vacated n b i ps) ≡ length ps
vacated_length n b i ps = mapped_length (emptied_at b i) n ps

kept_free : (rs : List Range) (p : Place) → p.backing ≡ 0 → (kept_place rs p).backing ≡ 0
kept_free rs p e = by-test (named p.backing p.index rs) (λ t. rw t e) (λ t. rw t)

emptied_free : (b i : ℕ) (p : Place) → p.backing ≡ 0 → (emptied_at b i p).backing ≡ 0
emptied_free b i p e = by-test (stands_at b i p) (λ t. rw t) (λ t. rw t e)

module _ (n : ℕ) (rs : List Range) (f b i : ℕ) (ps : List Place) (m : n ≤ length ps) (l : f < n) where
  trim_room : n ≤ length (trimmed n rs ps)
  trim_room = omega (arith, trimmed_length n rs ps)

  free_still : (place_at ps f).backing ≡ 0 → (place_at (vacated n b i (trimmed n rs ps)) f).backing ≡ 0
  free_still e =
      ap (λ p. p.backing) (mapped_at (emptied_at b i) n (trimmed n rs ps) f trim_room l)
      ∙ emptied_free b i (place_at (trimmed n rs ps) f) (ap (λ p. p.backing) (mapped_at (kept_place rs) n ps f m l) ∙ kept_free rs (place_at ps f) e)

  -- the frames that the ranges now name stay, or the one placed stands there
  pub settle_stay : (place_at ps f).backing ≡ 0 → Stay ps (settled n rs f b i ps) n rs
  unfolding Stay
  settle_stay e c h k S =
      let r : n ≤ length (vacated n b i (trimmed n rs ps)) = omega (arith, vacated_length n b i (trimmed n rs ps), trim_room) in
      let T = stands_trimmed ps n c 0 rs m k S in
      let rest : (c ≡ b → 0 ≡ i → ⊥) → Stands (settled n rs f b i ps) n c 0 =
      λ ne. stands_beside (vacated n b i (trimmed n rs ps)) n c 0 f (place b i) h (free_still e) (stands_vacated (trimmed n rs ps) n b i c 0 trim_room ne T) in
      by-eq c b
      (λ p. by-eq 0 i
      (λ q. rw (p, q) (stands_placed (vacated n b i (trimmed n rs ps)) n b i f l r))
      (λ q. rest (λ u v. q v)))
      (λ p. rest (λ u v. p u))

  -- the cells: trimmed, the slot vacated, and the frame set there with its bytes
  pub settle_cells : (size : ℕ) (x y z : List ℕ) → 0 < b → ((k : ℕ) → (k ≡ f → ⊥) → frame_at size y k ≡ frame_at size x k) → frame_at size y f ≡ z
      → cells_of size n (settled n rs f b i ps) y ≡ set (vacate (slot b i) (trim rs (cells_of size n ps x))) f (holds b i z)
  settle_cells size x y z h e g =
      settle_frame size n (vacated n b i (trimmed n rs ps)) x y z f b i h (omega (arith, vacated_length n b i (trimmed n rs ps), trim_room)) e g
      ∙ ap (λ c. set c f (holds b i z)) (vacate_places size n (trimmed n rs ps) x b i trim_room ∙ ap (vacate (slot b i)) (trim_places size n ps x rs m))

-- ---- the state inside a call

-- what a page step of code does to the store and the pool, by its parts
pub record Settled (s t : Store) (x y : List ℕ) (n : Range) (i f : ℕ) (z : List ℕ) : Type 0 where
  pub frames : t.frames ≡ s.frames
  pub ranges : ranges_of (used t) ≡ put n (ranges_of (used s))
  pub places : t.places ≡ settled s.frames (ranges_of (used t)) f n.backing i s.places
  pub highest : highest_below s.free 1024 ≡ Some f
  pub taken : TakenOut s.free f t.free
  pub others : (k : ℕ) → (k ≡ f → ⊥) → frame_at 4096 y k ≡ frame_at 4096 x k
  pub bytes : frame_at 4096 y f ≡ z

-- it is the book's page step
pub settle_work : (s t : Store) (x y : List ℕ) (n : Range) (i f : ℕ) (z : List ℕ) → s.frames ≤ length s.places → f < s.frames → 0 < n.backing
    → Settled s t x y n i f z → work_of t y ≡ settle n i z (work_of s x)
unfolding work_of settle head_d
settle_work s t x y n i f z m l h P =
    let old : List Cell = cells_of 4096 s.frames s.places x in
    let q = highest_found s.free 1024 f P.highest in
    let nx : head_d (spare_of s.free 1024) (length old) ≡ f = ap (λ (k : List ℕ). head_d k (length old)) q.0 in
    let c : cells_of 4096 t.frames t.places y ≡ set (vacate (slot n.backing i) (trim (put n (ranges_of (used s))) old)) (head_d (spare_of s.free 1024) (length old)) (holds n.backing i z) =
    ap₂ (λ k p. cells_of 4096 k p y) P.frames P.places
    ∙ settle_cells s.frames (ranges_of (used t)) f n.backing i s.places m l 4096 x y z h P.others P.bytes
    ∙ ap₂ (λ rs g. set (vacate (slot n.backing i) (trim rs old)) g (holds n.backing i z)) P.ranges (sym nx) in
    let e : spare_of t.free 1024 ≡ tail (spare_of s.free 1024) = spare_taken s.free t.free 1024 f P.taken P.highest in
    λ j. record { size = 4096; ranges = P.ranges j; cells = c j; spare = e j }
