-- What an edit of the places or of the pool's bytes does to the cells of the book. The page size is a parameter.
use Rattle.std.specs.Prelude.{◌≡◌, refl, true, ◌&&◌, List, [], ◌∷◌, ◌++◌, map, ℕ, zero, suc, ◌+◌, ◌*◌, ◌≤◌, ◌<◌, eqb, ltb, length, get_or, take, drop, set}
use Rattle.std.proofs.Common.{ap, ◌∙◌, arith, le_of_suc-le-suc, not-suc-le-zero, get_or-set_other, get_or-set_same, get_or-take, length-take-le}
use Rattle.std.proofs.Math.Path.{ap₂, sym}
use Rattle.std.proofs.lemmas.List.{length-map}
use Rattle.std.proofs.Math.ListN.{get_or-append}
use Rattle.std.proofs.Math.Seq.{paste}
use borrow.Author.Tests.{eq-eqb, eqb-true, ne_eqb, lt-ltb, le-ltb, ltb-true}
use Rattle.places.specs.declared.Place.{Place}
use Rattle.lists.specs.Test.{by-test, by-eq, and_left, and_right}
use Rattle.lists.specs.Listed.{get_d_listed, length_listed, listed_ext, listed_map, listed_set}
use Rattle.ranges.specs.Range.{Range, Slot}
use Rattle.ranges.specs.Table.{named}
use Rattle.book.specs.Page.{over}
use Rattle.book.specs.Cell.{Cell, free, holds, kept, trim, emptied, vacate, changed, edit}
use Rattle.store.specs.Trim.{kept_place}
use Rattle.places.specs.Places.{place, nowhere, place_at, stands_at, emptied_at}
use Rattle.pool.specs.Bytes.{frame_at}
use Rattle.pool.specs.Frames.{paste_frame, paste_other}
use Rattle.store.specs.Abs.{cell_of, cells_of}

-- ---- one cell

abbrev pub slot : ℕ → ℕ → Slot
slot b i = record { inside = b; index = i }

-- a frame that stands at no backing is free in the book
pub cell_free : (p : Place) (y : List ℕ) → p.backing ≡ 0 → cell_of p y ≡ free
unfolding cell_of
cell_free p y e = rw (eq-eqb p.backing 0 e)

-- and one that stands at a backing holds its bytes
pub cell_holds : (p : Place) (y : List ℕ) → (p.backing ≡ 0 → ⊥) → cell_of p y ≡ holds p.backing p.index y
unfolding cell_of
cell_holds p y n = rw (ne_eqb p.backing 0 n)

pub cell_placed : (b i : ℕ) (y : List ℕ) → 0 < b → cell_of (place b i) y ≡ holds b i y
cell_placed b i y h = cell_holds (place b i) y (λ e. omega arith)

-- what a cell that is not free says of the frame's place and bytes
pub cell_place : (p : Place) (z : List ℕ) (b i : ℕ) (y : List ℕ) → cell_of p z ≡ holds b i y → (p.backing ≡ 0 → ⊥) × (p.backing ≡ b) × (p.index ≡ i) × (z ≡ y)
unfolding cell_of
cell_place p z b i y e =
    by-eq p.backing 0
    (λ n. absurd (let q : free ≡ holds b i y = rw (eq-eqb p.backing 0 n) at e in let u : ◌≡◌ {A = ℕ} 0 1 = cc in omega arith))
    (λ n. let q : holds p.backing p.index z ≡ holds b i y = rw (ne_eqb p.backing 0 n) at e in (n, cc, cc, cc))

-- a frame that stands at index i of backing b
pub stands_place : (b i : ℕ) (p : Place) → stands_at b i p ≡ true → (0 < p.backing) × (p.backing ≡ b) × (p.index ≡ i)
stands_place b i p s =
    let a = and_right (ltb 0 p.backing) _ s in
    (ltb-true 0 p.backing (and_left _ _ s), eqb-true p.backing b (and_left _ _ a), eqb-true p.index i (and_right (eqb p.backing b) _ a))

-- ---- all cells

module _ (size n : ℕ) (ps : List Place) (x : List ℕ) where
  -- there are as many as frames
  pub length_cells : length (cells_of size n ps x) ≡ n
  unfolding cells_of
  length_cells = length_listed (λ k. cell_of (place_at ps k) (frame_at size x k)) n

  -- the cell of frame f has its place and its bytes
  pub cell_at : (f : ℕ) → f < n → get_or (cells_of size n ps x) f free ≡ cell_of (place_at ps f) (frame_at size x f)
  unfolding cells_of
  cell_at f h = get_d_listed (λ k. cell_of (place_at ps k) (frame_at size x k)) n f free h

  -- a frame's place and bytes changed: its cell is set
  pub change_frame : (qs : List Place) (y : List ℕ) (f : ℕ) → ((k : ℕ) → k < n → (k ≡ f → ⊥) → place_at qs k ≡ place_at ps k)
      → ((k : ℕ) → k < n → (k ≡ f → ⊥) → frame_at size y k ≡ frame_at size x k)
      → cells_of size n qs y ≡ set (cells_of size n ps x) f (cell_of (place_at qs f) (frame_at size y f))
  unfolding cells_of
  change_frame qs y f e g =
      listed_set (λ k. cell_of (place_at ps k) (frame_at size x k)) (λ k. cell_of (place_at qs k) (frame_at size y k)) n f
      (λ k l ne. ap₂ cell_of (e k l ne) (g k l ne))

  -- every cell changed in one way
  pub change_all : (qs : List Place) (y : List ℕ) (k : Cell → Cell)
      → ((f : ℕ) → f < n → cell_of (place_at qs f) (frame_at size y f) ≡ k (cell_of (place_at ps f) (frame_at size x f)))
      → cells_of size n qs y ≡ map k (cells_of size n ps x)
  unfolding cells_of
  change_all qs y k e =
      listed_ext (λ f. cell_of (place_at qs f) (frame_at size y f)) (λ f. k (cell_of (place_at ps f) (frame_at size x f))) n e
      ∙ sym (listed_map k (λ f. cell_of (place_at ps f) (frame_at size x f)) n)

-- ---- places

map_at : (h : Place → Place) (l : List Place) (f : ℕ) → f < length l → place_at (map h l) f ≡ h (place_at l f)
map_at h [] f k = absurd (not-suc-le-zero k)
map_at h (p ∷ l) zero k = refl
map_at h (p ∷ l) (suc f) k = map_at h l f (le_of_suc-le-suc k)

-- the first n places mapped
pub mapped_at : (h : Place → Place) (n : ℕ) (ps : List Place) (f : ℕ) → n ≤ length ps → f < n → place_at (map h (take n ps) ++ drop n ps) f ≡ h (place_at ps f)
mapped_at h n ps f m l =
    let q : length (take n ps) ≡ n = length-take-le n ps m in
    let r : length (map h (take n ps)) ≡ n = length-map (take n ps) h ∙ q in
    get_or-append (map h (take n ps)) (drop n ps) nowhere f (omega arith)
    ∙ map_at h (take n ps) f (omega arith)
    ∙ ap h (get_or-take n ps f nowhere l)

-- all places mapped: all cells mapped
pub map_places : (size n : ℕ) (ps : List Place) (x : List ℕ) (h : Place → Place) (k : Cell → Cell) → n ≤ length ps
    → ((p : Place) (y : List ℕ) → cell_of (h p) y ≡ k (cell_of p y)) → cells_of size n (map h (take n ps) ++ drop n ps) x ≡ map k (cells_of size n ps x)
map_places size n ps x h k m e =
    change_all size n ps x (map h (take n ps) ++ drop n ps) x k
    (λ f l. ap (λ q. cell_of q (frame_at size x f)) (mapped_at h n ps f m l) ∙ e (place_at ps f) (frame_at size x f))

-- the slot vacated: what stood at index i of backing b is free
abbrev pub vacated : ℕ → ℕ → ℕ → List Place → List Place
vacated n b i ps = map (emptied_at b i) (take n ps) ++ drop n ps

emptied_cell : (b i : ℕ) (p : Place) (y : List ℕ) → cell_of (emptied_at b i p) y ≡ emptied (slot b i) (cell_of p y)
emptied_cell b i p y =
    by-eq p.backing 0
    (λ e. rw (le-ltb 0 p.backing (omega arith), cell_free p y e))
    (λ n. let h : 0 < p.backing = omega arith in
    by-test (eqb p.backing b && eqb p.index i)
    (λ t. rw (lt-ltb 0 p.backing h, t, cell_holds p y n, t) (cell_free nowhere y refl))
    (λ t. rw (lt-ltb 0 p.backing h, t, cell_holds p y n, t)))

-- the places so vacated: the slot is vacated
pub vacate_places : (size n : ℕ) (ps : List Place) (x : List ℕ) (b i : ℕ) → n ≤ length ps → cells_of size n (vacated n b i ps) x ≡ vacate (slot b i) (cells_of size n ps x)
unfolding vacate
vacate_places size n ps x b i m = map_places size n ps x (emptied_at b i) (emptied (slot b i)) m (emptied_cell b i)

-- "Entries in no holder's window go at once": a place that no range names becomes nowhere
abbrev pub trimmed : ℕ → List Range → List Place → List Place
trimmed n rs ps = map (kept_place rs) (take n ps) ++ drop n ps

kept_cell : (rs : List Range) (p : Place) (y : List ℕ) → cell_of (kept_place rs p) y ≡ kept rs (cell_of p y)
kept_cell rs p y =
    by-eq p.backing 0
    (λ e. by-test (named p.backing p.index rs)
    (λ t. rw (t, cell_free p y e))
    (λ t. rw (t, cell_free p y e) (cell_free nowhere y refl)))
    (λ n. by-test (named p.backing p.index rs)
    (λ t. rw (t, cell_holds p y n, t))
    (λ t. rw (t, cell_holds p y n, t) (cell_free nowhere y refl)))

-- the places so kept: the cells trimmed
pub trim_places : (size n : ℕ) (ps : List Place) (x : List ℕ) (rs : List Range) → n ≤ length ps → cells_of size n (trimmed n rs ps) x ≡ trim rs (cells_of size n ps x)
unfolding trim
trim_places size n ps x rs m = map_places size n ps x (kept_place rs) (kept rs) m (kept_cell rs)

-- ---- bytes of the pool

-- bytes pasted are bytes put over
pub paste_over : (z : List ℕ) (k : ℕ) (s : List ℕ) (m : ℕ) → m ≤ length s → paste z k s m ≡ over k (take m s) z
paste_over z k s m h = let l : length (take m s) ≡ m = length-take-le m s h in rw l

changed_other : (b i : ℕ) (g : List ℕ → List ℕ) (p : Place) (y : List ℕ) → (p.backing ≡ b → p.index ≡ i → ⊥) → cell_of p y ≡ changed (slot b i) g (cell_of p y)
changed_other b i g p y ne =
    by-eq p.backing 0
    (λ z. rw (cell_free p y z))
    (λ n. rw (cell_holds p y n) (by-test (eqb p.backing b && eqb p.index i)
    (λ t. absurd (ne (eqb-true p.backing b (and_left _ _ t)) (eqb-true p.index i (and_right (eqb p.backing b) _ t))))
    (λ t. rw t)))

-- of the n frames f alone stands at index i of backing b
pub record Only (n : ℕ) (ps : List Place) (f b i : ℕ) : Type 0 where
  pub below : f < n
  pub positive : 0 < b
  pub backing : (place_at ps f).backing ≡ b
  pub index : (place_at ps f).index ≡ i
  pub alone : (k : ℕ) → k < n → (place_at ps k).backing ≡ b → (place_at ps k).index ≡ i → k ≡ f

module _ (size n : ℕ) (ps : List Place) (x : List ℕ) where
  -- bytes of frame f only, and its place: its cell is what stands there
  pub settle_frame : (y z : List ℕ) (f b i : ℕ) → 0 < b → f < length ps → ((k : ℕ) → (k ≡ f → ⊥) → frame_at size y k ≡ frame_at size x k) → frame_at size y f ≡ z
      → cells_of size n (set ps f (place b i)) y ≡ set (cells_of size n ps x) f (holds b i z)
  settle_frame y z f b i h l e g =
      change_frame size n ps x (set ps f (place b i)) y f (λ k j ne. get_or-set_other ps f k (place b i) nowhere ne) (λ k j ne. e k ne)
      ∙ ap (λ c. set (cells_of size n ps x) f c) (ap₂ cell_of (get_or-set_same ps f (place b i) nowhere l) g ∙ cell_placed b i z h)

  -- bytes of frame f only, changed by g, while it alone stands at its place: the book's edit of that slot
  pub edit_frame : (y : List ℕ) (g : List ℕ → List ℕ) (f b i : ℕ) → Only n ps f b i → ((k : ℕ) → (k ≡ f → ⊥) → frame_at size y k ≡ frame_at size x k)
      → frame_at size y f ≡ g (frame_at size x f) → cells_of size n ps y ≡ edit (slot b i) g (cells_of size n ps x)
  unfolding edit
  edit_frame y g f b i O e h = change_all size n ps x ps y (changed (slot b i) g) (λ k l. by-eq k f (λ q. rw q here) (λ ne. there k l ne))
    where
      here : cell_of (place_at ps f) (frame_at size y f) ≡ changed (slot b i) g (cell_of (place_at ps f) (frame_at size x f))
      here =
          let p : Place = place_at ps f in
          let ne : p.backing ≡ 0 → ⊥ = λ z. omega (arith, O.positive, O.backing) in
          rw (cell_holds p (frame_at size y f) ne, cell_holds p (frame_at size x f) ne, eq-eqb p.backing b O.backing, eq-eqb p.index i O.index, h)

      there : (k : ℕ) → k < n → (k ≡ f → ⊥) → cell_of (place_at ps k) (frame_at size y k) ≡ changed (slot b i) g (cell_of (place_at ps k) (frame_at size x k))
      there k l ne =
          rw (e k ne) (changed_other b i g (place_at ps k) (frame_at size x k) (λ u v. ne (O.alone k l u v)))

  -- m bytes of s stored at place k of frame f
  module _ (f k : ℕ) (s : List ℕ) (m : ℕ) (inside : f * size + size ≤ length x) (fits : k + m ≤ size) (enough : m ≤ length s) where
    pub write_edit : (b i : ℕ) → Only n ps f b i → cells_of size n ps (paste x (f * size + k) s m) ≡ edit (slot b i) (over k (take m s)) (cells_of size n ps x)
    write_edit b i O =
        edit_frame (paste x (f * size + k) s m) (over k (take m s)) f b i O (paste_other size x f k s m inside fits enough)
        (paste_frame size x f k s m inside fits enough ∙ paste_over (frame_at size x f) k s m enough)
