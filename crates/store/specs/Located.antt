-- Where a frame is found: the search in the places answers as the book does, with the frame's bytes.
use Rattle.std.specs.Prelude.{◌≡◌, refl, true, false, List, [], ◌∷◌, ℕ, zero, suc, ◌+◌, ◌≤◌, ◌<◌, length, get_or, take, Some, None}
use Rattle.std.proofs.Common.{ap, ap₂, sym, ◌∙◌, not-suc-le-zero, arith, get_or-take, length-take-le, eq-eqb, le-ltb, lt-ltb}
use Rattle.places.specs.declared.Place.{Place}
use Rattle.places.specs.Places as places
use Rattle.book.specs.Cell as cell
use Rattle.lists.specs.Test.{by-eq}
use Rattle.ranges.specs.Range.{Slot}
use Rattle.book.specs.Cell.{Cell, free, holds, is_at, bytes_at}
use Rattle.places.specs.Places.{nowhere, place_at, stands_at}
use Rattle.places.specs.Found.{frame_found, frame_none}
use Rattle.pool.specs.Bytes.{frame_at}
use Rattle.store.specs.Abs.{cell_of, cells_of}
use Rattle.store.specs.Edits.{slot, Only, cell_at, cell_free, cell_holds, length_cells, stands_place}

-- ---- the first cell at a slot
bytes_first : (b i : ℕ) (cs : List Cell) (k : ℕ) (y : List ℕ) → get_or cs k free ≡ holds b i y → ((j : ℕ) → j < k → is_at (slot b i) (get_or cs j free) ≡ false)
    → bytes_at (slot b i) cs ≡ Some y
unfolding bytes_at
bytes_first b i [] k y e h = absurd (let z : ◌≡◌ {A = ℕ} 0 1 = cc in omega arith)
bytes_first b i (c ∷ cs) zero y e h = rw (e, eq-eqb b b refl, eq-eqb i i refl)
bytes_first b i (free ∷ cs) (suc k) y e h = bytes_first b i cs k y e (λ j l. h (suc j) (omega arith))
bytes_first b i (holds d j x ∷ cs) (suc k) y e h = rw (h 0 (omega arith)) (bytes_first b i cs k y e (λ j l. h (suc j) (omega arith)))

bytes_none : (s : Slot) (cs : List Cell) → ((j : ℕ) → j < length cs → is_at s (get_or cs j free) ≡ false) → bytes_at s cs ≡ None
unfolding bytes_at
bytes_none s [] h = refl
bytes_none s (free ∷ cs) h = bytes_none s cs (λ j l. h (suc j) (omega arith))
bytes_none s (holds d j x ∷ cs) h = rw (h 0 (omega arith)) (bytes_none s cs (λ j l. h (suc j) (omega arith)))

frame_first : (s : Slot) (n : ℕ) (cs : List Cell) (k : ℕ) → k < length cs → is_at s (get_or cs k free) ≡ true → ((j : ℕ) → j < k → is_at s (get_or cs j free) ≡ false)
    → cell.frame_at s n cs ≡ Some (n + k)
unfolding cell.frame_at
frame_first s n [] k l e h = absurd (not-suc-le-zero l)
frame_first s n (c ∷ cs) zero l e h = let z : n ≡ n + 0 = omega arith in rw e (ap Some z)
frame_first s n (c ∷ cs) (suc k) l e h =
    let z : suc n + k ≡ n + suc k = omega arith in
    rw (h 0 (omega arith)) (frame_first s (suc n) cs k (omega arith) e (λ j q. h (suc j) (omega arith)) ∙ ap Some z)

frame_no : (s : Slot) (n : ℕ) (cs : List Cell) → ((j : ℕ) → j < length cs → is_at s (get_or cs j free) ≡ false) → cell.frame_at s n cs ≡ None
unfolding cell.frame_at
frame_no s n [] h = refl
frame_no s n (c ∷ cs) h = rw (h 0 (omega arith)) (frame_no s (suc n) cs (λ j l. h (suc j) (omega arith)))

-- a cell is at a slot where its frame stands there
at_cell : (b i : ℕ) (p : Place) (y : List ℕ) → is_at (slot b i) (cell_of p y) ≡ stands_at b i p
at_cell b i p y =
    by-eq p.backing 0
    (λ e. rw (cell_free p y e, le-ltb 0 p.backing (omega arith)))
    (λ n. let h : 0 < p.backing = omega arith in rw (cell_holds p y n, lt-ltb 0 p.backing h))

-- ---- the search

-- what is known of the frame that the search finds
pub record Located (size n : ℕ) (ps : List Place) (x : List ℕ) (b i f : ℕ) : Type 0 where
  pub below : f < n
  pub positive : 0 < b
  pub backing : (place_at ps f).backing ≡ b
  pub index : (place_at ps f).index ≡ i
  pub bytes : bytes_at (slot b i) (cells_of size n ps x) ≡ Some (frame_at size x f)
  pub frame : cell.frame_at (slot b i) 0 (cells_of size n ps x) ≡ Some f

module _ (size n : ℕ) (ps : List Place) (x : List ℕ) (b i : ℕ) (m : n ≤ length ps) where
  at_frame : (j : ℕ) → j < n → is_at (slot b i) (get_or (cells_of size n ps x) j free) ≡ stands_at b i (place_at (take n ps) j)
  at_frame j l =
      ap (is_at (slot b i)) (cell_at size n ps x j l) ∙ at_cell b i (place_at ps j) (frame_at size x j)
      ∙ ap (stands_at b i) (sym (get_or-take n ps j nowhere l))

  -- the first frame that stands there
  located_first : (f : ℕ) → f < n → stands_at b i (place_at (take n ps) f) ≡ true → ((j : ℕ) → j < f → stands_at b i (place_at (take n ps) j) ≡ false) → Located size n ps x b i f
  located_first f l t h =
      let p : Place = place_at ps f in
      let s = stands_place b i p (ap (stands_at b i) (sym (get_or-take n ps f nowhere l)) ∙ t) in
      let y : List ℕ = frame_at size x f in
      let c : get_or (cells_of size n ps x) f free ≡ holds b i y =
      cell_at size n ps x f l ∙ cell_holds p y (λ z. omega (arith, s.0)) ∙ ap₂ (λ k j. holds k j y) s.1 s.2 in
      let z : 0 + f ≡ f = omega arith in
      record {
        below = l;
        positive = omega (arith, s.0, s.1);
        backing = s.1;
        index = s.2;
        bytes = bytes_first b i (cells_of size n ps x) f y c (λ j k. at_frame j (omega arith) ∙ h j k);
        frame = frame_first (slot b i) 0 (cells_of size n ps x) f (omega (arith, length_cells size n ps x)) (at_frame f l ∙ t) (λ j k. at_frame j (omega arith) ∙ h j k) ∙ ap Some z;
      }

  -- a frame is found: the page is present, with that frame's bytes
  pub located : (f : ℕ) → places.frame_at b i 0 (take n ps) ≡ Some f → Located size n ps x b i f
  located f e =
      let F = frame_found b i 0 (take n ps) f e in
      let q : f ≡ F.at = omega (arith, F.number) in
      rw q (located_first F.at (omega (arith, F.inside, length-take-le n ps m)) F.stands F.before)

  -- nothing is found: the page is absent
  pub absent_there : places.frame_at b i 0 (take n ps) ≡ None → (bytes_at (slot b i) (cells_of size n ps x) ≡ None) × (cell.frame_at (slot b i) 0 (cells_of size n ps x) ≡ None)
  absent_there e =
      let t = length-take-le n ps m in
      let c = length_cells size n ps x in
      let h : (j : ℕ) → j < length (cells_of size n ps x) → is_at (slot b i) (get_or (cells_of size n ps x) j free) ≡ false =
      λ j l. at_frame j (omega arith) ∙ frame_none b i 0 (take n ps) e j (omega arith) in
      (bytes_none (slot b i) (cells_of size n ps x) h, frame_no (slot b i) 0 (cells_of size n ps x) h)

-- ---- the only frame at its place

-- inside a call, where the book says that no two cells are at one slot
pub only_apart : (size n : ℕ) (ps : List Place) (x : List ℕ) (f b i : ℕ)
    → ((g h k j : ℕ) (y z : List ℕ) → get_or (cells_of size n ps x) g free ≡ holds k j y → get_or (cells_of size n ps x) h free ≡ holds k j z → g ≡ h)
    → f < n → 0 < b → (place_at ps f).backing ≡ b → (place_at ps f).index ≡ i → Only n ps f b i
only_apart size n ps x f b i A l h e g = record {
  below = l;
  positive = h;
  backing = e;
  index = g;
  alone = λ k j u v. A k f b i (frame_at size x k) (frame_at size x f) (at k j u v) (at f l e g);
}
  where
    at : (k : ℕ) → k < n → (place_at ps k).backing ≡ b → (place_at ps k).index ≡ i → get_or (cells_of size n ps x) k free ≡ holds b i (frame_at size x k)
    at k j u v =
        cell_at size n ps x k j ∙ cell_holds (place_at ps k) (frame_at size x k) (λ z. omega arith) ∙ ap₂ (λ c d. holds c d (frame_at size x k)) u v
