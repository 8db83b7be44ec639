-- The pool that a call leaves, by frames: it is the book's `pool_after`. The page size is a parameter.
use Rattle.std.specs.Prelude.{◌≡◌, length}
use Rattle.std.proofs.Math.Path.{refl, ap, ap₂, sym}
use Rattle.std.proofs.Common.{◌∙◌, arith, suc-mul, drop_of_length-le, drop-drop}
use mathlib.Core.List.{List, ◌∷◌, ◌++◌}
use Prim.Native.Nat.{ℕ, zero, suc, ◌+◌, ◌*◌, ◌<◌}
use Rattle.std.proofs.Math.Nat.{zero-mul}
use Rattle.std.proofs.Math.ListN.{take, drop, take-append-drop}
use Rattle.places.specs.declared.Place.{Place}
use Rattle.lists.specs.Test.{by-eq}
use Rattle.lists.specs.Listed.{listed, listed_ext}
use Rattle.book.specs.Cell.{Cell}
use Rattle.book.specs.Book.{pool_after}
use Rattle.places.specs.Places.{place_at}
use Rattle.pool.specs.Bytes.{frame_at}
use Rattle.store.specs.Abs.{cell_of, cells_of}
use Rattle.store.specs.Edits.{cell_free, cell_holds}

module _ (size : ℕ) where
  -- the first frame, and those after it
  first_frame : (x : List ℕ) → frame_at size x 0 ≡ take size x
  unfolding frame_at
  first_frame x = ap (λ k. take size (drop k x)) (zero-mul size)

  rest_drop : (n : ℕ) (x : List ℕ) → drop (n * size) (drop size x) ≡ drop (suc n * size) x
  rest_drop n x = let e : size + n * size ≡ suc n * size = omega (arith, suc-mul n size) in drop-drop (n * size) size x ∙ ap (λ k. drop k x) e

  rest_frame : (x : List ℕ) (f : ℕ) → frame_at size (drop size x) f ≡ frame_at size x (suc f)
  unfolding frame_at
  rest_frame x f = ap (take size) (rest_drop f x)

  -- a frame in use has the bytes z, and so has a free frame if it had them
  pool_cell : (q : Place) (z : List ℕ) (cs : List Cell) (x : List ℕ) → (q.backing ≡ 0 → z ≡ take size x)
      → pool_after size (cell_of q z ∷ cs) x ≡ z ++ pool_after size cs (drop size x)
  unfolding pool_after
  pool_cell q z cs x h =
      by-eq q.backing 0
      (λ e. rw (cell_free q z e) (ap (λ u. u ++ pool_after size cs (drop size x)) (sym (h e))))
      (λ e. rw (cell_holds q z e))

  -- a pool y that has the bytes of x in each free frame and behind the n frames
  pool_frames : (n : ℕ) (p : ℕ → Place) (x y : List ℕ) → ((f : ℕ) → f < n → (p f).backing ≡ 0 → frame_at size y f ≡ frame_at size x f)
      → drop (n * size) y ≡ drop (n * size) x → pool_after size (listed (λ f. cell_of (p f) (frame_at size y f)) n) x ≡ y
  unfolding pool_after listed
  pool_frames zero p x y h e = sym (rw zero-mul at e)
  pool_frames (suc n) p x y h e =
      let cs : List Cell = listed (λ f. cell_of (p (suc f)) (frame_at size y (suc f))) n in
      let ds : List Cell = listed (λ f. cell_of (p (suc f)) (frame_at size (drop size y) f)) n in
      let same : cs ≡ ds = listed_ext _ _ n (λ f l. ap (cell_of (p (suc f))) (sym (rest_frame y f))) in
      let rest : pool_after size ds (drop size x) ≡ drop size y =
      pool_frames n (λ f. p (suc f)) (drop size x) (drop size y) (λ f l z. rest_frame y f ∙ h (suc f) (omega arith) z ∙ sym (rest_frame x f))
      (rest_drop n y ∙ e ∙ sym (rest_drop n x)) in
      pool_cell (p 0) (frame_at size y 0) cs x (λ z. h 0 (omega arith) z ∙ first_frame x)
      ∙ ap₂ (λ u v. u ++ v) (first_frame y) (ap (λ c. pool_after size c (drop size x)) same ∙ rest)
      ∙ take-append-drop size y

  -- a pool whose bytes are the book's is left as it is
  pub pool_same : (n : ℕ) (ps : List Place) (x : List ℕ) → pool_after size (cells_of size n ps x) x ≡ x
  unfolding cells_of
  pool_same n ps x = pool_frames n (place_at ps) x x (λ f l z. refl) refl

  -- free frames keep the bytes that they had: the pool y is the one that the book leaves
  pub pool_left : (n : ℕ) (ps : List Place) (x y : List ℕ) → length y ≡ length x → n * size ≡ length x
      → ((f : ℕ) → f < n → (place_at ps f).backing ≡ 0 → frame_at size y f ≡ frame_at size x f) → pool_after size (cells_of size n ps y) x ≡ y
  unfolding cells_of
  pool_left n ps x y l e h = pool_frames n (place_at ps) x y h (drop_of_length-le y {i = n * size} (omega arith) ∙ sym (drop_of_length-le x {i = n * size} (omega arith)))
