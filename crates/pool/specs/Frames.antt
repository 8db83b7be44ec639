-- What a change of the pool's bytes is frame by frame, for callers, and what is shown. The page size is a parameter.
use Rattle.std.specs.Prelude.{◌≡◌, refl, Some, None, List, [], ℕ, ◌+◌, ◌-◌, ◌*◌, ◌≤◌, ◌<◌, length, take, drop, replicate}
use Rattle.std.proofs.Math.Path.{ap, sym}
use Rattle.std.proofs.Common.{◌∙◌, add-zero, mul-le-mul_right, suc-mul, drop-drop, take-take}
use native.Mathlib.Omega.{arith}
use Rattle.std.proofs.Math.ListN.{length-drop}
use Rattle.std.proofs.lemmas.List.{length-replicate}
use Rattle.std.proofs.Math.Seq.{paste, length-take-le}
use Rattle.std.proofs.lemmas.List.Edits.{length-paste}
use borrow.Author.Tests.{le-leb, lt-leb}
use Rattle.lists.specs.Test.{by-lt}
use Rattle.lists.specs.Part.{part_above, part_below, part_inside, part_part, paste_all, paste_same}
use Rattle.pool.specs.Bytes.{address, frame_at, filled, frame_zeroed, frame_copied, shown, shown_from}

module _ (size : ℕ) where
  -- frames do not overlap
  pub frames_apart : (g f : ℕ) → g < f → g * size + size ≤ f * size
  frames_apart g f h = omega (arith, mul-le-mul_right size h, suc-mul g size)

  pub frame_length : (d : List ℕ) (f : ℕ) → f * size + size ≤ length d → length (frame_at size d f) ≡ size
  unfolding frame_at
  frame_length d f h = let l = length-drop (f * size) d in length-take-le size (drop (f * size) d) (omega arith)

  -- bytes of the pool that lie in one frame are bytes of that frame
  pub frame_part : (d : List ℕ) (f k n : ℕ) → k + n ≤ size → take n (drop (f * size + k) d) ≡ take n (drop k (frame_at size d f))
  unfolding frame_at
  frame_part d f k n h = ap (take n) (sym (drop-drop k (f * size) d)) ∙ sym (part_part n k size (drop (f * size) d) h)

  -- ---- n bytes of s stored at place k of frame f (copy_in): of its bytes x it keeps the first k and those from k + n on
  module _ (d : List ℕ) (f k : ℕ) (s : List ℕ) (n : ℕ) (inside : f * size + size ≤ length d) (fits : k + n ≤ size) (enough : n ≤ length s) where
    -- that frame
    pub paste_frame : frame_at size (paste d (f * size + k) s n) f ≡ paste (frame_at size d f) k s n
    unfolding frame_at
    paste_frame = part_inside size (f * size) d k s n inside enough fits

    -- every other frame
    pub paste_other : (g : ℕ) → (g ≡ f → ⊥) → frame_at size (paste d (f * size + k) s n) g ≡ frame_at size d g
    unfolding frame_at
    paste_other g ne =
        by-lt g f
        (λ (u : g < f). let a = frames_apart g f u in part_below size (g * size) d (f * size + k) s n (omega arith) (omega arith))
        (λ (u : f ≤ g). let a = frames_apart f g (omega arith) in part_above size (g * size) d (f * size + k) s n (omega arith) enough (omega arith))

    -- the pool's length
    pub paste_length : length (paste d (f * size + k) s n) ≡ length d
    paste_length = length-paste d (f * size + k) s n (omega arith) enough

  -- ---- n bytes taken from place k of frame f (copy_out)
  pub read_frame : (o : List ℕ) (at : ℕ) (d : List ℕ) (f k n : ℕ) → k + n ≤ size → paste o at (drop (f * size + k) d) n ≡ paste o at (drop k (frame_at size d f)) n
  read_frame o at d f k n h = paste_same o at (drop (f * size + k) d) (drop k (frame_at size d f)) n (frame_part d f k n h)

  -- ---- a whole frame stored
  module _ (d : List ℕ) (f : ℕ) (s : List ℕ) (inside : f * size + size ≤ length d) (whole : length s ≡ size) where
    at_start : paste d (f * size) s size ≡ paste d (f * size + 0) s size
    at_start = ap (λ z. paste d z s size) (sym (add-zero (f * size)))

    pub store_frame : frame_at size (paste d (f * size) s size) f ≡ s
    store_frame =
        ap (λ z. frame_at size z f) at_start
        ∙ paste_frame d f 0 s size inside (omega arith) (omega arith)
        ∙ paste_all (frame_at size d f) s size (frame_length d f inside) whole

    pub store_other : (g : ℕ) → (g ≡ f → ⊥) → frame_at size (paste d (f * size) s size) g ≡ frame_at size d g
    store_other g ne = ap (λ z. frame_at size z g) at_start ∙ paste_other d f 0 s size inside (omega arith) (omega arith) g ne

    pub store_length : length (paste d (f * size) s size) ≡ length d
    store_length = ap length at_start ∙ paste_length d f 0 s size inside (omega arith) (omega arith)

  -- ---- frame f zeroed (zero_frame)
  module _ (d : List ℕ) (f : ℕ) (inside : f * size + size ≤ length d) where
    pub zeroed_frame : frame_at size (frame_zeroed size d f) f ≡ replicate size 0
    unfolding frame_zeroed filled
    zeroed_frame = store_frame d f (replicate size 0) inside (length-replicate size 0)

    pub zeroed_other : (g : ℕ) → (g ≡ f → ⊥) → frame_at size (frame_zeroed size d f) g ≡ frame_at size d g
    unfolding frame_zeroed filled
    zeroed_other = store_other d f (replicate size 0) inside (length-replicate size 0)

    pub zeroed_length : length (frame_zeroed size d f) ≡ length d
    unfolding frame_zeroed filled
    zeroed_length = store_length d f (replicate size 0) inside (length-replicate size 0)

  -- ---- frame `from` copied to frame `to` (copy_frame)
  pub copied_code : (d : List ℕ) (to from : ℕ) → paste d (to * size) (drop (from * size) d) size ≡ frame_copied size d to from
  unfolding frame_copied frame_at
  copied_code d to from =
      paste_same d (to * size) (drop (from * size) d) (take size (drop (from * size) d)) size (sym (take-take size size (drop (from * size) d) (omega arith)))

  module _ (d : List ℕ) (to from : ℕ) (inside : to * size + size ≤ length d) (source : from * size + size ≤ length d) where
    pub copied_frame : frame_at size (frame_copied size d to from) to ≡ frame_at size d from
    unfolding frame_copied
    copied_frame = store_frame d to (frame_at size d from) inside (frame_length d from source)

    pub copied_other : (g : ℕ) → (g ≡ to → ⊥) → frame_at size (frame_copied size d to from) g ≡ frame_at size d g
    unfolding frame_copied
    copied_other = store_other d to (frame_at size d from) inside (frame_length d from source)

    pub copied_length : length (frame_copied size d to from) ≡ length d
    unfolding frame_copied
    copied_length = store_length d to (frame_at size d from) inside (frame_length d from source)

  -- ---- what is shown, and where it begins
  module _ (d : List ℕ) where
    pub shown_absent : ([] ≡ shown size d None) × (0 ≡ shown_from size d None)
    unfolding shown shown_from
    shown_absent = (refl, refl)

    module _ (f : ℕ) where
      pub shown_outside : length d < f * size + size → ([] ≡ shown size d (Some f)) × (0 ≡ shown_from size d (Some f))
      unfolding shown shown_from
      shown_outside k = let h = lt-leb (f * size + size) (length d) k in (rw h, rw h)

      pub shown_frame : f * size + size ≤ length d → (frame_at size d f ≡ shown size d (Some f)) × (f * size ≡ shown_from size d (Some f))
      unfolding shown shown_from
      shown_frame k = let h = le-leb (f * size + size) (length d) k in (rw h, rw h)

      -- the frame as the code takes it, up to index e
      pub shown_code : (e : ℕ) → e ≡ f * size + size → f * size + size ≤ length d → take (e - f * size) (drop (f * size) d) ≡ shown size d (Some f)
      unfolding frame_at
      shown_code e q h = let z : e - f * size ≡ size = omega arith in rw z (shown_frame h).0

-- a part that begins i bytes into a slice
pub begins_at : (p : ℕ × ℕ) (i j : ℕ) → i ≡ j → (p.0, i + p.1) ≡ address p j
begins_at p i j e = let z : i + p.1 ≡ p.1 + j = omega arith in ap (λ k. (p.0, k)) z

-- a part that begins where the slice does
pub begins_there : (p : ℕ × ℕ) (j : ℕ) → 0 ≡ j → p ≡ address p j
begins_there p j e = let z : p.1 ≡ p.1 + j = omega arith in ap (λ k. (p.0, k)) z
