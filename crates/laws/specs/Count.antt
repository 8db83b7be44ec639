-- Frames in use: a page step takes at most one more; and a frame is in use exactly if a covered page names it.
use Rattle.std.specs.Prelude.{List, [], ◌∷◌, ℕ, zero, suc, ◌≤◌, set}
use Rattle.std.proofs.Common.{zero-le, le_refl, arith}
use Rattle.lists.specs.Test.{by-test}
use Rattle.ranges.specs.Range.{Range, Slot, put}
use Rattle.ranges.specs.Table.{named}
use Rattle.book.specs.Cell.{Cell, free, holds, is_at, trim, vacate}
use Rattle.book.specs.Work.{Work, next, settle}
use Rattle.book.specs.Book.{in_use}

pub in_use_set : (cs : List Cell) (f : ℕ) (c : Cell) → in_use (set cs f c) ≤ suc (in_use cs)
unfolding in_use
in_use_set [] f c = zero-le
in_use_set (free ∷ cs) zero free = omega arith
in_use_set (free ∷ cs) zero (holds b i x) = le_refl _
in_use_set (holds b i x ∷ cs) zero free = omega arith
in_use_set (holds b i x ∷ cs) zero (holds b' i' x') = omega arith
in_use_set (free ∷ cs) (suc f) c = in_use_set cs f c
in_use_set (holds b i x ∷ cs) (suc f) c = omega (arith, in_use_set cs f c)

pub in_use_trim : (rs : List Range) (cs : List Cell) → in_use (trim rs cs) ≤ in_use cs
unfolding in_use trim
in_use_trim rs [] = zero-le
in_use_trim rs (free ∷ cs) = in_use_trim rs cs
in_use_trim rs (holds b i x ∷ cs) = by-test (named b i rs) (λ t. rw t (omega (arith, in_use_trim rs cs))) (λ t. rw t (omega (arith, in_use_trim rs cs)))

pub in_use_vacate : (s : Slot) (cs : List Cell) → in_use (vacate s cs) ≤ in_use cs
unfolding in_use vacate
in_use_vacate s [] = zero-le
in_use_vacate s (free ∷ cs) = in_use_vacate s cs
in_use_vacate s (holds b i x ∷ cs) = by-test (is_at s (holds b i x)) (λ t. rw t (omega (arith, in_use_vacate s cs))) (λ t. rw t (omega (arith, in_use_vacate s cs)))

-- a page step takes at most one frame more
pub settle_count : (n : Range) (i : ℕ) (x : List ℕ) (w : Work) → in_use (settle n i x w).cells ≤ suc (in_use w.cells)
unfolding settle
settle_count n i x w =
    omega (
      arith,
      in_use_set (vacate (record { inside = n.backing; index = i }) (trim (put n w.ranges) w.cells)) (next w) (holds n.backing i x),
      in_use_vacate (record { inside = n.backing; index = i }) (trim (put n w.ranges) w.cells),
      in_use_trim (put n w.ranges) w.cells,
    )
