-- A cut table's ranges are pieces of the table's.
use Rattle.std.specs.Prelude.{refl, ℕ}
use Rattle.std.proofs.Common.{⊎_elim, arith}
use mathlib.Core.List.Memᴰ
use mathlib.Core.List.{List, [], ◌∷◌, ◌++◌, Memᴰ}
use Rattle.lists.specs.Test.{by-lt}
use Rattle.ranges.specs.Range.{Ranged, from, upto, front, back, carve}
use Rattle.ranges.specs.Cut.{front_some, front_none, back_some, back_none}
use Rattle.ranges.specs.Piece.{Piece, Cut}

cut_tail : {B : Type 0} (q x : Ranged B) (rs : List (Ranged B)) → Cut q rs → Cut q (x ∷ rs)
cut_tail q x rs c = record { r = c.r; mem = Memᴰ.tail c.mem; piece = c.piece }

piece_front : {B : Type 0} (a : ℕ) (q r : Ranged B) → Memᴰ q (front a r) → Piece q r
piece_front a q r m =
    by-lt (from r) a
    (λ p. ⊎_elim
    (λ e. rw e (record { object = refl; backing = refl; first = omega arith; last = omega arith; shift = refl }))
    (λ n. absurd (Memᴰ.not-nil n))
    (Memᴰ.cases_cons (rw (front_some a r p) at m)))
    (λ p. absurd (Memᴰ.not-nil (rw (front_none a r p) at m)))

-- what is behind the cut: it has pages only if the range has some
piece_back : {B : Type 0} (e : ℕ) (q r : Ranged B) → Memᴰ q (back e r) → Piece q r
piece_back e q r m =
    by-lt e (upto r)
    (λ p. ⊎_elim
    (λ i. rw i (record { object = refl; backing = refl; first = omega arith; last = omega arith; shift = omega arith }))
    (λ n. absurd (Memᴰ.not-nil n))
    (Memᴰ.cases_cons (rw (back_some e r p) at m)))
    (λ p. absurd (Memᴰ.not-nil (rw (back_none e r p) at m)))

pub carve_mem : {B : Type 0} (a e : ℕ) (q : Ranged B) (rs : List (Ranged B)) → Memᴰ q (carve a e rs) → Cut q rs
unfolding carve
carve_mem a e q [] m = absurd (Memᴰ.not-nil m)
carve_mem a e q (x ∷ rs) m =
    ⊎_elim
    (λ k. record { r = x; mem = Memᴰ.head refl; piece = ⊎_elim (λ l. piece_front a q x l) (λ l. piece_back e q x l) (Memᴰ.append_cases (front a x) k) })
    (λ k. cut_tail q x rs (carve_mem a e q rs k))
    (Memᴰ.append_cases (front a x ++ back e x) m)
