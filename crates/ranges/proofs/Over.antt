-- A range put over its span: what stays outside it, and of what the table then consists.
use Rattle.std.specs.Prelude.{◌≡◌, ◌⊎◌, ℕ, ◌≤◌, ◌<◌}
use Rattle.std.proofs.Common.{◌∙◌, inl, inr, ⊎_elim, arith}
use mathlib.Core.List.{List, Memᴰ}
use Rattle.ranges.specs.Range.{Range, Ranged, from, upto, slot_at, carve, put}
use Rattle.ranges.specs.Cut.{carve_below}
use Rattle.ranges.proofs.Cut.{carve_above}
use Rattle.ranges.specs.Piece.{Cut, insert_mem, clear_mem, Piece}
use Rattle.ranges.proofs.Piece.{carve_mem}
use Rattle.ranges.specs.Put.{insert_other, carve_clear}
use Rattle.ranges.specs.Over.{Rest}

-- what stands outside a range that is put in stays
pub put_other : (n : Range) (g : ℕ) (rs : List Range) → (g < from n) ⊎ (upto n ≤ g) → slot_at g (put n rs) ≡ slot_at g rs
unfolding put
put_other n g rs o =
    insert_other n g (carve (from n) (upto n) rs) o
    ∙ ⊎_elim (λ h. carve_below (from n) (upto n) g rs (omega arith) h) (λ h. carve_above (from n) (upto n) g rs (omega arith) h) o

pub put_mem : {B : Type 0} (n q : Ranged B) (rs : List (Ranged B)) → Memᴰ q (put n rs) → (q ≡ n) ⊎ Rest n q rs
unfolding put
put_mem n q rs m =
    ⊎_elim (λ e. inl e)
    (λ k. inr (record { cut = carve_mem (from n) (upto n) q rs k; clear = clear_mem (from n) (upto n) q (carve (from n) (upto n) rs) (carve_clear (from n) (upto n) rs (omega arith)) k }))
    (insert_mem n q (carve (from n) (upto n) rs) m)

-- what holds of every range of a table and of every piece of one holds after a cut; and after a put, if it holds of the range put in
pub carve_all : {B : Type 0} {P : Ranged B → Type 0} → ((q r : Ranged B) → Piece q r → P r → P q) → (a e : ℕ) (rs : List (Ranged B))
    → ((r : Ranged B) → Memᴰ r rs → P r) → (q : Ranged B) → Memᴰ q (carve a e rs) → P q
carve_all piece a e rs h q m = let C : Cut q rs = carve_mem a e q rs m in piece q C.r C.piece (h C.r C.mem)

pub put_all_lem : {B : Type 0} {P : Ranged B → Type 0} → ((q r : Ranged B) → Piece q r → P r → P q) → (n : Ranged B) (rs : List (Ranged B))
    → P n → ((r : Ranged B) → Memᴰ r rs → P r) → (q : Ranged B) → Memᴰ q (put n rs) → P q
put_all_lem {B} {P} piece n rs hn h q m =
    ⊎_elim (λ e. rw e hn) (λ (R : Rest n q rs). piece q R.cut.r R.cut.piece (h R.cut.r R.cut.mem)) (put_mem n q rs m)
