-- A range put over its span: what stands there, what stays, and which ranges the table then has.
use Rattle.std.specs.Prelude.{◌≡◌, ◌⊎◌, ℕ, ◌-◌, ◌≤◌, ◌<◌, Some}
use Rattle.std.proofs.Common.{⊎_elim, arith}
use mathlib.Core.List.Memᴰ
use mathlib.Core.List.{List, [], ◌∷◌, ◌++◌, Memᴰ}
use Rattle.lists.specs.Test.{by-lt}
use Rattle.ranges.specs.Range.{Range, Ranged, from, upto, slot_in, slot_at, front, back, carve, insert, put, Rising}
use Rattle.ranges.specs.Cut.{carve_rising, front_below, front_none, back_some, back_none}
use Rattle.ranges.specs.Piece.{Cut, insert_in}
use Rattle.ranges.specs.Put.{insert_here, insert_later, insert_hit, insert_rising, carve_clear, skip_zero}

pub put_rising : {B : Type 0} (n : Ranged B) (rs : List (Ranged B)) → 0 < n.len → Rising 0 rs → Rising 0 (put n rs)
unfolding put
put_rising n rs h s =
    insert_rising n 0 (carve (from n) (upto n) rs) (omega arith) h (carve_clear (from n) (upto n) rs (omega arith)) (carve_rising (from n) (upto n) 0 rs (omega arith) s)

pub put_hit : (n : Range) (g : ℕ) (rs : List Range) → from n ≤ g → g < upto n → slot_at g (put n rs) ≡ Some (slot_in g n)
unfolding put
put_hit n g rs l h = insert_hit n g (carve (from n) (upto n) rs) l h (carve_clear (from n) (upto n) rs (omega arith))

pub put_in : {B : Type 0} (n : Ranged B) (rs : List (Ranged B)) → Memᴰ n (put n rs)
unfolding put
put_in n rs = insert_in n (carve (from n) (upto n) rs)

-- a member of the table after a put: the range put in, or a piece of an old one, clear of it
pub record Rest {B : Type 0} (n q : Ranged B) (rs : List (Ranged B)) : Type 0 where
  pub cut : Cut q rs
  pub clear : (upto q ≤ from n) ⊎ (upto n ≤ from q)

pub whole_piece : {B : Type 0} (a e : ℕ) (r : Ranged B) → a ≤ e → 0 < r.len → (upto r ≤ a) ⊎ (e ≤ from r) → front a r ++ back e r ≡ r ∷ []
whole_piece a e r h l x =
    ⊎_elim
    (λ (u : upto r ≤ a). rw (front_below a r u l, back_none e r (omega arith)))
    (λ (u : e ≤ from r). let z : e - from r ≡ 0 = omega arith in rw (front_none a r (omega arith), back_some e r (omega arith), z, skip_zero r))
    x

carve_keeps : {B : Type 0} (a e low : ℕ) (r : Ranged B) (rs : List (Ranged B)) → a ≤ e → Rising low rs → Memᴰ r rs → (upto r ≤ a) ⊎ (e ≤ from r) → Memᴰ r (carve a e rs)
unfolding carve Rising
carve_keeps a e low r [] h s m x = absurd (Memᴰ.not-nil m)
carve_keeps a e low r (q ∷ rs) h s m x =
    ⊎_elim
    (λ i. let y : (upto q ≤ a) ⊎ (e ≤ from q) = rw (← i) x in rw (whole_piece a e q h s.1 y) (Memᴰ.head i))
    (λ k. Memᴰ.append_right (front a q ++ back e q) (carve_keeps a e (upto q) r rs h s.2 k x))
    (Memᴰ.cases_cons m)

insert_keeps : {B : Type 0} (n r : Ranged B) (rs : List (Ranged B)) → Memᴰ r rs → Memᴰ r (insert n rs)
unfolding insert
insert_keeps n r [] m = absurd (Memᴰ.not-nil m)
insert_keeps n r (q ∷ rs) m =
    by-lt (from n) (from q)
    (λ p. rw (insert_here n q rs p) (Memᴰ.tail m))
    (λ p. rw (insert_later n q rs p) (⊎_elim (λ i. Memᴰ.head i) (λ k. Memᴰ.tail (insert_keeps n r rs k)) (Memᴰ.cases_cons m)))

pub put_keeps : {B : Type 0} (n r : Ranged B) (rs : List (Ranged B)) → Rising 0 rs → Memᴰ r rs → (upto r ≤ from n) ⊎ (upto n ≤ from r) → Memᴰ r (put n rs)
unfolding put
put_keeps n r rs s m x = insert_keeps n r (carve (from n) (upto n) rs) (carve_keeps (from n) (upto n) 0 r rs (omega arith) s m x)
