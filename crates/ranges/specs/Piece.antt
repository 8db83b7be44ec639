-- A cut table's ranges are pieces of the table's; a range put in is the only new one.
use Rattle.std.specs.Prelude.{◌≡◌, refl, ◌⊎◌, ℕ, ◌+◌, ◌≤◌, ◌<◌}
use Rattle.std.proofs.Common.{inl, inr, ⊎_elim}
use mathlib.Core.List.Memᴰ
use mathlib.Core.List.{List, [], ◌∷◌, Memᴰ}
use Rattle.lists.specs.Test.{by-lt}
use Rattle.ranges.specs.Range.{Ranged, from, upto, insert, Rising, Clear}
use Rattle.ranges.specs.Put.{insert_here, insert_later}

-- q is a piece of r: of its object and backing, no page and no index that r has not
pub record Piece {B : Type 0} (q r : Ranged B) : Type 0 where
  pub object : q.object ≡ r.object
  pub backing : q.backing ≡ r.backing
  pub first : r.start ≤ q.start
  pub last : q.start + q.len ≤ r.start + r.len
  pub shift : q.offset + r.start ≡ r.offset + q.start

-- a member of the cut table, as a piece of a member of the table
pub record Cut {B : Type 0} (q : Ranged B) (rs : List (Ranged B)) : Type 0 where
  pub r : Ranged B
  pub mem : Memᴰ r rs
  pub piece : Piece q r

pub insert_mem : {B : Type 0} (n q : Ranged B) (rs : List (Ranged B)) → Memᴰ q (insert n rs) → (q ≡ n) ⊎ Memᴰ q rs
unfolding insert
insert_mem n q [] m = Memᴰ.cases_cons m
insert_mem n q (x ∷ rs) m =
    by-lt (from n) (from x)
    (λ p. Memᴰ.cases_cons (rw (insert_here n x rs p) at m))
    (λ p. ⊎_elim
    (λ e. inr (Memᴰ.head e))
    (λ k. ⊎_elim (λ e. inl e) (λ l. inr (Memᴰ.tail l)) (insert_mem n q rs k))
    (Memᴰ.cases_cons (rw (insert_later n x rs p) at m)))

pub insert_in : {B : Type 0} (n : Ranged B) (rs : List (Ranged B)) → Memᴰ n (insert n rs)
unfolding insert
insert_in n [] = Memᴰ.head refl
insert_in n (x ∷ rs) =
    by-lt (from n) (from x)
    (λ p. rw (insert_here n x rs p) (Memᴰ.head refl))
    (λ p. rw (insert_later n x rs p) (Memᴰ.tail (insert_in n rs)))

-- a member of a clear table is clear, and of a rising one has a page
pub clear_mem : {B : Type 0} (a e : ℕ) (q : Ranged B) (rs : List (Ranged B)) → Clear a e rs → Memᴰ q rs → (upto q ≤ a) ⊎ (e ≤ from q)
unfolding Clear
clear_mem a e q [] c m = absurd (Memᴰ.not-nil m)
clear_mem a e q (x ∷ rs) c m = ⊎_elim (λ i. rw i c.0) (λ k. clear_mem a e q rs c.1 k) (Memᴰ.cases_cons m)

pub rising_mem : {B : Type 0} (low : ℕ) (q : Ranged B) (rs : List (Ranged B)) → Rising low rs → Memᴰ q rs → 0 < q.len
unfolding Rising
rising_mem low q [] s m = absurd (Memᴰ.not-nil m)
rising_mem low q (x ∷ rs) s m = ⊎_elim (λ i. rw i s.1) (λ k. rising_mem (upto x) q rs s.2 k) (Memᴰ.cases_cons m)
