-- Who holds a new backing after a range is put over its span.
use Rattle.std.specs.Prelude.{◌≡◌, refl, ◌⊎◌, ℕ, suc, ◌≤◌, ◌<◌, eqb}
use Rattle.std.proofs.Common.{ap, ◌∙◌, arith, eq-eqb, ne_eqb}
use mathlib.Core.List.{List, [], ◌∷◌, Memᴰ}
use Rattle.lists.specs.Test.{by-test, by-lt}
use Rattle.ranges.specs.Range.{Range, from, upto, carve, insert, put, Rising}
use Rattle.ranges.specs.Table.{holders}
use Rattle.ranges.specs.Cut.{carve_rising}
use Rattle.ranges.specs.Piece.{Piece, Cut, clear_mem, rising_mem}
use Rattle.ranges.proofs.Piece.{carve_mem}
use Rattle.ranges.specs.Put.{insert_here, insert_later, carve_clear}

none_hold : (b : ℕ) (rs : List Range) → ((q : Range) → Memᴰ q rs → b ≡ q.backing → ⊥) → holders b rs ≡ 0
unfolding holders
none_hold b [] h = refl
none_hold b (x ∷ rs) h =
    rw (ne_eqb b x.backing (h x (Memᴰ.head refl))) (none_hold b rs (λ q m. h q (Memᴰ.tail m)))

holders_insert : (b : ℕ) (n : Range) (rs : List Range) → b ≡ n.backing → holders b (insert n rs) ≡ suc (holders b rs)
unfolding holders insert
holders_insert b n [] e = rw (eq-eqb b n.backing e)
holders_insert b n (x ∷ rs) e =
    by-lt (from n) (from x)
    (λ p. rw (insert_here n x rs p, eq-eqb b n.backing e))
    (λ p. rw (insert_later n x rs p) (by-test (eqb b x.backing) (λ t. rw t (ap suc (holders_insert b n rs e))) (λ t. rw t (holders_insert b n rs e))))

-- a range put in whose backing no range outside it holds is that backing's one holder
pub put_once : (n : Range) (rs : List Range)
    → ((r q : Range) → Memᴰ r rs → Piece q r → n.backing ≡ r.backing → 0 < q.len → (upto q ≤ from n) ⊎ (upto n ≤ from q) → ⊥)
    → Rising 0 rs → holders n.backing (put n rs) ≡ 1
unfolding put
put_once n rs h s =
    let cs : List Range = carve (from n) (upto n) rs in
    holders_insert n.backing n cs refl
    ∙ ap suc (none_hold n.backing cs (λ q m e.
    let c : Cut q rs = carve_mem (from n) (upto n) q rs m in
    h c.r q c.mem c.piece (e ∙ c.piece.backing)
    (rising_mem 0 q cs (carve_rising (from n) (upto n) 0 rs (omega arith) s) m)
    (clear_mem (from n) (upto n) q cs (carve_clear (from n) (upto n) rs (omega arith)) m)))
