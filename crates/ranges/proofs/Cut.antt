-- The law of the cut behind it: a page after the cut keeps its backing and its index.
use Rattle.std.specs.Prelude.{◌≡◌, refl, List, [], ◌∷◌, ◌++◌, ℕ, ◌+◌, ◌-◌, ◌≤◌, ◌<◌, min}
use Rattle.std.proofs.Common.{◌∙◌, arith}
use Rattle.lists.specs.Test.{by-lt}
use Rattle.ranges.specs.Range.{Range, from, upto, skip, keep, front, back, carve, slot_at}
use Rattle.ranges.specs.Cut.{cuts, slot_in_skip, slot_cons}

-- a page after the cut
one_above : (a e g : ℕ) (r : Range) (rest : List Range) → a ≤ e → e ≤ g → slot_at g (front a r ++ back e r ++ rest) ≡ slot_at g (r ∷ rest)
one_above a e g r rest h k =
    let f : slot_at g (front a r ++ back e r ++ rest) ≡ slot_at g (back e r ++ rest) =
    by-lt (from r) a
    (λ p. let z : upto (keep (min r.len (a - from r)) r) ≤ g = omega arith in simp cuts)
    (λ p. simp cuts) in
    f ∙ by-lt e (upto r)
    (λ q. by-lt g (from (skip (e - from r) r))
    (λ z. let w : g < from r = omega arith in simp cuts)
    (λ z. by-lt g (upto r)
    (λ w. let v : g < upto (skip (e - from r) r) = omega arith in
    let u : from r ≤ g = omega arith in
    let t : from r + (e - from r) ≤ g = omega arith in
    simp (cuts, slot_in_skip))
    (λ w. let v : upto (skip (e - from r) r) ≤ g = omega arith in simp cuts)))
    (λ q. let z : upto r ≤ g = omega arith in simp cuts)

pub carve_above : (a e g : ℕ) (rs : List Range) → a ≤ e → e ≤ g → slot_at g (carve a e rs) ≡ slot_at g rs
unfolding carve slot_at
carve_above a e g [] h k = refl
carve_above a e g (r ∷ rs) h k = one_above a e g r (carve a e rs) h k ∙ slot_cons g r (carve a e rs) rs (carve_above a e g rs h k)
