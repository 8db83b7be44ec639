-- The laws of cutting pages out of a table of ranges.
use Rattle.std.specs.Prelude.{◌≡◌, refl, List, [], ◌∷◌, ◌++◌, ℕ, ◌+◌, ◌-◌, ◌≤◌, ◌<◌, min, Some, None}
use Rattle.std.proofs.Common.{◌∙◌, ap, arith, lt-ltb, le-ltb, le-leb}
use Rattle.std.proofs.lemmas.Bool.{lt-leb}
use Rattle.lists.specs.Test.{by-lt}
use Rattle.ranges.specs.Range.{Range, Ranged, from, upto, skip, keep, front, back, carve, slot_in, slot_at, Rising}

-- a range that ends by a keeps its front whole, and has no back
pub front_below : {B : Type 0} (a : ℕ) (r : Ranged B) → upto r ≤ a → 0 < r.len → front a r ≡ r ∷ []
unfolding front
front_below a r h l =
    let t : from r < a = omega arith in
    let m : min r.len (a - from r) ≡ r.len = omega arith in
    rw (lt-ltb (from r) a t, m)

pub Rising-weaken : {B : Type 0} (low low' : ℕ) (rs : List (Ranged B)) → low' ≤ low → Rising low rs → Rising low' rs
unfolding Rising
Rising-weaken low low' [] h s = tt
Rising-weaken low low' (r ∷ rs) h s = (omega arith, s.1, s.2)

-- the four cases
pub front_some : {B : Type 0} (a : ℕ) (r : Ranged B) → from r < a → front a r ≡ keep (min r.len (a - from r)) r ∷ []
unfolding front
front_some a r h = rw (lt-ltb (from r) a h)

pub front_none : {B : Type 0} (a : ℕ) (r : Ranged B) → a ≤ from r → front a r ≡ []
unfolding front
front_none a r h = rw (le-ltb (from r) a h)

pub back_some : {B : Type 0} (e : ℕ) (r : Ranged B) → e < upto r → back e r ≡ skip (e - from r) r ∷ []
unfolding back
back_some e r h = rw (lt-ltb e (upto r) h)

pub back_none : {B : Type 0} (e : ℕ) (r : Ranged B) → upto r ≤ e → back e r ≡ []
unfolding back
back_none e r h = rw (le-ltb e (upto r) h)

pub slot_hit : (g : ℕ) (r : Range) (rs : List Range) → from r ≤ g → g < upto r → slot_at g (r ∷ rs) ≡ Some (slot_in g r)
unfolding slot_at
slot_hit g r rs h k = rw (le-leb (from r) g h, lt-ltb g (upto r) k)

pub slot_low : (g : ℕ) (r : Range) (rs : List Range) → g < from r → slot_at g (r ∷ rs) ≡ slot_at g rs
unfolding slot_at
slot_low g r rs h = rw (lt-leb (from r) g h)

pub slot_high : (g : ℕ) (r : Range) (rs : List Range) → upto r ≤ g → slot_at g (r ∷ rs) ≡ slot_at g rs
unfolding slot_at
slot_high g r rs h =
    let k : from r ≤ g = omega arith in
    rw (le-leb (from r) g k, le-ltb g (upto r) h)

pub ruleset cuts = (front_some, front_none, back_some, back_none, slot_hit, slot_low, slot_high)

-- a page before the cut
one_below : (a e g : ℕ) (r : Range) (rest : List Range) → a ≤ e → g < a → slot_at g (front a r ++ back e r ++ rest) ≡ slot_at g (r ∷ rest)
one_below a e g r rest h k =
    let b : slot_at g (back e r ++ rest) ≡ slot_at g rest =
    by-lt e (upto r)
    (λ q. let z : g < from (skip (e - from r) r) = omega arith in simp cuts)
    (λ q. simp cuts) in
    by-lt (from r) a
    (λ p. by-lt g (from r)
    (λ z. simp cuts b)
    (λ z. by-lt g (upto r)
    (λ w. let v : g < upto (keep (min r.len (a - from r)) r) = omega arith in simp cuts)
    (λ w. let v : upto (keep (min r.len (a - from r)) r) ≤ g = omega arith in simp cuts b)))
    (λ p. let z : g < from r = omega arith in simp cuts b)

-- a cut keeps the index
pub slot_in_skip : (k g : ℕ) (r : Range) → from r + k ≤ g → slot_in g (skip k r) ≡ slot_in g r
slot_in_skip k g r h =
    let e : (skip k r).offset + (g - from (skip k r)) ≡ r.offset + (g - from r) = omega arith in
    ap (λ j. record { inside = r.backing; index = j }) e

-- a page of the cut
one_inside : (a e g : ℕ) (r : Range) (rest : List Range) → a ≤ g → g < e → slot_at g (front a r ++ back e r ++ rest) ≡ slot_at g rest
one_inside a e g r rest h k =
    let f : slot_at g (front a r ++ back e r ++ rest) ≡ slot_at g (back e r ++ rest) =
    by-lt (from r) a
    (λ p. let z : upto (keep (min r.len (a - from r)) r) ≤ g = omega arith in simp cuts)
    (λ p. simp cuts) in
    f ∙ by-lt e (upto r)
    (λ q. let z : g < from (skip (e - from r) r) = omega arith in simp cuts)
    (λ q. simp cuts)

-- slot_at of one more range, by what the rest says
pub slot_cons : (g : ℕ) (r : Range) (xs ys : List Range) → slot_at g xs ≡ slot_at g ys → slot_at g (r ∷ xs) ≡ slot_at g (r ∷ ys)
unfolding slot_at
slot_cons g r xs ys h = rw h

-- THE LAW OF THE CUT. No page of the cut is covered; every other page has the backing and the index that it had.
pub carve_inside : (a e g : ℕ) (rs : List Range) → a ≤ g → g < e → slot_at g (carve a e rs) ≡ None
unfolding carve slot_at
carve_inside a e g [] h k = refl
carve_inside a e g (r ∷ rs) h k = one_inside a e g r (carve a e rs) h k ∙ carve_inside a e g rs h k

pub carve_below : (a e g : ℕ) (rs : List Range) → a ≤ e → g < a → slot_at g (carve a e rs) ≡ slot_at g rs
unfolding carve slot_at
carve_below a e g [] h k = refl
carve_below a e g (r ∷ rs) h k = one_below a e g r (carve a e rs) h k ∙ slot_cons g r (carve a e rs) rs (carve_below a e g rs h k)

-- Rising: the pieces rise where the ranges did
pub carve_rising : {B : Type 0} (a e low : ℕ) (rs : List (Ranged B)) → a ≤ e → Rising low rs → Rising low (carve a e rs)
unfolding carve Rising
carve_rising a e low [] h s = tt
carve_rising a e low (r ∷ rs) h s =
    let ih : Rising (upto r) (carve a e rs) = carve_rising a e (upto r) rs h s.2 in
    let up : (n : ℕ) → n ≤ upto r → Rising n (carve a e rs) = λ n l. Rising-weaken (upto r) n (carve a e rs) l ih in
    by-lt (from r) a
    (λ p. by-lt e (upto r)
    (λ q. rw (front_some a r p, back_some e r q) (s.0, omega arith, (omega arith, omega arith, up (upto (skip (e - from r) r)) (omega arith))))
    (λ q. rw (front_some a r p, back_none e r q) (s.0, omega arith, up (upto (keep (min r.len (a - from r)) r)) (omega arith))))
    (λ p. by-lt e (upto r)
    (λ q. rw (front_none a r p, back_some e r q) (omega arith, omega arith, up (upto (skip (e - from r) r)) (omega arith)))
    (λ q. rw (front_none a r p, back_none e r q) (up low (omega arith))))
