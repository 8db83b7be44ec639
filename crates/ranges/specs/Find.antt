-- Which range a page is in, the range before a page, and whose window an index is in.
use Rattle.std.specs.Prelude.{◌≡◌, refl, true, ℕ, ◌+◌, ◌-◌, ◌≤◌, ◌<◌, ltb, leb, eqb, Option, Some, None}
use Rattle.std.proofs.Common.{◌∙◌, ⊎_elim, arith, ltb-true, ltb-false, leb-true, eqb-true, lt-ltb, le-leb, eq-eqb}
use Rattle.std.proofs.lemmas.Bool.{false≢true}
use Rattle.std.proofs.Math.Bool.{or-true}
use mathlib.Core.List.{List, [], ◌∷◌, Memᴰ}
use Rattle.lists.specs.Test.{by-test, and_left, and_right}
use Rattle.ranges.specs.Range.{Range, Ranged, Slot, from, upto, slot_in, slot_at, Rising}
use Rattle.ranges.specs.Table.{window, named, some_or, previous}
use Rattle.ranges.specs.Cut.{slot_hit, slot_low, slot_high}

-- the range that a page is in
pub record Found (g : ℕ) (rs : List Range) (s : Slot) : Type 0 where
  pub r : Range
  pub mem : Memᴰ r rs
  pub low : from r ≤ g
  pub high : g < upto r
  pub is : s ≡ slot_in g r

pub found : (g : ℕ) (rs : List Range) (s : Slot) → slot_at g rs ≡ Some s → Found g rs s
unfolding slot_at
found g [] s e = absurd (let z : ◌≡◌ {A = ℕ} 0 1 = cc in omega arith)
found g (r ∷ rs) s e =
    by-test (leb (from r) g)
    (λ t. by-test (ltb g (upto r))
    (λ u. let e' : Some (slot_in g r) ≡ Some s = rw (t, u) at e in
    record { r = r; mem = mathlib.Core.List.Memᴰ.head refl; low = leb-true (from r) g t; high = ltb-true g (upto r) u; is = cc })
    (λ u. more (found g rs s (rw (t, u) at e))))
    (λ t. more (found g rs s (rw t at e)))
  where
    more : Found g rs s → Found g (r ∷ rs) s
    more f = record { r = f.r; mem = mathlib.Core.List.Memᴰ.tail f.mem; low = f.low; high = f.high; is = f.is }

-- a table's ranges do not overlap: a page is in one range at most

pub rising_low : {B : Type 0} (low : ℕ) (r : Ranged B) (rs : List (Ranged B)) → Rising low rs → Memᴰ r rs → low ≤ from r
unfolding Rising
rising_low low r [] s m = absurd (mathlib.Core.List.Memᴰ.not-nil m)
rising_low low r (q ∷ rs) s m =
    ⊎_elim (λ e. rw e s.0) (λ k. omega (arith, rising_low (upto q) r rs s.2 k, s.0)) (mathlib.Core.List.Memᴰ.cases_cons m)

pub slot_mem : (low g : ℕ) (r : Range) (rs : List Range) → Rising low rs → Memᴰ r rs → from r ≤ g → g < upto r → slot_at g rs ≡ Some (slot_in g r)
unfolding Rising
slot_mem low g r [] s m l u = absurd (mathlib.Core.List.Memᴰ.not-nil m)
slot_mem low g r (q ∷ rs) s m l u =
    ⊎_elim
    (λ e. rw (← e) (slot_hit g r rs l u))
    (λ k. slot_high g q rs (omega (arith, rising_low (upto q) r rs s.2 k)) ∙ slot_mem (upto q) g r rs s.2 k l u)
    (mathlib.Core.List.Memᴰ.cases_cons m)

-- below its first range a table covers nothing
pub below_all : (low g : ℕ) (rs : List Range) → Rising low rs → g < low → slot_at g rs ≡ None
unfolding Rising slot_at
below_all low g [] s h = refl
below_all low g (q ∷ rs) s h = slot_low g q rs (omega (arith, s.0)) ∙ below_all (upto q) g rs s.2 (omega (arith, s.0))

-- a page's slot is named
pub named_mem : (b i : ℕ) (rs : List Range) (r : Range) → Memᴰ r rs → b ≡ r.backing → r.offset ≤ i → i < r.offset + r.len → named b i rs ≡ true
unfolding named
named_mem b i [] r m e l h = absurd (mathlib.Core.List.Memᴰ.not-nil m)
named_mem b i (q ∷ rs) r m e l h =
    ⊎_elim
    (λ k. let w : window b i q ≡ true = rw (← k) (rw (eq-eqb b r.backing e, le-leb r.offset i l, lt-ltb i (r.offset + r.len) h)) in rw w)
    (λ k. rw (named_mem b i rs r k e l h) (or-true (window b i q)))
    (mathlib.Core.List.Memᴰ.cases_cons m)

pub slot_named : (g : ℕ) (rs : List Range) (s : Slot) → slot_at g rs ≡ Some s → named s.inside s.index rs ≡ true
slot_named g rs s e =
    let f : Found g rs s = found g rs s e in
    rw f.is (named_mem f.r.backing (f.r.offset + (g - from f.r)) rs f.r f.mem refl (omega arith) (omega (arith, f.low, f.high)))

-- the range in whose window a named slot lies
pub record In (b i : ℕ) (rs : List Range) : Type 0 where
  pub r : Range
  pub mem : Memᴰ r rs
  pub backing : b ≡ r.backing
  pub low : r.offset ≤ i
  pub high : i < r.offset + r.len

pub named_in : (b i : ℕ) (rs : List Range) → named b i rs ≡ true → In b i rs
unfolding named
named_in b i [] e = absurd (false≢true e)
named_in b i (r ∷ rs) e =
    by-test (window b i r)
    (λ t. let u = and_right (eqb b r.backing) _ t in record {
      r = r;
      mem = mathlib.Core.List.Memᴰ.head refl;
      backing = eqb-true b r.backing (and_left _ _ t);
      low = leb-true r.offset i (and_left _ _ u);
      high = ltb-true i (r.offset + r.len) (and_right (leb r.offset i) _ u);
    })
    (λ t. more (named_in b i rs (rw t at e)))
  where
    more : In b i rs → In b i (r ∷ rs)
    more n = record { r = n.r; mem = mathlib.Core.List.Memᴰ.tail n.mem; backing = n.backing; low = n.low; high = n.high }

-- the range before a page
pub previous_mem : (g : ℕ) (rs : List Range) (r : Range) → previous g rs ≡ Some r → Memᴰ r rs
unfolding previous
previous_mem g [] r e = absurd (let z : ◌≡◌ {A = ℕ} 0 1 = cc in omega arith)
previous_mem g (q ∷ rs) r e =
    by-test (ltb g (from q))
    (λ t. absurd (let y : None ≡ Some r = rw t at e in let z : ◌≡◌ {A = ℕ} 0 1 = cc in omega arith))
    (λ t. go (λ f. previous_mem g rs r f) (previous g rs) refl (rw t at e))
  where
    go : (previous g rs ≡ Some r → Memᴰ r rs) → (o : Option Range) → previous g rs ≡ o → some_or o q ≡ Some r → Memᴰ r (q ∷ rs)
    go ih None f h = mathlib.Core.List.Memᴰ.head {x = q} (cc)
    go ih (Some x) f h = mathlib.Core.List.Memᴰ.tail (ih (f ∙ h))

pub previous_low : (g : ℕ) (rs : List Range) (r : Range) → previous g rs ≡ Some r → from r ≤ g
unfolding previous
previous_low g [] r e = absurd (let z : ◌≡◌ {A = ℕ} 0 1 = cc in omega arith)
previous_low g (q ∷ rs) r e =
    by-test (ltb g (from q))
    (λ t. absurd (let y : None ≡ Some r = rw t at e in let z : ◌≡◌ {A = ℕ} 0 1 = cc in omega arith))
    (λ t. go (λ f. previous_low g rs r f) (ltb-false g (from q) t) (previous g rs) refl (rw t at e))
  where
    go : (previous g rs ≡ Some r → from r ≤ g) → from q ≤ g → (o : Option Range) → previous g rs ≡ o → some_or o q ≡ Some r → from r ≤ g
    go ih l None f h = let z : q ≡ r = cc in rw (← z) l
    go ih l (Some x) f h = ih (f ∙ h)

-- from the end of the range before a page up to the page nothing is covered
pub previous_none : (low g h : ℕ) (rs : List Range) → Rising low rs → previous g rs ≡ None → h ≤ g → slot_at h rs ≡ None
unfolding Rising slot_at previous
previous_none low g h [] s e l = refl
previous_none low g h (q ∷ rs) s e l =
    by-test (ltb g (from q))
    (λ t. let z : g < from q = ltb-true g (from q) t in slot_low h q rs (omega arith) ∙ below_all (upto q) h rs s.2 (omega arith))
    (λ t. absurd (go (previous g rs) (rw t at e)))
  where
    go : (o : Option Range) → some_or o q ≡ None → ⊥
    go None f = let z : ◌≡◌ {A = ℕ} 0 1 = cc in omega arith
    go (Some x) f = let z : ◌≡◌ {A = ℕ} 0 1 = cc in omega arith

pub previous_gap : (low g h : ℕ) (r : Range) (rs : List Range) → Rising low rs → previous g rs ≡ Some r → upto r ≤ h → h ≤ g → slot_at h rs ≡ None
unfolding Rising slot_at previous
previous_gap low g h r [] s e l u = refl
previous_gap low g h r (q ∷ rs) s e l u =
    by-test (ltb g (from q))
    (λ t. absurd (let y : None ≡ Some r = rw t at e in let z : ◌≡◌ {A = ℕ} 0 1 = cc in omega arith))
    (λ t. go (λ f. previous_gap (upto q) g h r rs s.2 f l u) (λ f. previous_mem g rs r f) (previous g rs) refl (rw t at e))
  where
    go : (previous g rs ≡ Some r → slot_at h rs ≡ None) → (previous g rs ≡ Some r → Memᴰ r rs) → (o : Option Range) → previous g rs ≡ o → some_or o q ≡ Some r → slot_at h (q ∷ rs) ≡ None
    go ih mem None f k =
        let z : q ≡ r = cc in
        slot_high h q rs (rw z l) ∙ previous_none (upto q) g h rs s.2 f u
    go ih mem (Some x) f k =
        let m : Memᴰ r rs = mem (f ∙ k) in
        slot_high h q rs (omega (arith, rising_low (upto q) r rs s.2 m)) ∙ ih (f ∙ k)
