-- A choice by a test, and how a proof goes by its two cases.
use Rattle.std.specs.Prelude.{◌≡◌, refl, Bool, true, false, ◌&&◌, ℕ, ◌≤◌, ◌<◌, ltb, eqb}
use Rattle.std.proofs.lemmas.Bool.{false≢true, eqb-false}
use Rattle.std.proofs.Common.{ltb-true, ltb-false, eqb-true}

-- `pick t x y` is x where the test t holds, and else y
abbrev pub pick {ℓ} : {A : Type ℓ} → Bool → A → A → A
pick true x y = x
pick false x y = y

-- by the two cases of a test
pub by-test {ℓ} : {P : Type ℓ} (t : Bool) → (t ≡ true → P) → (t ≡ false → P) → P
by-test true f g = f refl
by-test false f g = g refl

pub by-lt {ℓ} : {P : Type ℓ} (a b : ℕ) → (a < b → P) → (b ≤ a → P) → P
by-lt a b f g = by-test (ltb a b) (λ e. f (ltb-true a b e)) (λ e. g (ltb-false a b e))

pub by-eq {ℓ} : {P : Type ℓ} (a b : ℕ) → (a ≡ b → P) → ((a ≡ b → ⊥) → P) → P
by-eq a b f g = by-test (eqb a b) (λ e. f (eqb-true a b e)) (λ e. g (eqb-false a b e))

-- the halves of a test that holds
pub and_left : (a b : Bool) → (a && b) ≡ true → a ≡ true
and_left true b h = refl
and_left false b h = h

pub and_right : (a b : Bool) → (a && b) ≡ true → b ≡ true
and_right true b h = h
and_right false b h = absurd (false≢true h)
