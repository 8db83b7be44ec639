-- A backing fits its range, range by range.
use Rattle.std.specs.Prelude.{◌≡◌, refl, Bool, true, List, ℕ, ◌+◌, ◌≤◌, ◌<◌, ltb, eqb, get_or, length, take}
use Rattle.std.proofs.Common.{arith, eqb-true, leb-true, ltb-true}
use Rattle.std.proofs.lemmas.Bool.{false≢true}
use Rattle.table.specs.declared.PageRange.{PageRange}
use Rattle.table.specs.declared.BackingPages.{BackingPages}
use Rattle.table.specs.declared.BackingPages.TheVariants.{Nothing, Single, Many}
use Rattle.lists.specs.Test.{and_left, and_right}
use Rattle.lists.specs.Every.{all_below, every}
use Rattle.table.specs.Table.{number_of, zero_range}
use Rattle.range_tests.specs.Agree.{every_below}
use Rattle.range_tests.specs.Shape.{shaped_kind?}

-- the backing of range r fits it
abbrev pub fitting? : PageRange → Bool
fitting? r = shaped_kind? r r.backing

-- that of range i
abbrev pub fitting_at : List PageRange → ℕ → Bool
fitting_at l i = fitting? (get_or l i zero_range)

module _ (r : PageRange) where
  -- backings are numbered from 1
  number : (k : BackingPages) → shaped_kind? r k ≡ true → 0 < number_of k
  number Nothing h = absurd (false≢true h)
  number (Single b) h = ltb-true 0 b (and_left (ltb 0 b) _ h)
  number (Many b) h = ltb-true 0 b (and_left (ltb 0 b) _ h)

  short : (k : BackingPages) → shaped_kind? r k ≡ true → r.offset + r.length ≤ 1048576
  short Nothing h = absurd (false≢true h)
  short (Single b) h =
      let a = and_right (ltb 0 b) _ h in
      let p = eqb-true r.length 1 (and_left (eqb r.length 1) _ a) in
      let q = eqb-true r.offset 0 (and_right (eqb r.length 1) _ a) in
      omega arith
  short (Many b) h = leb-true (r.offset + r.length) 1048576 (and_right (ltb 0 b) _ h)

  pub fitting_number : fitting? r ≡ true → 0 < number_of r.backing
  fitting_number h = number r.backing h

  pub fitting_short : fitting? r ≡ true → r.offset + r.length ≤ 1048576
  fitting_short h = short r.backing h

pub fit_told : (l : List PageRange) (n : ℕ) → n ≤ length l → all_below (fitting_at l) n ≡ every fitting? (take n l)
fit_told l n m = every_below fitting? l zero_range (fitting_at l) n m (λ i h. refl)
