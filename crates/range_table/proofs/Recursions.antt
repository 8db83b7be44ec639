-- The recursions over the ranges of a book, in the words of the iterators that compute them.
use Rattle.std.specs.Prelude.{◌≡◌, ◌||◌, List, [], ◌∷◌, ℕ, suc, ◌+◌, eqb, cond, count_by}
use Rattle.std.specs.List.{list_any}
use Rattle.std.specs.Bool.{then_some}
use Rattle.std.proofs.Common.{Some, None, refl, true, false, ap, arith}
use Rattle.std.proofs.Math.Bool.{Bool}
use Rattle.std.proofs.lemmas.List.Recursion.{is_count_by}
use Rattle.lists.specs.Test.{pick}
use Rattle.ranges.specs.Table.{holders, named, window}
use Rattle.table.specs.declared.PageRange.{PageRange}
use Rattle.table.specs.Table.{number_of, range_of, ranges_of}

picked : (b : Bool) (n : ℕ) → pick b (suc n) n ≡ cond b (1 + n) n
picked true n = omega arith
picked false n = refl

pub holders_counted : (b : ℕ) (l : List PageRange) → holders b (ranges_of l) ≡ count_by (λ (r : PageRange). eqb b (number_of r.backing)) l
unfolding holders ranges_of
holders_counted b =
    is_count_by (λ l. holders b (ranges_of l)) (λ (r : PageRange). eqb b (number_of r.backing)) refl
    (λ r l. picked (eqb b (number_of r.backing)) (holders b (ranges_of l)))

pub named_any : (b i : ℕ) (l : List PageRange) → named b i (ranges_of l) ≡ list_any (λ r. window b i (range_of r)) l
unfolding named ranges_of
named_any b i [] = refl
named_any b i (r ∷ l) = ap (λ t. window b i (range_of r) || t) (named_any b i l)

pub picked_some : (t : Bool) (k : ℕ) → then_some t k ≡ pick t (Some k) None
picked_some true k = refl
picked_some false k = refl
