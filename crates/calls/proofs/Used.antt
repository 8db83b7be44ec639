-- The frames in use, counted as an iterator counts them; and the numbers that a creation takes.
use Rattle.std.specs.Prelude.{◌≡◌, List, ℕ, ◌+◌, count_by, cond, eqb, ltb, not}
use Rattle.std.proofs.Common.{refl, true, false, arith, lt-ltb, ne_eqb}
use Rattle.std.proofs.Math.Bool.{Bool}
use Rattle.std.proofs.lemmas.List.Recursion.{is_count_by}
use Rattle.lists.specs.Test.{by-eq, pick}
use Rattle.places.specs.declared.Place.{Place}
use Rattle.places.specs.Places.{is_vacant, used_count}

picked : (b : Bool) (n : ℕ) → pick b 1 0 + n ≡ cond b (1 + n) n
picked true n = omega arith
picked false n = omega arith

-- a frame that is not free stands at a backing
not_free : (b : ℕ) → ltb 0 b ≡ not (eqb b 0)
not_free b = by-eq b 0 (λ e. rw e) (λ e. rw (ne_eqb b 0 e) (lt-ltb 0 b (omega arith)))

pub used_counted : (l : List Place) → used_count l ≡ count_by (λ (p : Place). not (is_vacant p)) l
unfolding used_count
used_counted = is_count_by used_count (λ (p : Place). not (is_vacant p)) refl (λ p l. rw (not_free p.backing) (picked (not (is_vacant p)) (used_count l)))
