-- Counting the holders of a backing, one range after the other.
use Rattle.std.specs.Prelude.{◌≡◌, List, length, get_or, take, drop}
use Rattle.std.proofs.Math.Path.{sym}
use Rattle.std.proofs.Common.{◌∙◌, length-take-le}
use Prim.Native.Nat.{ℕ, suc, ◌+◌, ◌≤◌, ◌<◌}
use Rattle.std.proofs.lemmas.List.{length-map}
use borrow.Author.Tests.{eq-eqb, ne_eqb}
use Rattle.lists.specs.Rest.{left_cons, left_end}
use Rattle.ranges.specs.Range.{Range}
use Rattle.ranges.specs.Table.{holders}
use Rattle.table.specs.declared.PageRange.{PageRange}
use Rattle.table.specs.Table.{number_of, ranges_of, zero_range}

-- the ranges from number i on, of the first `count`
abbrev pub left : List PageRange → ℕ → ℕ → List Range
left R count i = ranges_of (drop i (take count R))

module _ (R : List PageRange) (count : ℕ) (l : count ≤ length R) (b : ℕ) where
  pub holders_hit : (i m : ℕ) → i < count → m ≡ number_of (get_or R i zero_range).backing → b ≡ m → holders b (left R count i) ≡ suc (holders b (left R count (i + 1)))
  unfolding ranges_of holders
  holders_hit i m h e k = rw (left_cons count R i zero_range h l, eq-eqb b (number_of (get_or R i zero_range).backing) (k ∙ e))

  pub holders_miss : (i m : ℕ) → i < count → m ≡ number_of (get_or R i zero_range).backing → (b ≡ m → ⊥) → holders b (left R count i) ≡ holders b (left R count (i + 1))
  unfolding ranges_of holders
  holders_miss i m h e k = rw (left_cons count R i zero_range h l, ne_eqb b (number_of (get_or R i zero_range).backing) (λ z. k (z ∙ sym e)))

  pub holders_end : (i : ℕ) → count ≤ i → holders b (left R count i) ≡ 0
  unfolding ranges_of holders
  holders_end i h = rw (left_end count R i h)

pub ranges_length : (R : List PageRange) (count : ℕ) → count ≤ length R → length (ranges_of (take count R)) ≡ count
unfolding ranges_of
ranges_length R count l = length-map (take count R) _ ∙ length-take-le count R l
