-- THE SPOT OF A PAGE THAT IS ADDED: settling it there is the book's step.
use Rattle.std.specs.Prelude.{◌≡◌, true, eqb, ltb, length, get_or}
use Rattle.std.proofs.Math.Path.{refl, ap}
use Rattle.std.proofs.Common.{◌∙◌, le_refl, arith, length-take-le, get_or-take, eqb-true, ltb-true, ltb-false, le-leb}
use mathlib.Core.List.{List, Memᴰ}
use Prim.Native.Nat.{ℕ, zero, suc, ◌≤◌, ◌<◌}
use Rattle.table.specs.declared.PageRange.{PageRange}
use Rattle.store.specs.declared.Store.{Store}
use Rattle.pages.specs.declared.Spot.{Spot}
use Rattle.lists.specs.Test.{by-test, and_left, and_right}
use Rattle.ranges.specs.Range.{line, from, upto}
use Rattle.ranges.specs.Table.{holders, previous}
use Rattle.ranges.specs.Search.{starts_before, last_of, previous_is}
use Rattle.ranges.specs.Fresh.{fresh_unused, fresh_small}
use Rattle.book.specs.Work.{Work, settle, own, blank, is_shared, joins, add_in, add_at, add_page}
use Rattle.table.specs.Table.{Table, number_of, ranged, ranged_of, range_of, ranges_of, zero_range}
use Rattle.store.specs.Abs.{used}
use Rattle.store.specs.Sound.{Kind}
use Rattle.store.specs.Members.{all_of}
use Rattle.store.specs.Good.{kind_small, mem_at}
use Rattle.store.specs.Tabled.{same_starts, range_at_lem, last_at}
use Rattle.pages.specs.Inside.{Inside, inside_table}
use Rattle.pages.specs.Spot.{own_spot, same_place, longer_spot, shared_range, spot_in, spot_from, spot_of}
use Rattle.pages.specs.Next.{join_index}
use Rattle.pages.specs.Settling.{Lodged, begun, stayed, joined}

-- ---- settling it there is the book's step

module _ (s : Store) (o p : ℕ) (w : Work) (e : w.ranges ≡ ranges_of (used s)) where
  abbrev at : Spot → Work
  at q = settle (range_of q.range) q.index (blank w) w

  own_adds : own o p (blank w) w ≡ at (own_spot s o p)
  unfolding own
  own_adds = rw e

  in_adds : (r : PageRange) → from (ranged r) ≤ line o p → add_in o p w (range_of r) ≡ at (spot_in s o p r)
  unfolding add_in
  in_adds r low =
      let sh : is_shared (number_of r.backing) w.ranges ≡ shared_range s r = ap (is_shared (number_of r.backing)) e in
      let jo : joins o p w.ranges (range_of r) ≡ joins o p (ranges_of (used s)) (range_of r) = ap (λ rs. joins o p rs (range_of r)) e in
      rw (le-leb (from (ranged r)) (line o p) low)
      (by-test (ltb (line o p) (upto (ranged r)))
      (λ c. rw c (by-test (shared_range s r) (λ t. rw (sh ∙ t, t) own_adds) (λ t. rw (sh ∙ t, t))))
      (λ c. rw c (by-test (joins o p (ranges_of (used s)) (range_of r)) (λ t. rw (jo ∙ t, t)) (λ t. rw (jo ∙ t, t) own_adds))))

  pub spot_adds : Table s.ranges s.count → add_page o p w ≡ at (spot_of s o p)
  unfolding add_page spot_of
  spot_adds T =
      ap (add_at o p w) (ap (previous (line o p)) e ∙ previous_is (range_of zero_range) (line o p) (ranges_of (used s))
      ∙ ap (λ n. last_of (range_of zero_range) n (ranges_of (used s))) (same_starts s.ranges s.count T (line o p)))
      ∙ go (starts_before (suc (line o p)) (ranged_of (used s))) refl
    where
      go : (n : ℕ) → starts_before (suc (line o p)) (ranged_of (used s)) ≡ n → add_at o p w (last_of (range_of zero_range) n (ranges_of (used s))) ≡ at (spot_from s o p n)
      go zero h = own_adds
      go (suc k) h =
          let L = last_at s.ranges s.count T (line o p) k h in
          rw (range_at_lem s.ranges s.count T (line o p) k L.0) (in_adds (get_or s.ranges k zero_range) L.1)

-- ---- the page can be settled there

module _ (s : Store) (x : List ℕ) (I : Inside s x) (o p : ℕ) (hp : p < 262144) where
  pub own_lodged : Lodged s o p (own_spot s o p)
  own_lodged = record {
    small = record { ends = omega arith; indexes = omega arith };
    low = le_refl (line o p);
    high = omega arith;
    index = omega arith;
    positive = (fresh_small (ranges_of (used s))).0;
    cases = begun _ refl (fresh_unused (ranges_of (used s))) refl refl refl;
  }

  module _ (k : ℕ) (h : k < s.count) (low : from (ranged (get_or s.ranges k zero_range)) ≤ line o p) where
    abbrev r : PageRange
    r = get_or s.ranges k zero_range

    mem : Memᴰ r (used s)
    mem =
        let l : length (used s) ≡ s.count = length-take-le s.count s.ranges (omega (arith, I.sized.ranges, I.few_ranges)) in
        rw (get_or-take s.count s.ranges k zero_range h) at (mem_at (used s) k (omega arith))

    positive : 0 < number_of r.backing
    positive = (kind_small s.frames s.places r r.backing (all_of (λ r. Kind s.frames s.places r r.backing) (used s) I.kinds r mem)).0

    same_lodged : line o p < upto (ranged r) → Lodged s o p (same_place r (line o p))
    same_lodged u = record { small = (inside_table s x I).small k h; low = low; high = u; index = refl; positive = positive; cases = stayed mem }

    longer_lodged : upto (ranged r) ≤ line o p → joins o p (ranges_of (used s)) (range_of r) ≡ true → Lodged s o p (longer_spot r (line o p))
    longer_lodged u t =
        let b = and_right (eqb r.object o) _ t in
        let ob : r.object ≡ o = eqb-true r.object o (and_left _ _ t) in
        let one : holders (number_of r.backing) (ranges_of (used s)) ≡ 1 = eqb-true _ 1 (and_left _ _ b) in
        record {
          small = record { ends = omega arith; indexes = join_index o p (ranges_of (used s)) (range_of r) t };
          low = low;
          high = omega arith;
          index = refl;
          positive = positive;
          cases = joined r mem refl one refl (omega arith);
        }

    in_lodged : Lodged s o p (spot_in s o p r)
    in_lodged =
        by-test (ltb (line o p) (upto (ranged r)))
        (λ c. rw c (by-test (shared_range s r) (λ t. rw t own_lodged) (λ t. rw t (same_lodged (ltb-true _ _ c)))))
        (λ c. rw c (by-test (joins o p (ranges_of (used s)) (range_of r)) (λ t. rw t (longer_lodged (ltb-false _ _ c) t)) (λ t. rw t own_lodged)))

  pub spot_lodged : Lodged s o p (spot_of s o p)
  unfolding spot_of
  spot_lodged = go (starts_before (suc (line o p)) (ranged_of (used s))) refl
    where
      go : (n : ℕ) → starts_before (suc (line o p)) (ranged_of (used s)) ≡ n → Lodged s o p (spot_from s o p n)
      go zero h = own_lodged
      go (suc k) h = let L = last_at s.ranges s.count (inside_table s x I) (line o p) k h in in_lodged k L.0 L.1
