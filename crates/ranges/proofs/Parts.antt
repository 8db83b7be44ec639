-- THE LAW OF WHOLE PAGES, one fact about any span: after the parts of a span are put over a destination, each of its pages is at the slot of its source
-- page, if that is covered, and else where it was; every other page is where it was.
use Rattle.std.specs.Prelude.{◌≡◌, ◌⊎◌, Some}
use Rattle.std.proofs.Math.Path.{refl, ap}
use Rattle.std.proofs.Common.{sym, ◌∙◌, ⊎_elim, arith}
use Rattle.std.proofs.Math.Logic.{inl, inr}
use mathlib.Core.List.{List, [], ◌∷◌, map}
use Prim.Native.Nat.{ℕ, ◌+◌, ◌-◌, ◌≤◌, ◌<◌, min, max}
use Rattle.lists.specs.Test.{by-lt}
use Rattle.ranges.specs.Range.{Range, line, from, upto, slot_in, slot_at, put, Rising}
use Rattle.ranges.specs.Table.{parts, moved}
use Rattle.ranges.specs.Cut.{slot_hit, slot_low, slot_high}
use Rattle.ranges.specs.Find.{below_all}
use Rattle.ranges.specs.Over.{put_hit}
use Rattle.ranges.proofs.Over.{put_other}
use Rattle.ranges.specs.Parts.{put_all, or_else, part_some, part_none, slice, source}

-- the index goes with the page
same_index : (f a b m g k : ℕ) → a ≤ b → k ≤ b → m ≤ g → b ≤ a + (g - m) → f + (b - k) + (g - (m + (b - a))) ≡ f + ((a + (g - m)) - k)
same_index f a b m g k p q r s = omega arith

-- one range of the source, put over its part of the destination
module _ (a o q b t : ℕ) (r : Range) (rs : List Range) (ab : a ≤ b) (rb : from r ≤ b) (bt : b < t) where
  abbrev n : Range
  n = moved a o q (slice b t r)

  begins : from n ≡ line o q + (b - a)
  begins = omega arith

  ends : upto n ≡ line o q + (t - a)
  ends = omega arith

  one_out : (g : ℕ) → (g < line o q + (b - a)) ⊎ (line o q + (t - a) ≤ g) → slot_at g (put n rs) ≡ slot_at g rs
  one_out g x =
      put_other n g rs
      (⊎_elim (λ (l : g < line o q + (b - a)). inl (rw begins l)) (λ (l : line o q + (t - a) ≤ g). inr (rw ends l)) x)

  one_in : (g : ℕ) → line o q ≤ g → b ≤ source a o q g → source a o q g < t → slot_at g (put n rs) ≡ Some (slot_in (source a o q g) r)
  one_in g l lo hi =
      let x : from n ≤ g = rw begins (omega arith) in
      let y : g < upto n = rw ends (omega arith) in
      let z : (r.offset + (b - from r)) + (g - from n) ≡ r.offset + (source a o q g - from r) = rw begins (same_index r.offset a b (line o q) g (from r) ab rb l lo) in
      put_hit n g rs x y ∙ ap (λ j. Some (record { inside = r.backing; index = j })) z

module _ (a o q e : ℕ) where
  -- outside the span
  pub shared_out : (g : ℕ) (src rs : List Range) → (g < line o q) ⊎ (line o q + (e - a) ≤ g)
      → slot_at g (put_all (map (moved a o q) (parts a e src)) rs) ≡ slot_at g rs
  unfolding put_all parts
  shared_out g [] rs x = refl
  shared_out g (r ∷ src) rs x =
      by-lt (max a (from r)) (min e (upto r))
      (λ h. rw (part_some a e r h)
      (shared_out g src _ x
      ∙ one_out a o q (max a (from r)) (min e (upto r)) r rs (omega arith) (omega arith) h g
      (⊎_elim (λ (l : g < line o q). inl (omega arith)) (λ (l : line o q + (e - a) ≤ g). inr (omega arith)) x)))
      (λ h. rw (part_none a e r h) (shared_out g src rs x))

  -- in the span
  pub shared_in_lem : (g low : ℕ) (src rs : List Range) → Rising low src → line o q ≤ g → g < line o q + (e - a)
      → slot_at g (put_all (map (moved a o q) (parts a e src)) rs) ≡ or_else (slot_at (source a o q g) src) (slot_at g rs)
  unfolding put_all parts Rising
  shared_in_lem g low [] rs s l u = unfold slot_at in refl
  shared_in_lem g low (r ∷ src) rs s l u =
      by-lt (max a (from r)) (min e (upto r))
      (λ k. rw (part_some a e r k)
      (shared_in_lem g (upto r) src _ s.2 l u
      ∙ meets (max a (from r)) (min e (upto r)) (omega arith) (omega arith) k (omega arith)
      (λ w. omega arith) (λ w. omega arith)))
      (λ k. rw (part_none a e r k)
      (shared_in_lem g (upto r) src rs s.2 l u
      ∙ ap (λ t. or_else t (slot_at g rs))
      (sym (by-lt (source a o q g) (from r) (λ z. slot_low (source a o q g) r src z) (λ z. slot_high (source a o q g) r src (omega arith))))))
    where
      h : ℕ
      h = source a o q g

      meets : (b t : ℕ) → a ≤ b → from r ≤ b → b < t → t ≤ upto r → (h < b → h < from r) → (t ≤ h → upto r ≤ h)
          → or_else (slot_at h src) (slot_at g (put (moved a o q (slice b t r)) rs)) ≡ or_else (slot_at h (r ∷ src)) (slot_at g rs)
      meets b t ab rb bt tu lo hi =
          by-lt h b
          (λ z. rw (slot_low h r src (lo z), one_out a o q b t r rs ab rb bt g (inl (omega arith))))
          (λ z. by-lt h t
          (λ v. rw (below_all (upto r) h src s.2 (omega arith), slot_hit h r src (omega arith) (omega arith), one_in a o q b t r rs ab rb bt g l z v))
          (λ v. rw (slot_high h r src (hi v), one_out a o q b t r rs ab rb bt g (inr (omega arith)))))
