-- THE PAGE STEP of code is the definition's: what leaves with the page is what trimming and vacating take away.
use Rattle.std.specs.Prelude.{◌≡◌, refl, Option, Some, None, Bool, false, ◌&&◌, ◌⊎◌, List, ℕ, ◌+◌, ◌≤◌, ◌<◌, eqb, length, set, take}
use Rattle.std.proofs.Common.{ap, sym, subst, ◌∙◌, inl, inr, arith, eq-eqb, eqb-true}
use Rattle.std.proofs.lemmas.Bool.{false≢true}
use Rattle.table.specs.declared.PageRange.{PageRange}
use Rattle.places.specs.declared.Place.{Place}
use Rattle.edit.specs.declared.RangeTable.{RangeTable}
use Rattle.store.specs.declared.Store.{Store}
use Rattle.pages.specs.declared.Spot.{Spot}
use Rattle.lists.specs.Test.{and_left, and_right, by-test}
use Rattle.ranges.specs.Range.{line, slot_at}
use Rattle.ranges.specs.Table.{named}
use Rattle.table.specs.Table.{number_of, ranges_of}
use Rattle.edit.specs.Edit.{put_table}
use Rattle.frames.specs.Free.{TakenOut}
use Rattle.places.specs.Places.{frame_at, place}
use Rattle.store.specs.Abs.{used}
use Rattle.store.specs.Ranges.{put_ranges}
use Rattle.store.specs.With.{with_free, with_place, with_places}
use Rattle.range_table.specs.Edit.{PutIs, with_table}
use Rattle.pages.specs.Any.{zeros}
use Rattle.pages.specs.Inside.{Inside}
use Rattle.pages.specs.Leaving.{Gentle, Left, uncovered, absent, stays, goes, left_settled}
use Rattle.pages.specs.Settling.{Lodged, Placed}
use Rattle.page_steps.specs.Depart.{departed, gone_at, old_slot, Taken}

-- what departs from a store with another table is what leaves
module _ (s : Store) (u : RangeTable) (g b i : ℕ) where
  abbrev names : ℕ → ℕ → Bool
  names c j = named c j (ranges_of (take u.count u.ranges))

  left_departed : (old : Option Place) → slot_at g (ranges_of (used s)) ≡ old_slot old → Left s g (ranges_of (take u.count u.ranges)) b i (departed (with_table u s) b i old)
  left_departed None e = uncovered e
  left_departed (Some p) e =
      by-test (eqb p.backing b && eqb p.index i)
      (λ q. rw q
      (gone (frame_at p.backing p.index 0 (take s.frames s.places)) refl
      (inl (eqb-true p.backing b (and_left (eqb p.backing b) _ q), eqb-true p.index i (and_right (eqb p.backing b) _ q)))))
      (λ q. by-test (names p.backing p.index)
      (λ n. rw (q, n) (stays p.backing p.index e (λ x y. other q x y) n))
      (λ n. rw (q, n) (gone (frame_at p.backing p.index 0 (take s.frames s.places)) refl (inr n))))
    where
      gone : (k : Option ℕ) → frame_at p.backing p.index 0 (take s.frames s.places) ≡ k
          → ((p.backing ≡ b) × (p.index ≡ i)) ⊎ (named p.backing p.index (ranges_of (take u.count u.ranges)) ≡ false)
          → Left s g (ranges_of (take u.count u.ranges)) b i (gone_at s p)
      gone None f w = rw f (absent p.backing p.index e f)
      gone (Some k) f w = rw f (goes p.backing p.index k e w f)

      other : (eqb p.backing b && eqb p.index i) ≡ false → p.backing ≡ b → p.index ≡ i → ⊥
      other q x y = false≢true (sym q ∙ rw (eq-eqb p.backing b x, eq-eqb p.index i y))

module _ (s : Store) (I : Inside s (zeros s)) (o p : ℕ) (q : Spot) (L : Lodged s o p q) (G : Gentle s o p q) (f : ℕ) (old : Option Place)
    (e : slot_at (line o p) (ranges_of (used s)) ≡ old_slot old) where
  abbrev b : ℕ
  b = number_of q.range.backing

  abbrev u : RangeTable
  u = put_table s.ranges s.count q.range

  abbrev after : List Place
  after = set (departed (with_table u s) b q.index old) f (place b q.index)

  -- the store that the code leaves
  abbrev made : List ℕ → Store
  made d = record { frames = s.frames; live = s.live; count = u.count; ranges = u.ranges; places = after; free = d }

  made_placed : (d : List ℕ) → u.count ≤ 512 → length u.ranges ≡ 512 → TakenOut s.free f d → Placed s q f (made d)
  made_placed d few full T = record {
    frames = refl;
    live = refl;
    table = refl;
    few = few;
    full = full;
    places = sym (left_settled s (zeros s) I o p q L G (ranges_of (take u.count u.ranges)) (put_ranges s.ranges s.count q.range u refl) f
        (departed (with_table u s) b q.index old) (left_departed s u (line o p) b q.index old e));
    taken = T;
  }

  pub step_placed : (v w t y : Store) → s.count + 2 ≤ 512 → PutIs q.range s v → w ≡ with_places (departed v b q.index old) v → t ≡ with_place f (place b q.index) w → Taken t f y
      → Placed s q f y
  step_placed v w t y room P ew et Y =
      let m : t ≡ made s.free = et ∙ ap (with_place f (place b q.index)) (ew ∙ ap (λ (z : Store). with_places (departed z b q.index old) z) P.same) in
      let n : y ≡ made y.free = Y.same ∙ ap (with_free y.free) m in
      let k : v.count ≡ u.count = ap (λ (z : Store). z.count) P.same in
      let r : v.ranges ≡ u.ranges = ap (λ (z : Store). z.ranges) P.same in
      let T : TakenOut s.free f y.free = rw (ap (λ (z : Store). z.free) m) at Y.out in
      subst (λ (z : Store). Placed s q f z) (sym n)
      (made_placed y.free (omega (arith, k, P.few)) (ap length (sym r) ∙ P.table.full) T)

pub lodged_long : (s : Store) (o p : ℕ) (q : Spot) → Lodged s o p q → 0 < q.range.length
lodged_long s o p q L = omega (arith, L.low, L.high)

pub put_frames : (n : PageRange) (s v : Store) → PutIs n s v → s.frames ≤ 1024 → v.frames ≤ 1024
put_frames n s v P h = rw P.same h
