-- WHAT LEAVES WITH A PAGE STEP. When a page is settled, its own old place alone can fall out of all windows: "entries in no holder's window go at once" is a
-- look at that one place.
use Rattle.std.specs.Prelude.{◌≡◌, true, false, ◌⊎◌, eqb, ltb, length, get_or, take, set, Some, None}
use Rattle.std.proofs.Math.Path.{refl}
use Rattle.std.proofs.Common.{ap, ap₂, sym, ◌∙◌, ⊎_elim, get_or-take, length-take-le, eqb-true, ltb-true, ltb-false}
use Rattle.std.proofs.lemmas.Bool.{false≢true}
use Rattle.std.proofs.Math.Logic.{inl, inr}
use mathlib.Core.List.{List, Memᴰ}
use Prim.Native.Nat.{ℕ, zero, suc, ◌+◌, ◌-◌, ◌≤◌, ◌<◌}
use native.Mathlib.Omega.{arith}
use Rattle.table.specs.declared.PageRange.{PageRange}
use Rattle.places.specs.declared.Place.{Place}
use Rattle.store.specs.declared.Store.{Store}
use Rattle.pages.specs.declared.Spot.{Spot}
use Rattle.lists.specs.Test.{by-eq, by-lt, by-test, and_left, and_right}
use Rattle.ranges.specs.Range.{Range, Slot, line, from, upto, put, slot_in, slot_at, Rising}
use Rattle.ranges.specs.Table.{named, holders, previous}
use Rattle.ranges.specs.Find.{named_in, slot_mem, slot_named, previous_gap}
use Rattle.ranges.specs.Fresh.{fresh_unused}
use Rattle.ranges.specs.Hold.{unheld, held_once}
use Rattle.ranges.specs.Over.{put_hit}
use Rattle.ranges.specs.Search.{starts_before, last_of, previous_is}
use Rattle.book.specs.Work.{joins}
use Rattle.laws.specs.State.{Tight, Apart}
use Rattle.table.specs.Table.{number_of, ranged, ranged_of, range_of, ranges_of, zero_range}
use Rattle.places.specs.Places.{frame_at, place, nowhere, place_at, stands_at}
use Rattle.places.specs.Found.{frame_none}
use Rattle.pool.specs.Bytes as bytes
use Rattle.store.specs.Abs.{used}
use Rattle.store.specs.Edits.{slot, vacated, stands_place, cell_at, cell_holds}
use Rattle.store.specs.Good.{mem_at}
use Rattle.store.specs.Idle.{Idle}
use Rattle.store.specs.Located.{located, only_apart}
use Rattle.store.specs.Members.{range_mem}
use Rattle.store.specs.Settle.{settled}
use Rattle.store.specs.Spare.{work_of}
use Rattle.store.specs.Tabled.{same_starts, range_at_lem, last_at}
use Rattle.pages.specs.Inside.{Inside, inside_room, inside_table}
use Rattle.pages.specs.Spot.{own_spot, same_place, longer_spot, shared_range, spot_in, spot_from, spot_of}
use Rattle.pages.specs.Settling.{Lodged}
use Rattle.pages.specs.Trimming.{put_named, vacated_none, vacated_only, vacated_still, Kept, trimmed_all, trimmed_but}

-- ---- a spot that disturbs no other page
pub record Gentle (s : Store) (o p : ℕ) (q : Spot) : Type 0 where
  -- the other pages of its range that are covered are at their slots
  pub kept : (h : ℕ) (t : Slot) → from (ranged q.range) ≤ h → h < upto (ranged q.range) → (h ≡ line o p → ⊥) → slot_at h (ranges_of (used s)) ≡ Some t
      → t ≡ slot_in h (range_of q.range)
  -- its index is in a window only if it is the page's own slot
  pub alone : named (number_of q.range.backing) q.index (ranges_of (used s)) ≡ true
      → slot_at (line o p) (ranges_of (used s)) ≡ Some (slot (number_of q.range.backing) q.index)

module _ (s : Store) (x : List ℕ) (I : Inside s x) (o p : ℕ) where
  rising : Rising 0 (ranges_of (used s))
  unfolding work_of
  rising = I.good.whole.rising

  pub own_gentle : Gentle s o p (own_spot s o p)
  own_gentle = record {
    kept = λ h t l u ne e. absurd (ne (omega arith));
    alone = λ e. let N = named_in _ _ (ranges_of (used s)) e in absurd (unheld _ (ranges_of (used s)) N.r (fresh_unused (ranges_of (used s))) N.mem N.backing);
  }

  module _ (k : ℕ) (last : starts_before (suc (line o p)) (ranged_of (used s)) ≡ suc k) where
    abbrev r : PageRange
    r = get_or s.ranges k zero_range

    inside : (k < s.count) × (from (ranged r) ≤ line o p)
    inside = last_at s.ranges s.count (inside_table s x I) (line o p) k last

    mem : Memᴰ (range_of r) (ranges_of (used s))
    mem =
        let l : length (used s) ≡ s.count = length-take-le s.count s.ranges (omega (arith, I.sized.ranges, I.few_ranges)) in
        range_mem (used s) r (rw (get_or-take s.count s.ranges k zero_range inside.0) at (mem_at (used s) k (omega (arith, inside.0))))

    before : previous (line o p) (ranges_of (used s)) ≡ Some (range_of r)
    before =
        previous_is (range_of zero_range) (line o p) (ranges_of (used s))
        ∙ ap (λ n. last_of (range_of zero_range) n (ranges_of (used s))) (same_starts s.ranges s.count (inside_table s x I) (line o p) ∙ last)
        ∙ ap Some (range_at_lem s.ranges s.count (inside_table s x I) (line o p) k inside.0)

    there : (h : ℕ) (t : Slot) → from (ranged r) ≤ h → h < upto (ranged r) → slot_at h (ranges_of (used s)) ≡ Some t → t ≡ slot_in h (range_of r)
    there h t l u e = let z = sym e ∙ slot_mem 0 h (range_of r) (ranges_of (used s)) rising mem l u in cc

    same_gentle : line o p < upto (ranged r) → Gentle s o p (same_place r (line o p))
    same_gentle u = record {
      kept = λ h t l v ne e. there h t l v e;
      alone = λ e. slot_mem 0 (line o p) (range_of r) (ranges_of (used s)) rising mem inside.1 u;
    }

    longer_gentle : upto (ranged r) ≤ line o p → joins o p (ranges_of (used s)) (range_of r) ≡ true → Gentle s o p (longer_spot r (line o p))
    longer_gentle u t = record {
      kept = λ h w l v ne e. by-lt h (upto (ranged r))
          (λ a. there h w l a e)
          (λ a. absurd (let z : None ≡ Some w = sym (previous_gap 0 (line o p) h (range_of r) (ranges_of (used s)) rising before a (omega (arith, inside.1))) ∙ e in
          let y : ◌≡◌ {A = ℕ} 0 1 = cc in omega arith));
      alone = λ e.
          let one : holders (number_of r.backing) (ranges_of (used s)) ≡ 1 = eqb-true _ 1 (and_left _ _ (and_right (eqb r.object o) _ t)) in
          let N = named_in (number_of r.backing) (r.offset + (line o p - from (ranged r))) (ranges_of (used s)) e in
          let z : range_of r ≡ N.r = held_once (number_of r.backing) (ranges_of (used s)) (range_of r) N.r one mem N.mem refl N.backing in
          let a : r.offset ≡ N.r.offset = ap (λ n. n.offset) z in
          let b : r.length ≡ N.r.len = ap (λ n. n.len) z in
          absurd (omega (arith, inside.1, N.high));
    }

    in_gentle : Gentle s o p (spot_in s o p r)
    in_gentle =
        by-test (ltb (line o p) (upto (ranged r)))
        (λ c. rw c (by-test (shared_range s r) (λ t. rw t own_gentle) (λ t. rw t (same_gentle (ltb-true _ _ c)))))
        (λ c. rw c (by-test (joins o p (ranges_of (used s)) (range_of r)) (λ t. rw t (longer_gentle (ltb-false _ _ c) t)) (λ t. rw t own_gentle)))

  pub spot_gentle : Gentle s o p (spot_of s o p)
  unfolding spot_of
  spot_gentle = go (starts_before (suc (line o p)) (ranged_of (used s))) refl
    where
      go : (n : ℕ) → starts_before (suc (line o p)) (ranged_of (used s)) ≡ n → Gentle s o p (spot_from s o p n)
      go zero h = own_gentle
      go (suc k) h = in_gentle k h

-- ---- THE LAW

-- WHAT IS LEFT of the places once what leaves with the line's page g has left, by what is found: the page is uncovered; or it was at index j of backing c, and no
-- frame stood there, or it is not the new place, index i of backing b, and the new table rs' names it, or neither
pub data Left (s : Store) (g : ℕ) (rs' : List Range) (b i : ℕ) : List Place → Type 0 where
  uncovered : slot_at g (ranges_of (used s)) ≡ None → Left s g rs' b i s.places
  absent : (c j : ℕ) → slot_at g (ranges_of (used s)) ≡ Some (slot c j) → frame_at c j 0 (take s.frames s.places) ≡ None → Left s g rs' b i s.places
  stays : (c j : ℕ) → slot_at g (ranges_of (used s)) ≡ Some (slot c j) → (c ≡ b → j ≡ i → ⊥) → named c j rs' ≡ true → Left s g rs' b i s.places
  goes : (c j k : ℕ) → slot_at g (ranges_of (used s)) ≡ Some (slot c j) → ((c ≡ b) × (j ≡ i)) ⊎ (named c j rs' ≡ false)
      → frame_at c j 0 (take s.frames s.places) ≡ Some k → Left s g rs' b i (set s.places k nowhere)

module _ (s : Store) (x : List ℕ) (I : Inside s x) where
  -- "Each vector entry lies in the window of some range that holds the vector."
  pub inside_kept : (f : ℕ) → f < s.frames → Kept (ranges_of (used s)) (place_at s.places f)
  unfolding work_of Tight Idle
  inside_kept f l =
      by-eq (place_at s.places f).backing 0
      (λ z. inl (I.rest_places f (omega (arith, I.few_frames)) (inr z)))
      (λ ne. inr (
        omega arith,
        I.good.tight f (place_at s.places f).backing (place_at s.places f).index (bytes.frame_at 4096 x f)
            (cell_at 4096 s.frames s.places x f l ∙ cell_holds (place_at s.places f) (bytes.frame_at 4096 x f) ne),
      ))

  -- a slot vacated, by the frame that is found there
  pub vacated_found : (b i f : ℕ) → frame_at b i 0 (take s.frames s.places) ≡ Some f → vacated s.frames b i s.places ≡ set s.places f nowhere
  unfolding work_of Apart
  vacated_found b i f e =
      let L = located 4096 s.frames s.places x b i (inside_room s x I) f e in
      vacated_only s.frames s.places f b i (inside_room s x I)
      (only_apart 4096 s.frames s.places x f b i I.good.apart L.below L.positive L.backing L.index)

  pub vacated_missing : (b i : ℕ) → frame_at b i 0 (take s.frames s.places) ≡ None → vacated s.frames b i s.places ≡ s.places
  vacated_missing b i e =
      vacated_none s.frames b i s.places
      (λ f l. ap (stands_at b i) (sym (get_or-take s.frames s.places f nowhere l))
      ∙ frame_none b i 0 (take s.frames s.places) e f (omega (arith, length-take-le s.frames s.places (inside_room s x I))))

  module _ (o p : ℕ) (q : Spot) (L : Lodged s o p q) (G : Gentle s o p q) (rs' : List Range) (e : rs' ≡ put (range_of q.range) (ranges_of (used s))) where
    abbrev b : ℕ
    b = number_of q.range.backing

    -- every window stays, but that of the page's old slot
    others : (c j : ℕ) → named c j (ranges_of (used s)) ≡ true → (slot_at (line o p) (ranges_of (used s)) ≡ Some (slot c j)) ⊎ (named c j rs' ≡ true)
    others = rw e (put_named (range_of q.range) (line o p) (ranges_of (used s)) (rising s x I o p) G.kept)

    -- the page's new slot is in a window
    here : named b q.index rs' ≡ true
    here =
        slot_named (line o p) rs' (slot b q.index)
        (ap (slot_at (line o p)) e ∙ put_hit (range_of q.range) (line o p) (ranges_of (used s)) L.low L.high ∙ ap (λ i. Some (slot b i)) (sym L.index))

    -- no frame stands at the new slot, unless it is the page's old one
    nobody : (slot_at (line o p) (ranges_of (used s)) ≡ Some (slot b q.index) → ⊥) → (f : ℕ) → f < s.frames → stands_at b q.index (place_at s.places f) ≡ false
    nobody ne f l = by-test (stands_at b q.index (place_at s.places f)) (λ t. absurd (ne (G.alone (at t (inside_kept f l))))) (λ t. t)
      where
        at : stands_at b q.index (place_at s.places f) ≡ true → Kept (ranges_of (used s)) (place_at s.places f) → named b q.index (ranges_of (used s)) ≡ true
        at t (inl z) = absurd (omega (arith, (stands_place b q.index (place_at s.places f) t).0, ap (λ k. k.backing) z))
        at t (inr k) =
            let w = stands_place b q.index (place_at s.places f) t in
            ap₂ (λ c j. named c j (ranges_of (used s))) (sym w.1) (sym w.2) ∙ k.1

    module _ (f : ℕ) where
      abbrev pub after : List Place
      after = settled s.frames rs' f b q.index s.places

      abbrev seat : List Place → List Place
      seat ps = set ps f (place b q.index)

      -- all windows stay, and the new slot was nobody's
      quiet : ((c j : ℕ) → named c j (ranges_of (used s)) ≡ true → named c j rs' ≡ true) → (slot_at (line o p) (ranges_of (used s)) ≡ Some (slot b q.index) → ⊥)
          → after ≡ seat s.places
      quiet h ne =
          ap (λ ps. seat (vacated s.frames b q.index ps)) (trimmed_all s.frames (ranges_of (used s)) rs' s.places inside_kept h)
          ∙ ap seat (vacated_none s.frames b q.index s.places (nobody ne))

      -- no range covers the page: nothing leaves
      pub leaving_none : slot_at (line o p) (ranges_of (used s)) ≡ None → after ≡ set s.places f (place b q.index)
      leaving_none z =
          quiet (λ c j w. ⊎_elim (λ v. absurd (no_slot (slot c j) v)) (λ v. v) (others c j w)) (no_slot (slot b q.index))
        where
          no_slot : (t : Slot) → slot_at (line o p) (ranges_of (used s)) ≡ Some t → ⊥
          no_slot t v = let y : ◌≡◌ {A = ℕ} 0 1 = cc in omega arith

      -- the page was at index j of backing c
      module _ (c j : ℕ) (old : slot_at (line o p) (ranges_of (used s)) ≡ Some (slot c j)) where
        only : (d k : ℕ) → slot_at (line o p) (ranges_of (used s)) ≡ Some (slot d k) → (d ≡ c) × (k ≡ j)
        only d k v = let z : slot d k ≡ slot c j = cc in (ap (λ t. t.inside) z, ap (λ t. t.index) z)

        -- some range still has that in its window: nothing leaves
        pub leaving_stays : (c ≡ b → j ≡ q.index → ⊥) → named c j rs' ≡ true → after ≡ set s.places f (place b q.index)
        leaving_stays ne t =
            quiet (λ d k w. ⊎_elim (λ v. let z = only d k v in ap₂ (λ m i. named m i rs') z.0 z.1 ∙ t) (λ v. v) (others d k w))
            (λ v. let z = only b q.index v in ne (sym z.0) (sym z.1))

        -- none has: what stood there leaves
        pub leaving_gone : named c j rs' ≡ false → after ≡ set (vacated s.frames c j s.places) f (place b q.index)
        leaving_gone t =
            ap (λ ps. seat (vacated s.frames b q.index ps))
            (trimmed_but s.frames (ranges_of (used s)) rs' s.places inside_kept c j t
            (λ d k w. ⊎_elim (λ v. inl (only d k v)) (λ v. inr v) (others d k w)))
            ∙ ap seat (vacated_none s.frames b q.index (vacated s.frames c j s.places)
            (vacated_still s.frames c j b q.index s.places (inside_room s x I) (nobody (λ v.
            let z = only b q.index v in
            false≢true (sym t ∙ ap₂ (λ m i. named m i rs') (sym z.0) (sym z.1) ∙ here)))))

        -- the page stays at its index: what stood there leaves
        pub leaving_same : c ≡ b → j ≡ q.index → after ≡ set (vacated s.frames c j s.places) f (place b q.index)
        leaving_same u v =
            ap (λ ps. seat (vacated s.frames b q.index ps))
            (trimmed_all s.frames (ranges_of (used s)) rs' s.places inside_kept
            (λ d k w. ⊎_elim (λ y. let z = only d k y in ap₂ (λ m i. named m i rs') (z.0 ∙ u) (z.1 ∙ v) ∙ here) (λ y. y) (others d k w)))
            ∙ ap₂ (λ m i. seat (vacated s.frames m i s.places)) (sym u) (sym v)

      -- by what the code has found
      pub left_settled : (ps : List Place) → Left s (line o p) rs' b q.index ps → after ≡ set ps f (place b q.index)
      left_settled ps (uncovered z) = leaving_none z
      left_settled ps (stays c j z ne t) = leaving_stays c j z ne t
      left_settled ps (goes c j k z t v) =
          ⊎_elim (λ (w : (c ≡ b) × (j ≡ q.index)). leaving_same c j z w.0 w.1) (λ w. leaving_gone c j z w) t ∙ ap seat (vacated_found c j k v)
      left_settled ps (absent c j z v) =
          by-test (named c j rs')
          (λ t. by-eq c b
          (λ m. by-eq j q.index (λ n. leaving_same c j z m n ∙ ap seat (vacated_missing c j v)) (λ n. leaving_stays c j z (λ _ w. n w) t))
          (λ m. leaving_stays c j z (λ w _. m w) t))
          (λ t. leaving_gone c j z t ∙ ap seat (vacated_missing c j v))
