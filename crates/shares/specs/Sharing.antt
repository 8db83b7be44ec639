-- THE LOOP OVER THE SOURCE'S RANGES: what holds when those in the first i slots of the table, as it was at the start, are shared.
use Rattle.std.specs.Prelude.{◌≡◌, refl, ℕ, ◌+◌, ◌*◌, ◌≤◌, ◌<◌, length, drop, get_or, replicate}
use Rattle.std.proofs.Math.Path.{ap}
use Rattle.std.proofs.Common.{sym, subst, ◌∙◌, arith, length-append, length-take-le, get_or-take}
use mathlib.Core.List.{List, [], ◌∷◌, ◌++◌, map, map-append, Memᴰ}
use Rattle.std.proofs.Math.ListN.{length-map}
use Rattle.table.specs.declared.PageRange.{PageRange}
use Rattle.store.specs.declared.Store.{Store}
use Rattle.lists.specs.Rest.{left_cons, left_end}
use Rattle.ranges.specs.Range.{Range, line, put}
use Rattle.ranges.specs.Table.{part, parts, moved}
use Rattle.book.specs.Work.{Work}
use Rattle.book.specs.Pages.{with_ranges, share, sharing, met}
use Rattle.table.specs.Table.{range_of, ranges_of, zero_range, Small}
use Rattle.store.specs.Abs.{used}
use Rattle.store.specs.Good.{mem_at}
use Rattle.store.specs.Spare.{work_of}
use Rattle.pages.specs.Inside.{Inside, inside_table}
use Rattle.pages.specs.Any.{zeros}
use Rattle.shares.specs.Reranged.{Reranged, reranged_none, reranged_then}
use Rattle.shares.specs.Moved.{one_part}
use Rattle.shares.specs.Together.{Together, Sharable}

-- ranges put in one after another, in two lots
share_append : (ms ns : List Range) (w : Work) → share (ms ++ ns) w ≡ share ns (share ms w)
unfolding share
share_append [] ns w = refl
share_append (m ∷ ms) ns w = share_append ms ns (with_ranges (put m w.ranges) w)

-- the pages from a up to e of the line shared with object o, whose page q stands for a
module _ (s : Store) (a e o q : ℕ) where
  -- the parts of the ranges from slot i on, as ranges of o
  abbrev left : ℕ → List Range
  left i = map (moved a o q) (parts a e (ranges_of (drop i (used s))))

  -- the first i slots are done, which has made the store t
  pub record Sharing (i : ℕ) (t : Store) : Type 0 where
    pub step : (x : List ℕ) → Inside s x → Reranged s x (work_of t x) (line o q) t
    -- what is left to share makes of it what sharing all makes of s
    pub rest : (x : List ℕ) → Inside s x → share (left i) (work_of t x) ≡ share (left 0) (work_of s x)
    -- ranges of other objects are still there
    pub others : (r : PageRange) → Memᴰ r (used s) → (r.object ≡ o → ⊥) → Memᴰ r (used t)
    -- there is room for what is left
    pub room : t.count + 2 * length (left i) ≤ 512

  module _ (I : Inside s (zeros s)) (i : ℕ) (t : Store) (S : Sharing i t) where
    -- the store stays inside the call
    pub sharing_inside : Inside t (zeros t)
    sharing_inside = let R = S.step (zeros s) I in subst (λ k. Inside t (replicate (k * 4096) 0)) (sym R.frames) R.inside

    module _ (l : i < s.count) where
      -- the range of the turn, and its part
      abbrev r : PageRange
      r = get_or s.ranges i zero_range

      abbrev new : List Range
      new = map (moved a o q) (part a e (range_of r))

      -- the table has all its slots
      long : s.count ≤ length s.ranges
      long = omega (arith, I.sized.ranges, I.few_ranges)

      -- what is left is that part and those from the next slot on
      next_left : left i ≡ new ++ left (i + 1)
      unfolding parts ranges_of
      next_left =
          ap (λ k. map (moved a o q) (parts a e (ranges_of k))) (left_cons s.count s.ranges i zero_range l long)
          ∙ map-append (moved a o q) (part a e (range_of r)) (parts a e (ranges_of (drop (i + 1) (used s))))

      -- and so many they are
      next_length : length (left i) ≡ length (part a e (range_of r)) + length (left (i + 1))
      next_length = ap length next_left ∙ length-append new (left (i + 1)) ∙ ap (λ k. k + length (left (i + 1))) (length-map (part a e (range_of r)) (moved a o q))

      -- the range was in the table at the start, and is small
      here : Memᴰ r (used s)
      here =
          let m = mem_at (used s) i (omega (arith, length-take-le s.count s.ranges long)) in
          rw (get_or-take s.count s.ranges i zero_range l) at m

      pub sharing_small : Small r
      sharing_small = (inside_table s (zeros s) I).small i l

      -- a range that is met is the source's, so it is still in the table
      pub sharing_sharable : (src p n : ℕ) → a ≡ line src p → e ≡ a + n → p + n ≤ 262144 → (src ≡ o → ⊥) → Sharable t a e r
      sharing_sharable src p n ea ee h ne k = (
        S.others r here (λ z. ne (omega (arith, sharing_small.ends))),
        omega (arith, S.room, next_length, one_part a e o q r k),
      )

      module _ (t' : Store) (T : Together t a e o q r t') where
        -- this turn's step, and what is left after it
        turn_now : (x : List ℕ) → Inside s x → Reranged t x (share new (work_of t x)) (line o q) t'
        turn_now x J = T.step x (S.step x J).inside

        turn_rest : (x : List ℕ) → Inside s x → share (left (i + 1)) (work_of t' x) ≡ share (left 0) (work_of s x)
        turn_rest x J =
            ap (share (left (i + 1))) (turn_now x J).work
            ∙ sym (share_append new (left (i + 1)) (work_of t x))
            ∙ ap (λ ns. share ns (work_of t x)) (sym next_left)
            ∙ S.rest x J

        -- A RANGE'S TURN keeps all of it
        pub sharing_turn : Sharing (i + 1) t'
        sharing_turn = record {
          step = λ x J. rw (turn_now x J).work (reranged_then s t t' x _ _ (line o q) (S.step x J) (turn_now x J));
          rest = turn_rest;
          others = λ u m ne. T.others u (S.others u m ne) ne;
          room = omega (arith, T.count, S.room, next_length);
        }

-- ---- n whole pages from page p of object src on

module _ (s : Store) (src p o q n : ℕ) where
  -- nothing is shared yet
  pub sharing_start : s.count + 2 * met src p n (work_of s (zeros s)) ≤ 512 → Sharing s (line src p) (line src p + n) o q 0 s
  unfolding met work_of
  sharing_start l = record {
    step = λ x J. reranged_none s x (work_of s x) (line o q) J refl;
    rest = λ x J. refl;
    others = λ r m ne. m;
    room = omega (arith, l, length-map (parts (line src p) (line src p + n) (ranges_of (used s))) (moved (line src p) o q));
  }

  -- all is shared
  pub sharing_end : (i : ℕ) (t : Store) → Sharing s (line src p) (line src p + n) o q i t → s.count ≤ i
      → (x : List ℕ) → Inside s x → Reranged s x (sharing src p o q n (work_of s x)) (line o q) t
  unfolding sharing parts ranges_of share work_of
  sharing_end i t S h x J =
      let R = S.step x J in
      let z = S.rest x J in
      reranged_then s t t x (work_of t x) _ (line o q) R (reranged_none t x _ (line o q) R.inside (rw (left_end s.count s.ranges i h) at z))
