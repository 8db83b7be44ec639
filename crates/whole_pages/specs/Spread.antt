-- Parts of a source's ranges put into the table of a store, and pages cut out of it: the store's steps, trimmed once.
use Rattle.std.specs.Prelude.{◌≡◌, List, ℕ, zero, suc, ◌+◌, ◌-◌, ◌*◌, ◌≤◌, ◌<◌, get_or}
use Rattle.std.proofs.Common.{ap, le_refl, arith}
use Rattle.table.specs.declared.PageRange.{PageRange}
use Rattle.store.specs.declared.Store.{Store}
use Rattle.edit.specs.Edit.{put_table, cut_table}
use Rattle.ranges.specs.Range.{Ranged, line, from, upto}
use Rattle.ranges.specs.Search.{starts_before, ends_by, ends_in, starts_out, ends_few}
use Rattle.table.specs.declared.BackingPages.{BackingPages}
use Rattle.table.specs.Table.{Table, ranged, ranged_of, ranges_of, zero_range}
use Rattle.table.specs.Searching.{starts_count, used_at, used_length}
use Rattle.book.specs.Pages.{met, sharing}
use Rattle.store.specs.Abs.{used, table_of}
use Rattle.store.specs.Edits.{trimmed}
use Rattle.store.specs.Spare.{work_of}
use Rattle.range_table.specs.Edit.{CutIs, PutIs}
use Rattle.pages.specs.Inside.{Inside, inside_table}
use Rattle.pages.specs.Any.{zeros}
use Rattle.shares.specs.Moved.{begins, ends}
use Rattle.shares.specs.Reranged.{Reranged}
use Rattle.shares.specs.Retabled.{Retabled}
use Rattle.shares.specs.Together.{together_none}
use Rattle.shares.specs.Sharing.{Sharing, sharing_end, sharing_start, sharing_turn}
use Rattle.shares.specs.Tidied.{Tabled, tidied, tidied_start}

-- a range put into the table of a store changes nothing else
pub put_tabled : (s t : Store) (n : PageRange) → PutIs n s t → Tabled s (put_table s.ranges s.count n) t
put_tabled s t n P = record {
  frames = ap (λ (q : Store). q.frames) P.same;
  live = ap (λ (q : Store). q.live) P.same;
  free = ap (λ (q : Store). q.free) P.same;
  table = ap table_of P.same;
  few = P.table.few;
  full = P.table.full;
  places = ap (λ (q : Store). q.places) P.same;
}

-- pages cut out and then trimmed
pub cut_retabled : (s t u : Store) (a e : ℕ) → CutIs a e s t → u ≡ tidied t → Retabled s (cut_table s.ranges s.count a e) u
cut_retabled s t u a e C h = rw h (record {
  frames = ap (λ (q : Store). q.frames) C.same;
  live = ap (λ (q : Store). q.live) C.same;
  free = ap (λ (q : Store). q.free) C.same;
  table = ap table_of C.same;
  few = C.table.few;
  full = C.table.full;
  places = λ j. trimmed (C.same j).frames (ranges_of (used t)) (C.same j).places;
})

-- ---- slots that the pages from a up to e do not meet need no turn
module _ (s : Store) (a e o q : ℕ) (I : Inside s (zeros s)) where
  abbrev at : ℕ → PageRange
  at j = get_or s.ranges j zero_range

  skipped : (k i : ℕ) (t : Store) → Sharing s a e o q i t → i + k ≤ s.count → ((j : ℕ) → i ≤ j → j < i + k → ends e (at j) ≤ begins a (at j)) → Sharing s a e o q (i + k) t
  skipped zero i t S h f = let z : i + 0 ≡ i = omega arith in rw z S
  skipped (suc k) i t S h f =
      let z : i + suc k ≡ i + k + 1 = omega arith in
      rw z (sharing_turn s a e o q I (i + k) t (skipped k i t S (omega arith) (λ j l m. f j l (omega arith))) (omega arith) t
      (together_none t a e o q (at (i + k)) (f (i + k) (omega arith) (omega arith))))

  T : Table s.ranges s.count
  T = inside_table s (zeros s) I

  -- the first slots, whose ranges end by a
  skipped_first : (p : ℕ) (t : Store) → p ≡ ends_by a (ranged_of (used s)) → Sharing s a e o q 0 t → Sharing s a e o q p t
  skipped_first p t h S =
      let z : 0 + p ≡ p = omega arith in
      let m : p ≤ s.count = omega (arith, ends_few (ranged zero_range) a (ranged_of (used s)), used_length s.ranges s.count T) in
      rw z at (skipped p 0 t S (omega arith) (λ j l k.
      let u = ends_in (ranged zero_range) a j (ranged_of (used s)) (omega arith) in
      let v = ap (λ (r : Ranged BackingPages). upto r) (used_at s.ranges s.count T j (omega arith)) in
      omega arith))

  -- the last slots, whose ranges begin at e or later
  skipped_last : (i p : ℕ) (t : Store) → p ≡ starts_before e (ranged_of (used s)) → p ≤ i → i ≤ s.count → Sharing s a e o q i t → Sharing s a e o q s.count t
  skipped_last i p t h l m S =
      let z : i + (s.count - i) ≡ s.count = omega arith in
      rw z at (skipped (s.count - i) i t S (omega arith) (λ j b k.
      let n = used_length s.ranges s.count T in
      let u = starts_out (ranged zero_range) e 0 j (ranged_of (used s)) T.rising (omega arith) (omega arith) in
      let v = ap (λ (r : Ranged BackingPages). from r) (used_at s.ranges s.count T j (omega arith)) in
      omega arith))

-- the ranges that begin before a page are in the table
pub begun_few : (s : Store) → Inside s (zeros s) → (g l : ℕ) → l ≡ starts_before g (ranged_of (used s)) → l ≤ s.count
begun_few s I g l h = omega (arith, starts_count s.ranges s.count (inside_table s (zeros s) I) g)

-- ---- n whole pages from page p of object src on, which is page a of the line
module _ (s : Store) (src p o q n a : ℕ) (ea : a ≡ line src p) (I : Inside s (zeros s)) (room : s.count + 2 * met src p n (work_of s (zeros s)) ≤ 512) where
  -- the first range that is met has its turn
  pub sharing_first : (i : ℕ) → i ≡ ends_by a (ranged_of (used s)) → Sharing s a (a + n) o q i (tidied s)
  sharing_first i h = skipped_first s a (a + n) o q I i (tidied s) h (rw ea (tidied_start s src p o q n I room))

  -- the same in the store as it is
  pub sharing_begun : (i : ℕ) → i ≡ ends_by a (ranged_of (used s)) → Sharing s a (a + n) o q i s
  sharing_begun i h = skipped_first s a (a + n) o q I i s h (rw ea (sharing_start s src p o q n room))

  module _ (i l : ℕ) (hl : l ≡ starts_before (a + n) (ranged_of (used s))) (m : l ≤ i) where
    -- the last one has had it
    pub sharing_last : (t : Store) → i ≤ s.count → Sharing s a (a + n) o q i t → (x : List ℕ) → Inside s x → Reranged s x (sharing src p o q n (work_of s x)) (line o q) t
    sharing_last t k S = sharing_end s src p o q n s.count t (rw ea at (skipped_last s a (a + n) o q I i l t hl m k S)) (le_refl s.count)

    -- none is met
    pub sharing_none : i ≡ ends_by a (ranged_of (used s)) → (x : List ℕ) → Inside s x → Reranged s x (sharing src p o q n (work_of s x)) (line o q) s
    sharing_none h =
        sharing_last s (omega (arith, ends_few (ranged zero_range) a (ranged_of (used s)), used_length s.ranges s.count (inside_table s (zeros s) I)))
        (sharing_begun i h)
