-- A RANGE PUT INTO THE TABLE that has the backing of one there, in code: it is the book's `share` of one range, and ranges of other objects stay.
use Rattle.std.specs.Prelude.{◌≡◌, ◌⊎◌, ℕ, ◌+◌, ◌-◌, ◌*◌, ◌≤◌, ◌<◌}
use Rattle.std.proofs.Math.Path.{refl, ap, subst}
use Rattle.std.proofs.Common.{sym, ◌∙◌}
use Rattle.std.proofs.Math.Logic.{inl, inr, ⊎_elim}
use mathlib.Core.List.{List, map, Memᴰ}
use native.Mathlib.Omega.{arith}
use Rattle.std.proofs.Math.ListN.{length}
use Rattle.table.specs.declared.PageRange.{PageRange}
use Rattle.store.specs.declared.Store.{Store}
use Rattle.lists.specs.Test.{by-lt}
use Rattle.ranges.specs.Range.{line, from, upto, put, slot_at}
use Rattle.ranges.specs.Table.{part, moved}
use Rattle.ranges.specs.Over.{put_keeps}
use Rattle.ranges.proofs.Over.{put_other}
use Rattle.ranges.specs.Few.{put_more}
use Rattle.book.specs.Pages.{with_ranges, share}
use Rattle.laws.specs.Kept.{put_kept}
use Rattle.table.specs.Table.{ranged, unranged, ranged_of, range_of, ranges_of, Small}
use Rattle.table.specs.Holding.{ranges_length}
use Rattle.edit.specs.Edit.{put_table}
use Rattle.store.specs.Abs.{used, table_of}
use Rattle.store.specs.Sound.{Kind}
use Rattle.store.specs.Members.{all_of, mem_map, range_mem, ranged_from}
use Rattle.store.specs.Ranges.{put_ranges, put_used, put_rest}
use Rattle.store.specs.Kinds.{put_member, put_agreed_same}
use Rattle.store.specs.Stands.{kind_moved}
use Rattle.store.specs.Spare.{work_of}
use Rattle.pages.specs.Inside.{Inside, inside_table}
use Rattle.pages.specs.Any.{zeros}
use Rattle.shares.specs.Reranged.{Reranged, reranged_none}
use Rattle.shares.specs.Retabled.{Retabled, retabled, retabled_stay}
use Rattle.shares.specs.Moved.{begins, ends, moved_range, moved_none, moved_one, one_part, moved_small, moved_kind}

-- ---- one range, n

module _ (s : Store) (n : PageRange) (t : Store) (R : Retabled s (put_table s.ranges s.count n) t) (long : 0 < n.length) (small : Small n) (x : List ℕ) (I : Inside s x) where
  -- the book's table
  ranges_put : ranges_of (used t) ≡ put (range_of n) (ranges_of (used s))
  ranges_put = put_ranges s.ranges s.count n (table_of t) R.table

  -- the book's step; n has the backing of a range r of the table
  put_reranged : (r : PageRange) → Memᴰ r (used s) → n.backing ≡ r.backing → Kind s.frames s.places n n.backing → (c : ℕ) → c ≤ from (ranged n)
      → Reranged s x (with_ranges (put (range_of n) (work_of s x).ranges) (work_of s x)) c t
  unfolding work_of
  put_reranged r m e K c l =
      let T = inside_table s x I in
      retabled s x I _ t R c
      (λ g h. ap (slot_at g) ranges_put ∙ put_other (range_of n) g (ranges_of (used s)) (inl (omega arith)))
      (with_ranges (put (range_of n) (work_of s x).ranges) (work_of s x))
      (ap (λ rs. with_ranges rs (work_of s x)) ranges_put)
      (put_kept (range_of n) (work_of s x) (work_of s x) long small.ends (record { good = I.good; size = refl; cells = refl })).good
      (record {
        kinds = λ q k. ⊎_elim
            (λ (z : q ≡ n). inl (kind_moved s.places t.places s.frames (used t) q k (retabled_stay s x I _ t R) (rw z K)))
            (λ u. inr u.0)
            (put_member s.ranges s.count T.rising n (table_of t) long R.table q k);
        agree = put_agreed_same s.ranges s.count T.rising n (table_of t) long R.table I.agree r m e;
        rest = put_rest s.ranges s.count n (table_of t) R.table;
      })

  -- a range of another object stays
  put_others : (p : PageRange) → Memᴰ p (used s) → (p.object ≡ n.object → ⊥) → Memᴰ p (used t)
  unfolding ranged_of work_of
  put_others p m ne =
      let w : p.start.0 + p.length ≤ 262144 = I.good.whole.within (range_of p) (range_mem (used s) p m) in
      let y : (upto (ranged p) ≤ from (ranged n)) ⊎ (upto (ranged n) ≤ from (ranged p)) =
      by-lt p.object n.object (λ l. inl (omega arith)) (λ l. inr (omega (arith, small.ends))) in
      let k = put_keeps (ranged n) (ranged p) (ranged_of (used s)) (inside_table s x I).rising (mem_map ranged p (used s) m) y in
      let F = ranged_from (used t) (ranged p) (rw (put_used s.ranges s.count n (table_of t) R.table) k) in
      subst (λ (z : PageRange). Memᴰ z (used t)) (sym (ap unranged F.is)) F.mem

  -- two slots at most are taken
  put_count : t.count ≤ s.count + 2
  unfolding work_of
  put_count =
      let l : length (ranges_of (used t)) ≤ length (ranges_of (used s)) + 2 = rw ranges_put (put_more (range_of n) (ranges_of (used s)) I.good.whole.rising) in
      omega (
        arith,
        ranges_length s.ranges s.count (omega (arith, I.sized.ranges, I.few_ranges)),
        ranges_length t.ranges t.count (omega (arith, R.full, R.few)),
      )

-- ---- the part of a range

-- THE PART OF RANGE r BETWEEN THE PAGES a AND e SHARED with object o from page q on, from store s to store t
pub record Together (s : Store) (a e o q : ℕ) (r : PageRange) (t : Store) : Type 0 where
  pub step : (x : List ℕ) → Inside s x → Reranged s x (share (map (moved a o q) (part a e (range_of r))) (work_of s x)) (line o q) t
  pub others : (p : PageRange) → Memᴰ p (used s) → (p.object ≡ o → ⊥) → Memᴰ p (used t)
  pub count : t.count ≤ s.count + 2 * length (part a e (range_of r))

-- what that takes: where they meet, the range stands in the table, and there is room
abbrev pub Sharable : Store → ℕ → ℕ → PageRange → Type 0
Sharable s a e r = begins a r < ends e r → (Memᴰ r (used s)) × (s.count + 2 ≤ 512)

module _ (s : Store) (a e o q : ℕ) (r : PageRange) where
  -- they do not meet
  pub together_none : ends e r ≤ begins a r → Together s a e o q r s
  unfolding share
  together_none h = record {
    step = λ x I. reranged_none s x _ (line o q) I (rw (moved_none a e o q r h));
    others = λ p m ne. m;
    count = omega arith;
  }

  -- they do
  pub together_one : Inside s (zeros s) → Small r → q + (e - a) ≤ 262144 → begins a r < ends e r → Memᴰ r (used s) → (t : Store)
      → Retabled s (put_table s.ranges s.count (moved_range a e o q r)) t → Together s a e o q r t
  unfolding share
  together_one I S l h m t R =
      let n : PageRange = moved_range a e o q r in
      let M : Small (moved_range a e o q r) = moved_small a e o q r h S l in
      let K = moved_kind a e o q r h s.frames s.places r.backing (all_of (λ r. Kind s.frames s.places r r.backing) (used s) I.kinds r m) in
      record {
        step = λ x J. rw (moved_one a e o q r h) (put_reranged s n t R (omega arith) M x J r m refl K (line o q) (omega arith));
        others = put_others s n t R (omega arith) M (zeros s) I;
        count = omega (arith, put_count s n t R (omega arith) M (zeros s) I, one_part a e o q r h);
      }
