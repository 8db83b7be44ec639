-- PARTS PUT WHERE NO RANGE IS: each is one row more in a gap of the table. No window is lost, so that nothing is to be trimmed.
use Rattle.std.specs.Prelude.{◌≡◌, true, length, get_or}
use Rattle.std.proofs.Math.Path.{refl, ap, subst}
use Rattle.std.proofs.Common.{sym, ◌∙◌, not-suc-le-zero}
use mathlib.Core.List.{List, Memᴰ}
use Prim.Native.Nat.{ℕ, zero, suc, ◌+◌, ◌-◌, ◌≤◌, ◌<◌, min, max}
use native.Mathlib.Omega.{arith}
use Rattle.table.specs.declared.PageRange.{PageRange}
use Rattle.table.specs.declared.BackingPages.{BackingPages}
use Rattle.store.specs.declared.Store.{Store}
use Rattle.lists.specs.Test.{by-lt}
use Rattle.ranges.specs.Range.{Ranged, line, from, upto, put}
use Rattle.ranges.specs.Table.{named}
use Rattle.ranges.specs.Find.{In, named_in, named_mem}
use Rattle.ranges.specs.Search.{rising_next, starts_before, ends_by}
use Rattle.ranges.specs.Gap.{Gap, gap_found, gap_here, gap_high, gap_keeps, gap_length, gap_less, gap_low, gap_next}
use Rattle.table.specs.Table.{Table, Small, ranged, unranged, ranged_of, ranges_of, zero_range}
use Rattle.table.specs.Searching.{used_at, used_length}
use Rattle.edit.specs.Edit.{put_table}
use Rattle.edit.specs.Keeps.{put_keeps}
use Rattle.store.specs.Abs.{used, table_of}
use Rattle.store.specs.Members.{mem_map, range_from, range_mem, ranged_from}
use Rattle.store.specs.Ranges.{put_used}
use Rattle.pages.specs.Inside.{Inside, inside_table}
use Rattle.pages.specs.Any.{zeros}
use Rattle.pages.specs.Trimming.{trimmed_all}
use Rattle.pages.specs.Leaving.{inside_kept}
use Rattle.shares.specs.Retabled.{Retabled}
use Rattle.shares.specs.Moved.{begins, ends, moved_range, moved_small}
use Rattle.shares.specs.Together.{Together, together_one}
use Rattle.shares.specs.Sharing.{Sharing, sharing_inside, sharing_small, sharing_sharable, sharing_turn}
use Rattle.shares.specs.Tidied.{Tabled}

abbrev pub row : Store → ℕ → PageRange
row s j = get_or s.ranges j zero_range

-- ---- rows that move up: from store s to store t those from slot p on stand k - p slots further, and those before it stay
pub record Risen (s : Store) (p : ℕ) (t : Store) (k : ℕ) : Type 0 where
  pub within : p ≤ s.count
  pub more : p ≤ k
  pub count : t.count + p ≡ s.count + k
  pub low : (j : ℕ) → j < p → row t j ≡ row s j
  pub high : (j : ℕ) → p ≤ j → j < s.count → row t (j + (k - p)) ≡ row s j

risen_none : (s : Store) (p : ℕ) → p ≤ s.count → Risen s p s p
risen_none s p h = record {
  within = h;
  more = omega arith;
  count = refl;
  low = λ j l. refl;
  high = λ j l m. let z : j + (p - p) ≡ j = omega arith in ap (row s) z;
}

risen_then : (s : Store) (p : ℕ) (t : Store) (k : ℕ) (u : Store) (m : ℕ) → Risen s p t k → Risen t k u m → Risen s p u m
risen_then s p t k u m R S = record {
  within = R.within;
  more = omega (arith, R.more, S.more);
  count = omega (arith, R.count, S.count);
  low = λ j l. S.low j (omega (arith, R.more)) ∙ R.low j l;
  high = λ j l b.
      let z : j + (m - p) ≡ j + (k - p) + (m - k) = omega (arith, R.more, S.more) in
      ap (row u) z ∙ S.high (j + (k - p)) (omega (arith, R.more)) (omega (arith, R.count, R.more)) ∙ R.high j l b;
}

-- ---- one range, n, put into a gap, which is behind the first p ranges
module _ (s : Store) (x : List ℕ) (I : Inside s x) (n : PageRange) (long : 0 < n.length) (g e p : ℕ) (G : Gap (ranged zero_range) g e (ranged_of (used s)) p)
    (low : g ≤ from (ranged n)) (high : upto (ranged n) ≤ e) where
  T : Table s.ranges s.count
  T = inside_table s x I

  module _ (t : Store) (P : Tabled s (put_table s.ranges s.count n) t) where
    is_put : ranged_of (used t) ≡ put (ranged n) (ranged_of (used s))
    is_put = put_used s.ranges s.count n (table_of t) P.table

    -- what is left of the gap
    filled_gap : Gap (ranged zero_range) (upto (ranged n)) e (ranged_of (used t)) (p + 1)
    filled_gap = rw is_put (gap_next (ranged zero_range) g e (ranged_of (used s)) p G T.rising (ranged n) long low high)

    -- every range stays
    stays : (r : PageRange) → Memᴰ r (used s) → Memᴰ r (used t)
    unfolding ranged_of
    stays r m =
        let k = gap_keeps (ranged zero_range) g e (ranged_of (used s)) p G T.rising (ranged n) long low high (ranged r) (mem_map ranged r (used s) m) in
        let F = ranged_from (used t) (ranged r) (rw is_put k) in
        subst (λ (z : PageRange). Memᴰ z (used t)) (sym (ap unranged F.is)) F.mem

    -- and so does every window
    names : (b i : ℕ) → named b i (ranges_of (used s)) ≡ true → named b i (ranges_of (used t)) ≡ true
    names b i h =
        let N : In b i (ranges_of (used s)) = named_in b i (ranges_of (used s)) h in
        let F = range_from (used s) N.r N.mem in
        named_mem b i (ranges_of (used t)) N.r (rw F.is (range_mem (used t) F.source (stays F.source F.mem))) N.backing N.low N.high

    -- so the places are as they were
    filled_retabled : Retabled s (put_table s.ranges s.count n) t
    filled_retabled = record {
      frames = P.frames;
      live = P.live;
      free = P.free;
      table = P.table;
      few = P.few;
      full = P.full;
      places = P.places ∙ sym (trimmed_all s.frames (ranges_of (used s)) (ranges_of (used t)) s.places (inside_kept s x I) names);
    }

    module _ (U : Table t.ranges t.count) where
      more : t.count ≡ s.count + 1
      more =
          omega (
            arith,
            used_length t.ranges t.count U,
            used_length s.ranges s.count T,
            ap length is_put,
            gap_length (ranged zero_range) g e (ranged_of (used s)) p G T.rising (ranged n) long low high,
          )

      filled_here : row t p ≡ n
      filled_here =
          ap unranged
          (sym (used_at t.ranges t.count U p (omega (arith, more, G.inside, used_length s.ranges s.count T)))
          ∙ ap (λ k. get_or k p (ranged zero_range)) is_put
          ∙ gap_here (ranged zero_range) g e (ranged_of (used s)) p G T.rising (ranged n) long low high)

      filled_risen : Risen s p t (p + 1)
      filled_risen =
          let c = more in
          let l = used_length s.ranges s.count T in
          let w : p ≤ s.count = omega (arith, G.inside) in
          record {
            within = w;
            more = omega arith;
            count = omega arith;
            low = λ j h.
                ap unranged
                (sym (used_at t.ranges t.count U j (omega arith))
                ∙ ap (λ k. get_or k j (ranged zero_range)) is_put
                ∙ gap_low (ranged zero_range) g e (ranged_of (used s)) p G T.rising (ranged n) long low high j h
                ∙ used_at s.ranges s.count T j (omega arith));
            high = λ j h m.
                let z : j + (p + 1 - p) ≡ suc j = omega arith in
                ap (row t) z
                ∙ ap unranged
                (sym (used_at t.ranges t.count U (suc j) (omega arith))
                ∙ ap (λ k. get_or k (suc j) (ranged zero_range)) is_put
                ∙ gap_high (ranged zero_range) g e (ranged_of (used s)) p G T.rising (ranged n) long low high j h
                ∙ used_at s.ranges s.count T j m);
          }

-- ---- the part of a range r between the pages a and e, as a range of object o whose page q stands for a

-- no range has the pages of the destination from that part on: the first p ranges stand before them, the others behind
abbrev pub Free : Store → ℕ → ℕ → ℕ → ℕ → PageRange → ℕ → Type 0
Free s a e o q r p = Gap (ranged zero_range) (line o q + (begins a r - a)) (line o q + (e - a)) (ranged_of (used s)) p

-- the part is shared as row p, and the next goes behind it
pub record Inserted (s : Store) (a e o q : ℕ) (r : PageRange) (p : ℕ) (t : Store) : Type 0 where
  pub together : Together s a e o q r t
  pub risen : Risen s p t (p + 1)
  pub here : row t p ≡ moved_range a e o q r
  pub gap : Gap (ranged zero_range) (line o q + (ends e r - a)) (line o q + (e - a)) (ranged_of (used t)) (p + 1)

-- the store with the part put into its table
abbrev with_part : ℕ → ℕ → ℕ → ℕ → PageRange → Store → Store
with_part a e o q r s = record {
  frames = s.frames;
  live = s.live;
  count = (put_table s.ranges s.count (moved_range a e o q r)).count;
  ranges = (put_table s.ranges s.count (moved_range a e o q r)).ranges;
  places = s.places;
  free = s.free;
}

-- where the part from page b up to page u ends
reaches : (o q a b u : ℕ) → a ≤ b → b < u → line o (q + (b - a)) + (u - b) ≤ line o q + (u - a)
reaches o q a b u l h = omega arith

-- the next range's part begins there or later
follows : (z a e u v : ℕ) → u ≤ v → z + (min e u - a) ≤ z + (max a v - a)
follows z a e u v h = omega arith

inserted : (s : Store) (a e o q : ℕ) (r : PageRange) (p : ℕ) → Inside s (zeros s) → Free s a e o q r p → Small r → q + (e - a) ≤ 262144 → begins a r < ends e r
    → Memᴰ r (used s) → s.count + 2 ≤ 512 → Inserted s a e o q r p (with_part a e o q r s)
inserted s a e o q r p I F S l h m room =
    let n : PageRange = moved_range a e o q r in
    let t : Store = with_part a e o q r s in
    let U : Table t.ranges t.count =
    (put_keeps s.ranges s.count (inside_table s (zeros s) I) n (moved_small a e o q r h S l) (omega arith) room (put_table s.ranges s.count n) refl).0 in
    let P : Tabled s (put_table s.ranges s.count n) t = record { frames = refl; live = refl; free = refl; table = refl; few = U.few; full = U.full; places = refl } in
    record {
      together = together_one s a e o q r I S l h m t (filled_retabled s (zeros s) I n (omega arith) _ _ p F (omega arith) (omega arith) t P);
      risen = filled_risen s (zeros s) I n (omega arith) _ _ p F (omega arith) (omega arith) t P U;
      here = filled_here s (zeros s) I n (omega arith) _ _ p F (omega arith) (omega arith) t P U;
      gap = gap_less (ranged zero_range) _ _ (ranged_of (used t)) (p + 1) (filled_gap s (zeros s) I n (omega arith) _ _ p F (omega arith) (omega arith) t P) _
          (reaches o q a (begins a r) (ends e r) (omega arith) h);
    }

-- ---- ONE PART AFTER ANOTHER: those of the ranges from slot f on, as the rows from c on
module _ (s : Store) (a e o q c f : ℕ) where
  -- part i, and the store with the first i parts
  abbrev pub piece : ℕ → PageRange
  piece i = moved_range a e o q (row s (f + i))

  unfoldable pub made : ℕ → Store
  made zero = s
  made (suc i) = with_part a e o q (row s (f + i)) (made i)

  pub record Filled (i : ℕ) : Type 0 where
    pub sharing : Sharing s a e o q (f + i) (made i)
    pub free : f + i < s.count → Free (made i) a e o q (row s (f + i)) (c + i)
    pub risen : Risen s c (made i) (c + i)
    pub laid : (m : ℕ) → m < i → row (made i) (c + m) ≡ piece m
    pub same : made i ≡ record { frames = s.frames; live = s.live; count = (made i).count; ranges = (made i).ranges; places = s.places; free = s.free }

  module _ (I : Inside s (zeros s)) where
    table : Table s.ranges s.count
    table = inside_table s (zeros s) I

    -- a range ends before the next begins
    rises : (i j : ℕ) → i < j → j < s.count → upto (ranged (row s i)) ≤ from (ranged (row s j))
    rises i j h l =
        omega (
          arith,
          rising_next (ranged zero_range) 0 i j (ranged_of (used s)) table.rising h (omega (arith, used_length s.ranges s.count table)),
          ap (λ (r : Ranged BackingPages). upto r) (used_at s.ranges s.count table i (omega arith)),
          ap (λ (r : Ranged BackingPages). from r) (used_at s.ranges s.count table j l),
        )

    -- two searches found that no range has the pages
    pub filled_start : (n : ℕ) → e ≡ a + n → Sharing s a e o q f s → c ≡ ends_by (line o q) (ranged_of (used s)) → starts_before (line o q + n) (ranged_of (used s)) ≤ c → Filled 0
    unfolding made
    filled_start n ee S ec h =
        let z : line o q + n ≡ line o q + (e - a) = omega arith in
        let y : f + 0 ≡ f = omega arith in
        let x : c + 0 ≡ c = omega arith in
        let G = gap_found (ranged zero_range) (line o q) (line o q + (e - a)) 0 c _ (ranged_of (used s)) table.rising ec refl (rw z at h) in
        record {
          sharing = rw y S;
          free = λ l. rw x (gap_less (ranged zero_range) _ _ (ranged_of (used s)) c G _ (omega arith));
          risen = rw x (risen_none s c (omega (arith, G.inside, used_length s.ranges s.count table)));
          laid = λ m l. absurd (not-suc-le-zero l);
          same = refl;
        }

    module _ (src p n : ℕ) (ea : a ≡ line src p) (ee : e ≡ a + n) (pn : p + n ≤ 262144) (ne : src ≡ o → ⊥) (qn : q + (e - a) ≤ 262144) where
      -- one more
      pub filled_turn : (i : ℕ) → f + i < s.count → begins a (row s (f + i)) < ends e (row s (f + i)) → Filled i → Filled (suc i)
      unfolding made
      filled_turn i l h D =
          let y : f + i + 1 ≡ f + suc i = omega arith in
          let x : c + i + 1 ≡ c + suc i = omega arith in
          let r : PageRange = row s (f + i) in
          let t : Store = with_part a e o q (row s (f + i)) (made i) in
          let H = sharing_sharable s a e o q I (f + i) (made i) D.sharing l src p n ea ee pn ne h in
          let X : Inserted (made i) a e o q (row s (f + i)) (c + i) (with_part a e o q (row s (f + i)) (made i)) =
          inserted (made i) a e o q r (c + i) (sharing_inside s a e o q I (f + i) (made i) D.sharing) (D.free l)
          (sharing_small s a e o q I (f + i) (made i) D.sharing l) qn h H.0 H.1 in
          record {
            sharing = subst (λ k. Sharing s a e o q k t) y (sharing_turn s a e o q I (f + i) (made i) D.sharing l t X.together);
            free = λ m.
                subst (λ k. Gap (ranged zero_range) (line o q + (begins a (row s (f + suc i)) - a)) (line o q + (e - a)) (ranged_of (used t)) k) x
                (gap_less (ranged zero_range) _ _ (ranged_of (used t)) (c + i + 1) X.gap _
                (follows (line o q) a e (upto (ranged (row s (f + i)))) (from (ranged (row s (f + suc i)))) (rises (f + i) (f + suc i) (omega arith) m)));
            risen = subst (λ k. Risen s c t k) x (risen_then s c (made i) (c + i) t (c + i + 1) D.risen X.risen);
            laid = λ m b.
                by-lt m i
                (λ k. X.risen.low (c + m) (omega arith) ∙ D.laid m k)
                (λ k. let z : m ≡ i = omega arith in rw z X.here);
            same = ap (λ (k : Store). record { frames = k.frames; live = k.live; count = t.count; ranges = t.ranges; places = k.places; free = k.free }) D.same;
          }
