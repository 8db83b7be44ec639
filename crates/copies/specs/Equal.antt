-- A COPY AT EQUAL PLACES, in parts: the head's bytes, whole pages shared, the tail's bytes. There is room for each part.
use Rattle.std.specs.Prelude.{◌≡◌, ◌⊎◌, List, ℕ, suc, ◌+◌, ◌*◌, ◌/◌, ◌%◌, ◌≤◌, ◌<◌, eqb, length}
use Rattle.std.proofs.Common.{ap, subst, ◌∙◌, inl, inr, ⊎_elim, le_refl, arith, eq-eqb, ne_eqb}
use Rattle.std.proofs.Math.Path.{sym}
use Rattle.store.specs.declared.Store.{Store}
use Rattle.lists.specs.Test.{pick, by-eq, by-lt}
use Rattle.ranges.specs.Range.{line}
use Rattle.book.specs.Page.{Span, span_of, tail_at, touched}
use Rattle.book.specs.Work.{Work, page_of}
use Rattle.book.specs.Bytes.{reading, writing}
use Rattle.book.specs.Pages.{sharing, met}
use Rattle.book.specs.Copy.{copy_bytes, copy_equal}
use Rattle.book.specs.Need.{wants, partly, counted_parts}
use Rattle.laws.specs.Cost.{Cost}
use Rattle.laws.specs.Spans.{span_sum, head_fits, whole_in}
use Rattle.laws.specs.Taken.{touched_one}
use Rattle.laws.specs.SharedPages.{sharing_out, sharing_none}
use Rattle.laws.specs.Copying as laws
use Rattle.frames.specs.Free.{spare_of}
use Rattle.store.specs.Spare.{work_of}
use Rattle.pages.specs.Inside.{Inside, spare_words, ranges_count}
use Rattle.pages.specs.Steps.{size_is}
use Rattle.writes.specs.Turn.{want_at}
use Rattle.pages.specs.Part.{Part, part_then}
use Rattle.writes.specs.Written.{Room, Written}
use Rattle.writes.specs.Parts.{written_to, written_part}
use Rattle.moves.specs.Source.{Elsewhere, source_length, source_same}
use Rattle.shares.specs.Reranged.{Reranged}
use Rattle.copies.specs.Parts.{reranged_part, reranged_still, head_behind, tail_behind}

module _ (s : Store) (x : List ℕ) (I : Inside s x) (src xo o yo n : ℕ) (hx : xo + n ≤ 1073741824) (hy : yo + n ≤ 1073741824) (other : src ≡ o → ⊥)
    (even : xo % 4096 ≡ yo % 4096) where
  abbrev w : Work
  w = work_of s x

  abbrev P : Span
  P = span_of 4096 xo n

  abbrev each : ℕ → ℕ
  each q = wants o q w

  abbrev ph : ℕ
  ph = yo / 4096

  abbrev pt : ℕ
  pt = (yo + tail_at 4096 P) / 4096

  -- the first whole page of the source, and of the destination
  abbrev ps : ℕ
  ps = (xo + P.head) / 4096

  abbrev pd : ℕ
  pd = (yo + P.head) / 4096

  -- what is counted for the head's page, and for the tail's
  abbrev hd : ℕ
  hd = partly P each ph P.head

  abbrev tl : ℕ
  tl = partly P each pt P.tail

  -- the work after the head, and after the whole pages
  abbrev u : Work
  u = copy_bytes src xo o yo P.head w w

  abbrev v : Work
  v = sharing src ps o pd P.whole u

  pub sum : P.head + P.whole * 4096 + P.tail ≡ n
  sum = span_sum 4096 xo n (omega arith)

  counts : counted_parts each 4096 yo n ≡ hd + tl
  unfolding work_of
  counts = sym (laws.counts src xo o yo n w I.good (size_is s x) other hx hy even)

  head_takes : ℕ
  head_takes = pick (eqb P.head 0) 0 (each ph)

  tail_takes : ℕ
  tail_takes = pick (eqb P.tail 0) 0 (wants o pt v)

  head_few : head_takes ≤ hd
  unfolding work_of head_takes
  head_few = laws.head_counts src xo o yo n w I.good (size_is s x) other hx hy even

  tail_few : tail_takes ≤ tl
  unfolding work_of tail_takes
  tail_few = laws.tail_counts src xo o yo n w I.good (size_is s x) other hx hy even

  head_want : want_at o yo P.head w ≡ head_takes
  unfolding work_of head_takes
  head_want = laws.head_wanted src xo o yo n w I.good (size_is s x) other hx hy even

  tail_want : want_at o (yo + tail_at 4096 P) P.tail v ≡ tail_takes
  unfolding work_of tail_takes
  tail_want = laws.tail_wanted src xo o yo n w I.good (size_is s x) other hx hy even

  head_cost : Cost head_takes (2 * head_takes) w u
  unfolding work_of head_takes
  head_cost = laws.to_u src xo o yo n w I.good (size_is s x) other hx hy even

  abbrev meets : ℕ
  meets = 2 * met src ps P.whole w

  middle_cost : Cost head_takes (2 * head_takes + meets) w v
  unfolding work_of head_takes
  middle_cost = laws.to_v src xo o yo n w I.good (size_is s x) other hx hy even

  -- the head's write leaves the source's ranges
  same_meets : met src ps P.whole u ≡ met src ps P.whole w
  unfolding work_of
  same_meets = (laws.beside src xo o yo n w I.good (size_is s x) other hx hy even).meets src ps P.whole other (laws.p_bound src xo o yo n w I.good (size_is s x) other hx hy even)

  module _ (frames : counted_parts each 4096 yo n ≤ length (spare_of s.free 1024)) (slots : s.count + (2 * counted_parts each 4096 yo n + meets) ≤ 512) where
    -- there is room for the head
    pub equal_head : Room s x o yo P.head
    equal_head = record {
      inside = I;
      ends = omega (arith, sum);
      spare = omega (arith, counts, head_few, head_want);
      slots = omega (arith, counts, head_few, head_want);
    }

    -- for the whole pages
    pub equal_middle : (a : Store) (y : List ℕ) → work_of a y ≡ u → Inside a y → a.count + 2 * met src ps P.whole (work_of a y) ≤ 512
    equal_middle a y e K =
        let l : length (work_of a y).ranges ≡ length u.ranges = ap (λ (z : Work). length z.ranges) e in
        let m : met src ps P.whole (work_of a y) ≡ met src ps P.whole w = ap (λ (z : Work). met src ps P.whole z) e ∙ same_meets in
        omega (arith, counts, head_few, head_cost.ranges, ranges_count s x I, ranges_count a y K)

    -- and for the tail
    pub equal_tail : (b : Store) (y : List ℕ) → work_of b y ≡ v → Inside b y → Room b y o (yo + tail_at 4096 P) P.tail
    equal_tail b y e K =
        let g : want_at o (yo + tail_at 4096 P) P.tail (work_of b y) ≡ tail_takes = ap (λ (z : Work). want_at o (yo + tail_at 4096 P) P.tail z) e ∙ tail_want in
        let l : length (work_of b y).ranges ≡ length v.ranges = ap (λ (z : Work). length z.ranges) e in
        let m : length (work_of b y).spare ≡ length v.spare = ap (λ (z : Work). length z.spare) e in
        record {
          inside = K;
          ends = omega (arith, sum);
          spare = omega (arith, counts, head_few, tail_few, middle_cost.spare, spare_words s x, spare_words b y);
          slots = omega (arith, counts, head_few, tail_few, middle_cost.ranges, ranges_count s x I, ranges_count b y K);
        }

  -- ---- the parts put together

  -- the destination's span has the same parts
  same_span : P ≡ span_of 4096 yo n
  unfolding work_of
  same_span = laws.same src xo o yo n w I.good (size_is s x) other hx hy even

  -- where the pages done end behind the head
  abbrev head_end : ℕ
  head_end = pick (eqb P.head 0) (line o ph) (suc (line o ph))

  whole_behind : 0 < P.whole → head_end ≤ line o pd
  whole_behind = rw same_span (head_behind o yo n)

  rest_behind : 0 < P.tail → head_end ≤ line o pt
  rest_behind = rw same_span (tail_behind o yo n)

  module _ (a b t : Store) (y z : List ℕ) (A : Written s x o yo (reading src xo P.head w) a y) (E : Elsewhere o w (work_of a y))
      (R : Reranged a y (sharing src ps o pd P.whole (work_of a y)) (line o pd) b)
      (B : Written b y o (yo + tail_at 4096 P) (reading src (xo + tail_at 4096 P) P.tail (work_of b y)) t z) where
    -- the bytes of the head
    abbrev dh : List ℕ
    dh = reading src xo P.head w

    abbrev e₁ : ℕ
    e₁ = written_to s a x y o yo dh A (line o ph)

    head_long : length dh ≡ P.head
    head_long = source_length s x I src xo P.head

    head_end_lem : e₁ ≤ head_end
    head_end_lem =
        by-eq P.head 0
        (λ k. rw (eq-eqb P.head 0 k, eq-eqb (length dh) 0 (head_long ∙ k)) (le_refl _))
        (λ k. let g : length dh ≡ 0 → ⊥ = λ q. k (sym head_long ∙ q) in
        let one : touched 4096 yo P.head ≡ 1 = touched_one 4096 yo P.head (omega arith) (rw same_span (head_fits 4096 yo n (omega arith))) ∙ rw (ne_eqb P.head 0 k) in
        let f : touched 4096 yo (length dh) ≡ 1 = ap (λ m. touched 4096 yo m) head_long ∙ one in
        rw (ne_eqb P.head 0 k, ne_eqb (length dh) 0 g) (omega (arith, A.top, f)))

    head_part : Part s x u (line o ph) e₁ a y
    head_part = written_part s a x y o yo dh A (line o ph) (λ k. le_refl _)

    middle_part : Part a y (sharing src ps o pd P.whole (work_of a y)) e₁ e₁ b y
    middle_part =
        by-eq P.whole 0
        (λ k. reranged_still a b y (sharing src ps o pd P.whole (work_of a y)) (line o pd) e₁ (ap (λ m. sharing src ps o pd m (work_of a y)) k ∙ sharing_none src ps o pd (work_of a y)) R)
        (λ k. reranged_part a b y (sharing src ps o pd P.whole (work_of a y)) (line o pd) e₁ (omega (arith, head_end_lem, whole_behind (omega arith))) R)

    -- the source reads as it did at entry
    source_still : (q : ℕ) → q < 262144 → page_of (line src q) (work_of b y) ≡ page_of (line src q) w
    source_still q l =
        let far : (line src q < line o 0) ⊎ (line o 262144 ≤ line src q) = by-lt src o (λ k. inl (omega arith)) (λ k. inr (omega (arith, other))) in
        let bound : pd + P.whole ≤ 262144 = rw same_span (whole_in 4096 yo n (omega arith) 262144 (omega arith)) in
        let source_in : ps + P.whole ≤ 262144 = whole_in 4096 xo n (omega arith) 262144 (omega arith) in
        ap (λ (m : Work). page_of (line src q) m) R.work
        ∙ sharing_out src ps o pd P.whole (work_of a y) A.inside.good.whole other source_in bound (line src q) (⊎_elim (λ (k : line src q < line o 0). inl (omega arith)) (λ (k : line o 262144 ≤ line src q). inr (omega arith)) far)
        ∙ E (line src q) far

    dt_same : reading src (xo + tail_at 4096 P) P.tail (work_of b y) ≡ reading src (xo + tail_at 4096 P) P.tail w
    dt_same = source_same s x I src (xo + tail_at 4096 P) P.tail b y R.inside (omega (arith, sum)) source_still

    abbrev e₂ : ℕ
    e₂ = written_to b t y z o (yo + tail_at 4096 P) (reading src (xo + tail_at 4096 P) P.tail (work_of b y)) B e₁

    tail_part : Part b y (writing o (yo + tail_at 4096 P) (reading src (xo + tail_at 4096 P) P.tail w) (work_of b y)) e₁ e₂ t z
    tail_part =
        let l : length (reading src (xo + tail_at 4096 P) P.tail (work_of b y)) ≡ P.tail = source_length b y R.inside src (xo + tail_at 4096 P) P.tail in
        subst (λ (d : List ℕ). Part b y (writing o (yo + tail_at 4096 P) d (work_of b y)) e₁ e₂ t z) dt_same
        (written_part b t y z o (yo + tail_at 4096 P) (reading src (xo + tail_at 4096 P) P.tail (work_of b y)) B e₁ (λ k. omega (arith, head_end_lem, rest_behind (omega arith))))

    -- A COPY AT EQUAL PLACES
    pub equal_part : Part s x (copy_equal src xo o yo n w) (line o ph) e₂ t z
    unfolding copy_equal work_of
    equal_part =
        part_then s b t x y z (λ m. writing o (yo + tail_at 4096 P) (reading src (xo + tail_at 4096 P) P.tail w) m) v (line o ph) e₁ e₂
        (part_then s a b x y y (λ m. sharing src ps o pd P.whole m) u (line o ph) e₁ e₁ head_part middle_part) tail_part
