-- ZEROING, in parts: the head cleared, whole pages uncovered, the tail cleared. There is room for each part, and together they are the book's zeroing.
use Rattle.std.specs.Prelude.{◌≡◌, List, ℕ, ◌+◌, ◌*◌, ◌/◌, ◌≤◌, ◌<◌, min, eqb, length}
use Rattle.std.proofs.Math.Path.{refl}
use Rattle.std.proofs.Common.{ap, arith, ne_eqb}
use Rattle.store.specs.declared.Store.{Store}
use Rattle.lists.specs.Test.{pick}
use Rattle.book.specs.Page.{Span, span_of, tail_at}
use Rattle.book.specs.Work.{Work}
use Rattle.book.specs.Bytes.{clear}
use Rattle.book.specs.Pages.{uncover}
use Rattle.book.specs.Need.{state_of, common, partly, counted_parts}
use Rattle.laws.specs.Cost.{Cost, clear_cost}
use Rattle.laws.specs.Spans.{span_sum}
use Rattle.laws.specs.Zeroing as laws
use Rattle.frames.specs.Free.{spare_of}
use Rattle.store.specs.Spare.{work_of}
use Rattle.pages.specs.Inside.{Inside, spare_words, ranges_count}
use Rattle.pages.specs.Clear.{Spared}
use Rattle.pages.specs.Steps.{size_is}

module _ (s : Store) (x : List ℕ) (I : Inside s x) (o off n : ℕ) (h : off + n ≤ 1073741824) where
  abbrev w : Work
  w = work_of s x

  abbrev P : Span
  P = span_of 4096 off n

  abbrev each : ℕ → ℕ
  each q = common (state_of o q w)

  abbrev ph : ℕ
  ph = off / 4096

  abbrev pt : ℕ
  pt = (off + tail_at 4096 P) / 4096

  -- what is counted for the head's page, and for the tail's
  abbrev hd : ℕ
  hd = partly P each ph P.head

  abbrev tl : ℕ
  tl = partly P each pt P.tail

  counts : counted_parts each 4096 off n ≡ hd + tl
  unfolding counted_parts
  counts = refl

  -- the work after the head, and after the whole pages
  abbrev u : Work
  u = clear o off P.head w

  abbrev v : Work
  v = uncover o ((off + P.head) / 4096) P.whole u

  sum : P.head + P.whole * 4096 + P.tail ≡ n
  sum = span_sum 4096 off n (omega arith)

  head_takes : ℕ
  head_takes = pick (eqb P.head 0) 0 (each ph)

  tail_takes : ℕ
  tail_takes = pick (eqb P.tail 0) 0 (common (state_of o pt v))

  head_all : 0 < P.head → head_takes ≡ each ph
  unfolding head_takes
  head_all k = rw (ne_eqb P.head 0 (λ z. omega arith))

  tail_all : 0 < P.tail → tail_takes ≡ common (state_of o pt v)
  unfolding tail_takes
  tail_all k = rw (ne_eqb P.tail 0 (λ z. omega arith))

  head_few : head_takes ≤ hd
  unfolding work_of head_takes
  head_few = laws.head_counts o off n w I.good (size_is s x) h

  tail_few : tail_takes ≤ tl
  unfolding work_of tail_takes
  tail_few = laws.tail_counts o off n w I.good (size_is s x) h

  head_cost : Cost head_takes (2 * head_takes) w u
  unfolding work_of head_takes
  head_cost = clear_cost o off w I.good (size_is s x) P.head (omega (arith, sum))

  middle_cost : Cost head_takes (2 * head_takes + min 1 P.whole) w v
  unfolding work_of head_takes
  middle_cost = laws.to_v o off n w I.good (size_is s x) h

  module _ (frames : counted_parts each 4096 off n ≤ length (spare_of s.free 1024)) (slots : s.count + (2 * counted_parts each 4096 off n + min 1 P.whole) ≤ 512) where
    -- there is room for the head
    pub zero_head : 0 < P.head → Spared s x o ph
    zero_head k = record { frames = omega (arith, counts, head_few, head_all k); slots = omega (arith, counts, head_few, head_all k) }

    -- for the whole pages
    pub zero_middle : (a : Store) (y : List ℕ) → work_of a y ≡ u → Inside a y → a.count + min 1 P.whole ≤ 512
    zero_middle a y e K =
        let l : length (work_of a y).ranges ≡ length u.ranges = ap (λ (z : Work). length z.ranges) e in
        omega (arith, counts, head_few, head_cost.ranges, ranges_count s x I, ranges_count a y K)

    -- and for the tail
    pub zero_tail : (b : Store) (y : List ℕ) → work_of b y ≡ v → Inside b y → 0 < P.tail → Spared b y o pt
    zero_tail b y e K k =
        let g : common (state_of o pt (work_of b y)) ≡ common (state_of o pt v) = ap (λ (z : Work). common (state_of o pt z)) e in
        let l : length (work_of b y).ranges ≡ length v.ranges = ap (λ (z : Work). length z.ranges) e in
        let m : length (work_of b y).spare ≡ length v.spare = ap (λ (z : Work). length z.spare) e in
        record {
          frames = omega (arith, counts, head_few, tail_few, tail_all k, middle_cost.spare, spare_words s x, spare_words b y);
          slots = omega (arith, counts, head_few, tail_few, tail_all k, middle_cost.ranges, ranges_count s x I, ranges_count b y K);
        }
