-- A COPY AT EQUAL PLACES: it takes no more frames and slots than are counted at entry, and with those frames its span reads as the source's, but for
-- skipped whole pages; head and tail are copied as bytes, whole pages shared.
use Rattle.std.specs.Prelude.{◌≡◌, refl, ◌&&◌, ℕ, ◌+◌, ◌-◌, ◌*◌, ◌/◌, ◌%◌, ◌≤◌, ◌<◌, ltb, leb, eqb, length}
use Rattle.std.proofs.Common.{ap, ◌∙◌, inl, inr, le_refl, zero-mul, div-add-mod', arith}
use mathlib.Core.List.{tail}
use borrow.Author.Tests.{lt-ltb, le-ltb, le-leb, lt-leb, eq-eqb, ne_eqb}
use Rattle.lists.specs.Test.{pick, by-lt, by-eq}
use Rattle.ranges.specs.Range.{line, slot_at}
use Rattle.book.specs.Page.{Span, span_of, whole_at, tail_at, touched}
use Rattle.book.specs.Work.{Work}
use Rattle.book.specs.Bytes.{byte_at, reading}
use Rattle.book.specs.Pages.{sharing, met}
use Rattle.book.specs.Copy.{copy_bytes, copy_equal}
use Rattle.book.specs.Need.{wants, wanted, partly, counted_parts, need_whole}
use Rattle.book.specs.File.{is_none}
use Rattle.laws.specs.State.{Good}
use Rattle.laws.specs.Kept.{Kept, here, bytes_kept, sharing_kept}
use Rattle.laws.specs.Copied.{shared_byte, bytes_copied, sharing_copied}
use Rattle.laws.specs.Cost.{Cost, Pages, cost_sum, writing_cost, sharing_cost}
use Rattle.laws.specs.Reading.{reading_length}
use Rattle.laws.specs.Rewrites.{Rewrites, rewrites_as, rewrites_join, rewrites_none, page_from, rewrites_cast}
use Rattle.laws.specs.SharedPages.{sharing_none}
use Rattle.laws.specs.Spans.{head_fits, span_same, span_sum, tail_apart, tail_fits, whole_in, object_in, page_in, whole_start}
use Rattle.laws.specs.Taken.{Beside, partly_least, wanted_one, touched_one, writing_beside, writing_wants}
use Rattle.laws.specs.Enough.{wants_small}

-- what byte z of object o becomes where n bytes of object s from x are copied to it at y, at equal places: the source's byte, but in a whole page
-- whose source page no range covers what it was
abbrev pub copied_byte : Work → ℕ → ℕ → ℕ → ℕ → ℕ → ℕ → ℕ
copied_byte w s x o y n z =
    let p : Span = span_of w.size x n in
    pick (leb (whole_at p) (z - y) && (ltb (z - y) (tail_at w.size p) && is_none (slot_at (line s ((x + (z - y)) / w.size)) w.ranges))) (byte_at o z w) (byte_at s (x + (z - y)) w)

-- a state in which the page's slot and both bytes are the same
shared_same : (s c o z : ℕ) (u w : Work) → u.size ≡ w.size → slot_at (line s (c / w.size)) u.ranges ≡ slot_at (line s (c / w.size)) w.ranges
    → byte_at o z u ≡ byte_at o z w → byte_at s c u ≡ byte_at s c w → shared_byte u s c o z ≡ shared_byte w s c o z
shared_same s c o z u w e f g h =
    ap (λ m. pick (is_none (slot_at (line s (c / m)) u.ranges)) (byte_at o z u) (byte_at s c u)) e
    ∙ ap (λ t. pick (is_none t) (byte_at o z u) (byte_at s c u)) f
    ∙ ap (λ m. pick (is_none (slot_at (line s (c / w.size)) w.ranges)) m (byte_at s c u)) g
    ∙ ap (λ m. pick (is_none (slot_at (line s (c / w.size)) w.ranges)) (byte_at o z w) m) h

module _ (s x o y n : ℕ) (w : Work) (G : Good w) (hs : 4096 ≤ w.size) (other : s ≡ o → ⊥) (hx : x + n ≤ 1073741824) (hy : y + n ≤ 1073741824)
    (even : x % w.size ≡ y % w.size) where
  abbrev P : Span
  P = span_of w.size x n

  abbrev t : ℕ
  t = tail_at w.size P

  abbrev each : ℕ → ℕ
  each q = wants o q w

  abbrev ph : ℕ
  ph = y / w.size

  abbrev pt : ℕ
  pt = (y + t) / w.size

  ps : 0 < w.size
  ps = omega arith

  pub sum : P.head + P.whole * w.size + P.tail ≡ n
  sum = span_sum w.size x n ps

  pub same : P ≡ span_of w.size y n
  same = span_same w.size x y n even

  head_fit : y % w.size + P.head ≤ w.size
  head_fit = omega (arith, even, head_fits w.size x n ps)

  tail_fit : (y + t) % w.size + P.tail ≤ w.size
  tail_fit = rw same (tail_fits w.size y n ps)

  pub p_bound : (x + P.head) / w.size + P.whole ≤ 262144
  p_bound = whole_in w.size x n ps 262144 (object_in w.size x n hs hx)

  pub q_bound : (y + P.head) / w.size + P.whole ≤ 262144
  q_bound = rw same (whole_in w.size y n ps 262144 (object_in w.size y n hs hy))

  -- the bytes of the head, and of the tail
  long : (a m : ℕ) → length (reading s a m w) ≡ m
  long a m = reading_length w ps G.fits s a m

  -- the state after the head, and after the whole pages
  abbrev u : Work
  u = copy_bytes s x o y P.head w w

  abbrev v : Work
  v = sharing s ((x + P.head) / w.size) o ((y + P.head) / w.size) P.whole u

  pub KU : Kept w u
  KU = bytes_kept w G hs s x o y P.head w (here w G hs) (omega (arith, sum))

  pub KV : Kept w v
  KV = sharing_kept s ((x + P.head) / w.size) o ((y + P.head) / w.size) P.whole w u q_bound KU

  pub no_middle : P.whole ≡ 0 → v ≡ u
  no_middle z = ap (λ m. sharing s ((x + P.head) / w.size) o ((y + P.head) / w.size) m u) z ∙ sharing_none s ((x + P.head) / w.size) o ((y + P.head) / w.size) u

  -- the head's write leaves the ranges of the source
  pub beside : Beside o w u
  beside = writing_beside o y (reading s x P.head w) w G hs (omega (arith, sum, long x P.head))

  -- ---- what it takes

  -- what the head's page takes, and the tail's when it is reached
  abbrev head_takes : ℕ
  head_takes = pick (eqb P.head 0) 0 (each ph)

  abbrev tail_takes : ℕ
  tail_takes = pick (eqb P.tail 0) 0 (wants o pt v)

  pub head_counts : head_takes ≤ partly P each ph P.head
  head_counts = partly_least P each ph P.head (each ph) (wants_small o ph w) (λ _ _. le_refl _)

  -- the tail's page is none of those that the head touched
  behind : 0 < P.tail → ph + touched w.size y P.head ≤ pt
  behind h =
      let apart : 0 < P.head → 0 < P.tail → ph < pt = rw same (tail_apart w.size y n ps) in
      rw (touched_one w.size y P.head ps head_fit)
      (by-eq P.head 0
      (λ z. rw (eq-eqb P.head 0 z) (omega (arith, page_from w.size ph (y + t) ps (omega (arith, div-add-mod' y w.size)))))
      (λ z. rw (ne_eqb P.head 0 z) (omega (arith, apart (omega arith) h))))

  pub tail_counts : tail_takes ≤ partly P each pt P.tail
  tail_counts =
      partly_least P each pt P.tail (wants o pt v) (wants_small o pt v)
      (λ h z. omega (
        arith,
        ap (λ m. wants o pt m) (no_middle z),
        writing_wants o y (reading s x P.head w) w G hs (omega (arith, sum, long x P.head)) pt (rw (long x P.head) (behind h)),
      ))

  pub head_wanted : wanted (touched w.size y P.head) o ph w ≡ head_takes
  head_wanted = wanted_one w.size y P.head ps head_fit o ph w

  pub tail_wanted : wanted (touched w.size (y + t) P.tail) o pt v ≡ tail_takes
  tail_wanted = wanted_one w.size (y + t) P.tail ps tail_fit o pt v

  -- bytes of w written in a state of its size
  bytes_cost : (a b m : ℕ) (e : Work) → Kept w e → b + m ≤ 1073741824 → Pages (wanted (touched w.size b m) o (b / w.size) e) e (copy_bytes s a o b m w e)
  bytes_cost a b m e K h =
      let c : wanted (touched e.size b (length (reading s a m w))) o (b / e.size) e ≡ wanted (touched w.size b m) o (b / w.size) e =
      ap (λ z. wanted (touched z b (length (reading s a m w))) o (b / z) e) K.size ∙ ap (λ z. wanted (touched w.size b z) o (b / w.size) e) (long a m) in
      rw c at (writing_cost o b e K.good (rw K.size hs) (reading s a m w) (omega (arith, long a m)))

  abbrev meets : ℕ
  meets = 2 * met s ((x + P.head) / w.size) P.whole w

  pub to_u : Cost head_takes (2 * head_takes) w u
  to_u = rw head_wanted at (bytes_cost x y P.head w (here w G hs) (omega (arith, sum)))

  pub to_v : Cost head_takes (2 * head_takes + meets) w v
  to_v =
      cost_sum head_takes (2 * head_takes) 0 meets head_takes (2 * head_takes + meets) w u v (omega arith) (omega arith)
      to_u
      (rw (← beside.meets s ((x + P.head) / w.size) P.whole other p_bound)
      (sharing_cost s ((x + P.head) / w.size) o ((y + P.head) / w.size) P.whole u q_bound KU.good.whole.rising))

  pub counts : partly P each ph P.head + partly P each pt P.tail ≡ counted_parts each w.size y n
  unfolding counted_parts
  counts = rw same

  -- A COPY AT EQUAL PLACES takes the frames counted at most, and besides two slots for each of them two for each source range that the whole pages meet
  pub equal_cost : Cost (counted_parts each w.size y n) (2 * counted_parts each w.size y n + need_whole s x n w) w (copy_equal s x o y n w)
  unfolding copy_equal need_whole
  equal_cost =
      cost_sum head_takes (2 * head_takes + meets) tail_takes (2 * tail_takes) _ _ w v (copy_bytes s (x + t) o (y + t) P.tail w v)
      (omega (arith, counts, head_counts, tail_counts)) (omega (arith, counts, head_counts, tail_counts)) to_v
      (rw tail_wanted at (bytes_cost (x + t) (y + t) P.tail v KV (omega (arith, sum))))

  -- ---- and what it leaves, with the frames that 01 counts

  module _ (enough : counted_parts each w.size y n ≤ length w.spare) where
    abbrev copied : ℕ → ℕ
    copied z = copied_byte w s x o y n z

    pub split : partly P each ph P.head + partly P each pt P.tail ≤ length w.spare
    split = omega (arith, counts, enough)

    first : Rewrites o y (y + P.head) (λ z. byte_at s (x + (z - y)) w) w u
    first = bytes_copied s x o y P.head w w G hs (here w G hs) (omega (arith, sum)) (omega (arith, head_wanted, head_counts, split))

    -- the head's write leaves the source, and what stands behind the head
    source_same : (z : ℕ) → y + P.head ≤ z → z < y + t → shared_byte u s (x + (z - y)) o z ≡ shared_byte w s (x + (z - y)) o z
    source_same z l m =
        let c : ℕ = x + (z - y) in
        let hc : c / w.size < 262144 = page_in w.size c 1 hs (omega arith) (omega (arith, sum)) in
        shared_same s c o z u w KU.size
        (beside.slots (line s (c / w.size)) (by-lt s o (λ k. inl (omega arith)) (λ k. inr (omega (arith, other)))))
        (first.outside o z (omega (arith, sum)) (λ _. inr l))
        (first.outside s c (omega (arith, sum)) (λ e. absurd (other e)))

    middle : Rewrites o (y + P.head) (y + t) (λ z. shared_byte w s (x + (z - y)) o z) u v
    middle =
        by-eq P.whole 0
        (λ z. rewrites_none o (y + P.head) (y + t) _ u v (omega (arith, ap (λ m. m * w.size) z, zero-mul w.size)) (no_middle z))
        (λ z. let edge-x = whole_start w.size x n ps (omega arith) in
        let starts : 0 < P.whole → (y + P.head) / w.size * w.size ≡ y + P.head = rw same (whole_start w.size y n ps) in
        let edge-y = starts (omega arith) in
        rewrites_as o (y + P.head) (y + t) _ _ u v
        (λ z l m. ap (λ c. shared_byte u s c o z) (omega arith) ∙ source_same z l m)
        (rewrites_cast o (y + P.head) (y + P.head) (y + P.head + P.whole * u.size) (y + t) _ u v refl (omega (arith, ap (λ m. P.whole * m) KU.size))
        (sharing_copied s ((x + P.head) / w.size) o ((y + P.head) / w.size) P.whole u KU.good (rw KU.size hs) other p_bound q_bound (x + P.head) (y + P.head)
        (ap (λ m. (x + P.head) / w.size * m) KU.size ∙ edge-x) (ap (λ m. (y + P.head) / w.size * m) KU.size ∙ edge-y))))

    last : Rewrites o (y + t) (y + n) (λ z. byte_at s (x + (z - y)) w) v (copy_bytes s (x + t) o (y + t) P.tail w v)
    last =
        rewrites_as o (y + t) (y + n) _ _ v (copy_bytes s (x + t) o (y + t) P.tail w v) (λ z l m. ap (λ c. byte_at s c w) (omega arith))
        (rewrites_cast o (y + t) (y + t) (y + t + P.tail) (y + n) _ v (copy_bytes s (x + t) o (y + t) P.tail w v) refl (omega (arith, sum))
        (bytes_copied s (x + t) o (y + t) P.tail w v G hs KV (omega (arith, sum)) (omega (arith, tail_wanted, tail_counts, head_counts, split, to_v.spare))))

    -- each byte of the span becomes the source's, but a byte of a skipped whole page stays; so does every other byte of every object
    pub equal_copied : Rewrites o y (y + n) (λ z. copied_byte w s x o y n z) w (copy_equal s x o y n w)
    unfolding copy_equal
    equal_copied =
        rewrites_join o y (y + t) (y + n) copied w v (copy_bytes s (x + t) o (y + t) P.tail w v) (omega arith) (omega (arith, sum)) (omega arith)
        (rewrites_join o y (y + P.head) (y + t) copied w u v (omega arith) (omega arith) (omega (arith, sum))
        (rewrites_as o y (y + P.head) _ copied w u (λ z l m. rw (lt-leb P.head (z - y) (omega arith))) first)
        (rewrites_as o (y + P.head) (y + t) _ copied u v (λ z l m. rw (le-leb P.head (z - y) (omega arith), lt-ltb (z - y) t (omega arith))) middle))
        (rewrites_as o (y + t) (y + n) _ copied v (copy_bytes s (x + t) o (y + t) P.tail w v)
        (λ z l m. rw (le-leb P.head (z - y) (omega arith), le-ltb (z - y) t (omega arith))) last)
