-- WHICH PAGES ARE PRESENT after a copy at equal places: head, whole pages and tail, one after the other.
use Rattle.std.specs.Prelude.{◌≡◌, Bool, true, false, ◌&&◌, ◌⊎◌, ℕ, ◌+◌, ◌-◌, ◌*◌, ◌/◌, ◌%◌, ◌≤◌, ◌<◌, ltb, leb, length}
use Rattle.std.proofs.Math.Path.{refl}
use Rattle.std.proofs.Common.{ap, sym, ◌∙◌, inl, inr, ⊎_elim, arith, eq-eqb, lt-ltb, le-ltb, le-leb}
use Rattle.std.proofs.lemmas.Bool.{lt-leb}
use Rattle.lists.specs.Test.{pick, by-lt, by-eq}
use Rattle.ranges.specs.Range.{line, slot_at}
use Rattle.book.specs.Page.{Span, span_of, tail_at, touched}
use Rattle.book.specs.Work.{Work}
use Rattle.book.specs.Pages.{sharing}
use Rattle.book.specs.Copy.{copy_bytes, copy_equal}
use Rattle.book.specs.Need.{wants, counted_parts}
use Rattle.book.specs.Presence.{is_some, is_whole}
use Rattle.laws.specs.State.{Good}
use Rattle.laws.specs.Kept.{here}
use Rattle.laws.specs.Spans.{page_bound}
use Rattle.laws.specs.PageSpan.{whole_page, tail_page, touched_sum}
use Rattle.laws.specs.Presents.{has, shared_has, Presents, presents_none, presents_empty, presents_cast, presents_as, presents_join, bytes_present, sharing_present}
use Rattle.laws.specs.Copying.{sum, same, p_bound, q_bound, KU, KV, no_middle, beside, head_counts, tail_counts, head_wanted, tail_wanted, to_v, split}

-- a state in which the source page's slot, and whether the two pages are present, are the same
shared_same : (s a o k : ℕ) (u w : Work) → slot_at (line s a) u.ranges ≡ slot_at (line s a) w.ranges → has (line s a) u ≡ has (line s a) w → has (line o k) u ≡ has (line o k) w
    → shared_has u s a o k ≡ shared_has w s a o k
shared_same s a o k u w e f g =
    ap (λ t. pick (is_some t) (has (line s a) u) (has (line o k) u)) e
    ∙ ap (λ t. pick (is_some (slot_at (line s a) w.ranges)) t (has (line o k) u)) f
    ∙ ap (λ t. pick (is_some (slot_at (line s a) w.ranges)) (has (line s a) w) t) g

module _ (s x o y n : ℕ) (w : Work) (G : Good w) (hs : 4096 ≤ w.size) (other : s ≡ o → ⊥) (hx : x + n ≤ 1073741824) (hy : y + n ≤ 1073741824)
    (even : x % w.size ≡ y % w.size) (enough : counted_parts (λ q. wants o q w) w.size y n ≤ length w.spare) where
  abbrev P : Span
  P = span_of w.size x n

  abbrev t : ℕ
  t = tail_at w.size P

  ps : 0 < w.size
  ps = omega arith

  -- the state after the head, after the whole pages, and after the tail
  abbrev u : Work
  u = copy_bytes s x o y P.head w w

  abbrev v : Work
  v = sharing s ((x + P.head) / w.size) o ((y + P.head) / w.size) P.whole u

  abbrev z : Work
  z = copy_bytes s (x + t) o (y + t) P.tail w v

  -- the first page, how many pages head and tail touch, and the first whole page
  abbrev p : ℕ
  p = y / w.size

  abbrev a : ℕ
  a = touched w.size y P.head

  abbrev c : ℕ
  c = touched w.size (y + t) P.tail

  abbrev q : ℕ
  q = (y + P.head) / w.size

  total : n ≡ P.head + P.whole * w.size + P.tail
  total = sym (sum s x o y n w G hs other hx hy even)

  is_same : P ≡ span_of w.size y n
  is_same = same s x o y n w G hs other hx hy even

  first : Presents o p (p + a) (λ _. true) w u
  first =
      bytes_present s x o y P.head w w G hs (here w G hs) (omega (arith, total))
      (omega (arith, head_wanted s x o y n w G hs other hx hy even, head_counts s x o y n w G hs other hx hy even, split s x o y n w G hs other hx hy even enough))

  q_is : 0 < P.whole → q ≡ p + a
  q_is = rw is_same (whole_page w.size y n ps)

  source_is : 0 < P.whole → (x + P.head) / w.size ≡ x / w.size + a
  source_is h = whole_page w.size x n ps h ∙ rw even

  -- the head leaves the source, and what stands behind the head
  middle_same : 0 < P.whole → (k : ℕ) → q ≤ k → k < q + P.whole → shared_has u s ((x + P.head) / w.size + (k - q)) o k ≡ shared_has w s (x / w.size + (k - p)) o k
  middle_same h k l m =
      let e : (x + P.head) / w.size + (k - q) ≡ x / w.size + (k - p) = omega (arith, q_is h, source_is h) in
      let b : x / w.size + (k - p) < 262144 = omega (arith, e, p_bound s x o y n w G hs other hx hy even) in
      ap (λ j. shared_has u s j o k) e
      ∙ shared_same s (x / w.size + (k - p)) o k u w
      ((beside s x o y n w G hs other hx hy even).slots (line s (x / w.size + (k - p))) (by-lt s o (λ d. inl (omega arith)) (λ d. inr (omega (arith, other)))))
      (first.outside s (x / w.size + (k - p)) b (λ d. absurd (other d)))
      (first.outside o k (omega (arith, q_bound s x o y n w G hs other hx hy even)) (λ _. inr (omega (arith, q_is h))))

  middle : Presents o (p + a) (p + a + P.whole) (λ k. shared_has w s (x / w.size + (k - p)) o k) u v
  middle =
      by-eq P.whole 0
      (λ e. presents_none o (p + a) (p + a + P.whole) _ u v (omega arith) (no_middle s x o y n w G hs other hx hy even e))
      (λ e. presents_cast o q (p + a) (q + P.whole) (p + a + P.whole) _ u v (q_is (omega arith)) (omega (arith, q_is (omega arith)))
      (presents_as o q (q + P.whole) _ _ u v (middle_same (omega arith))
      (sharing_present s ((x + P.head) / w.size) o q P.whole u (KU s x o y n w G hs other hx hy even).good other (p_bound s x o y n w G hs other hx hy even) (q_bound s x o y n w G hs other hx hy even))))

  last : Presents o (p + a + P.whole) (p + a + P.whole + c) (λ _. true) v z
  last =
      by-eq P.tail 0
      (λ e. presents_empty o _ (p + a + P.whole) _ (p + a + P.whole + c) _ _ v z (rw (eq-eqb P.tail 0 e) (omega arith)) (rw (eq-eqb P.tail 0 e) (omega arith)) tail)
      (λ e. presents_cast o ((y + t) / w.size) (p + a + P.whole) ((y + t) / w.size + c) (p + a + P.whole + c) _ v z (at (omega arith)) (omega (arith, at (omega arith))) tail)
    where
      at : 0 < P.tail → (y + t) / w.size ≡ p + a + P.whole
      at = rw is_same (tail_page w.size y n ps)

      tail : Presents o ((y + t) / w.size) ((y + t) / w.size + c) (λ _. true) v z
      tail =
          bytes_present s (x + t) o (y + t) P.tail w v G hs (KV s x o y n w G hs other hx hy even) (omega (arith, total))
          (omega (
            arith,
            tail_wanted s x o y n w G hs other hx hy even,
            tail_counts s x o y n w G hs other hx hy even,
            head_counts s x o y n w G hs other hx hy even,
            split s x o y n w G hs other hx hy even enough,
            (to_v s x o y n w G hs other hx hy even).spare,
          ))

  -- page k is whole
  abbrev whole : ℕ → Bool
  whole k = leb q k && ltb k (q + P.whole)

  not_whole_lem : (k : ℕ) → (k < p + a) ⊎ (p + a + P.whole ≤ k) → whole k ≡ false
  not_whole_lem k d =
      by-lt k q
      (λ l. rw (lt-leb q k l))
      (λ l. rw (le-leb q k l) (le-ltb k (q + P.whole)
      (by-eq P.whole 0 (λ e. omega arith) (λ e. ⊎_elim (λ (m : k < p + a). omega (arith, q_is (omega arith))) (λ (m : p + a + P.whole ≤ k). omega (arith, q_is (omega arith))) d))))

  is_whole_lem : (k : ℕ) → p + a ≤ k → k < p + a + P.whole → whole k ≡ true
  is_whole_lem k l m = rw (le-leb q k (omega (arith, q_is (omega arith))), lt-ltb k (q + P.whole) (omega (arith, q_is (omega arith))))

  abbrev value : ℕ → Bool
  value k = pick (whole k) (shared_has w s (x / w.size + (k - p)) o k) true

  -- these are all touched pages
  all : touched w.size y n ≡ a + P.whole + c
  all = rw is_same (touched_sum w.size y n ps)

  bound : p + a + P.whole + c ≤ 262144
  bound = omega (arith, page_bound w.size y n hs hy, all)

  joined : Presents o p (p + a + P.whole + c) value w z
  joined =
      presents_join o p (p + a + P.whole) (p + a + P.whole + c) value w v z (omega arith) (omega arith) bound
      (presents_join o p (p + a) (p + a + P.whole) value w u v (omega arith) (omega arith) (omega (arith, bound))
      (presents_as o p (p + a) _ value w u (λ k l m. rw (not_whole_lem k (inl m))) first)
      (presents_as o (p + a) (p + a + P.whole) _ value u v (λ k l m. rw (is_whole_lem k l m)) middle))
      (presents_as o (p + a + P.whole) (p + a + P.whole + c) _ value v z (λ k l m. rw (not_whole_lem k (inr l))) last)

  -- A COPY AT EQUAL PLACES: partly touched pages are present, a whole page as its source page where that is covered, else as before
  pub equal_present : Presents o (y / w.size) (y / w.size + touched w.size y n) (λ k. pick (is_whole w.size y n k) (shared_has w s (x / w.size + (k - y / w.size)) o k) true) w (copy_equal s x o y n w)
  unfolding copy_equal
  equal_present = rw (← is_same) (presents_cast o p p (p + a + P.whole + c) (p + touched w.size y n) value w z refl (omega (arith, all)) joined)
