-- The pages of a span: its head's page, if it has a head, then its whole pages, then its tail's page, if it has a tail; one after the other.
use Rattle.std.specs.Prelude.{◌≡◌, ℕ, ◌+◌, ◌-◌, ◌*◌, ◌/◌, ◌%◌, ◌≤◌, ◌<◌}
use Rattle.std.proofs.Common.{ap, ◌∙◌, sym, zero-mul, one-mul, add-mul, div-add-mod', mul-le-mul_left, arith, eq-eqb, ne_eqb}
use Rattle.std.proofs.Math.Nat.{add-mul-div_right, add-mul-mod_self_right}
use Rattle.lists.specs.Test.{by-eq, by-lt}
use Rattle.book.specs.Page.{Span, span_of, tail_at, touched}
use Rattle.laws.specs.Reading.{page_div, page_mod}
use Rattle.laws.specs.Spans.{span_sum, head_fits, tail_small, tail_edge, whole_edge, tail_fits}
use Rattle.laws.specs.Taken.{touched_one}

module _ (size x n : ℕ) (pos : 0 < size) where
  abbrev P : Span
  P = span_of size x n

  abbrev t : ℕ
  t = tail_at size P

  abbrev r : ℕ
  r = x % size + P.head

  -- how many pages the head touches, and the tail: one each at most
  abbrev a : ℕ
  a = touched size x P.head

  abbrev c : ℕ
  c = touched size (x + t) P.tail

  fits : r ≤ size
  fits = head_fits size x n pos

  back : x / size * size + x % size ≡ x
  back = div-add-mod' x size

  none_a : P.head ≡ 0 → a ≡ 0
  none_a z = rw (eq-eqb P.head 0 z)

  one_a : (P.head ≡ 0 → ⊥) → a ≡ 1
  one_a z = touched_one size x P.head pos fits ∙ rw (ne_eqb P.head 0 z)

  none_c : P.tail ≡ 0 → c ≡ 0
  none_c z = rw (eq-eqb P.tail 0 z)

  one_c : (P.tail ≡ 0 → ⊥) → c ≡ 1
  one_c z = touched_one size (x + t) P.tail pos (tail_fits size x n pos) ∙ rw (ne_eqb P.tail 0 z)

  -- where the head ends at a page edge it fills its page
  full : (x + P.head) % size ≡ 0 → r ≡ a * size
  full e =
      by-eq P.head 0
      (λ z. let e' : x % size ≡ 0 = ap (λ m. m % size) (omega arith) ∙ e in omega (arith, ap (λ m. m * size) (none_a z), zero-mul size))
      (λ z. by-lt r size
      (λ l. let m : (x + P.head) % size ≡ r = ap (λ k. k % size) (omega (arith, back)) ∙ page_mod size (x / size) r l in absurd (omega (arith, m, e)))
      (λ l. omega (arith, ap (λ m. m * size) (one_a z), one-mul size, fits)))

  edge_page : (x + P.head) % size ≡ 0 → (x + P.head) / size ≡ x / size + a
  edge_page e = ap (λ m. m / size) (omega (arith, full e, back, add-mul (x / size) a size)) ∙ page_div size (x / size + a) 0 pos

  -- the head ends at a page edge where there is a tail
  tail_after : 0 < P.tail → (x + P.head) % size ≡ 0
  tail_after h = sym (ap (λ m. m % size) (omega arith) ∙ add-mul-mod_self_right (x + P.head) P.whole size) ∙ tail_edge size x n pos h

  -- the whole pages come after the head's
  pub whole_page : 0 < P.whole → (x + P.head) / size ≡ x / size + a
  whole_page h = edge_page (whole_edge size x n pos h)

  -- and the tail's after them
  pub tail_page : 0 < P.tail → (x + t) / size ≡ x / size + a + P.whole
  tail_page h = ap (λ m. m / size) (omega arith) ∙ add-mul-div_right (x + P.head) P.whole pos ∙ omega (arith, edge_page (tail_after h))

  -- n bytes that fill their pages but for the last, of which d more than one byte less
  filled : (m d : ℕ) → 0 < n → d < size → x % size + n + (size - 1) ≡ m * size + d → touched size x n ≡ m
  filled m d h l e = rw (ne_eqb n 0 (λ z. omega arith)) (ap (λ k. k / size) e ∙ page_div size m d l)

  -- these are all pages that the span touches
  pub touched_sum : touched size x n ≡ a + P.whole + c
  touched_sum =
      by-eq P.tail 0
      (λ z. by-eq P.whole 0
      (λ u. let e : n ≡ P.head = omega (arith, sum, ap (λ m. m * size) u, zero-mul size) in ap (λ m. touched size x m) e ∙ omega (arith, none_c z))
      (λ u. filled (a + P.whole) (size - 1) (let k : P.whole * 1 ≤ P.whole * size = mul-le-mul_left P.whole pos in omega (arith, sum)) (omega arith)
      (omega (arith, sum, full (whole_edge size x n pos (omega arith)), add-mul a P.whole size)) ∙ omega (arith, none_c z)))
      (λ z. filled (a + P.whole + 1) (P.tail - 1) (omega (arith, sum)) (omega (arith, tail_small size x n pos))
      (omega (arith, sum, full (tail_after (omega arith)), add-mul a P.whole size, add-mul (a + P.whole) 1 size, one-mul size)) ∙ omega (arith, one_c z))
    where
      sum : P.head + P.whole * size + P.tail ≡ n
      sum = span_sum size x n pos
