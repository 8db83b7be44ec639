-- What a span of bytes needs: its partly touched pages frames, its whole pages slots.
use Rattle.std.specs.Prelude.{◌≡◌, refl, Bool, true, false, cond, List, ◌∷◌, ltb, length, get_or, take, count_by}
use Rattle.std.proofs.lemmas.List.Recursion.{is_count_by}
use Rattle.std.proofs.lemmas.List.{length-take, get_or_default}
use Rattle.lists.specs.Test.{by-test}
use Rattle.std.proofs.Math.Path.{ap, ap₂}
use Rattle.std.proofs.Common.{sym, ◌∙◌, arith, get_or-take, eq-eqb, ne_eqb}
use Prim.Native.Nat.{ℕ, suc, ◌+◌, ◌-◌, ◌*◌, ◌/◌, ◌%◌, ◌≤◌, ◌<◌, min, max}
use Rattle.page.specs.declared.Span.{Span}
use Rattle.table.specs.declared.PageRange.{PageRange}
use Rattle.store.specs.declared.Store.{Store}
use Rattle.lists.specs.Rest.{left_cons, left_end}
use Rattle.ranges.specs.Range.{line, from, upto}
use Rattle.ranges.specs.Table.{part, parts}
use Rattle.book.specs.Page as book
use Rattle.book.specs.Work.{Work}
use Rattle.book.specs.Pages.{met}
use Rattle.book.specs.Need.{state_of, lacks, common, wants, partly, counted_parts, needing, need_write, need_whole, need_copy, need_zero}
use Rattle.book.specs.Book.{entry}
use Rattle.table.specs.Table.{Small, Table, ranged, ranges_of, zero_range}
use Rattle.table.specs.Holding.{left}
use Rattle.store.specs.Abs.{used, book_of}

-- a span of the code, as a span of the book
abbrev pub span_is : Span → book.Span
span_is p = record { head = p.head; whole = p.whole; tail = p.tail }

-- from what `PageNumber::span_of` ensures
module _ (x n : ℕ) (p : Span) (h : p.head ≡ min n ((4096 - x % 4096) % 4096)) (w : p.whole ≡ (n - p.head) / 4096) (t : p.tail ≡ (n - p.head) % 4096) where
  -- it is the book's span
  pub span_is_lem : book.span_of 4096 x n ≡ span_is p
  unfolding book.span_of
  span_is_lem = rw (w, t, h)

  -- the partly touched pages that count: the first page and the last, each by itself
  pub parts_counted : (each : ℕ → ℕ) (a b : ℕ) → a ≡ partly (span_is p) each (x / 4096) p.head
      → b ≡ partly (span_is p) each ((x + (p.head + p.whole * 4096)) / 4096) p.tail → a + b ≡ counted_parts each 4096 x n
  unfolding counted_parts
  parts_counted each a b e f = rw (span_is_lem, e, f)

  -- "zeroing whole pages needs one" slot
  pub zero_needs : (s : Store) (o f m : ℕ) (c : List ℕ) → f ≡ counted_parts (λ q. common (state_of o q (entry (book_of s c)))) 4096 x n → m ≡ min 1 p.whole
      → needing f m ≡ need_zero o x n (entry (book_of s c))
  unfolding entry book_of
  zero_needs s o f m c e g =
      let w : Work = entry (book_of s c) in
      ap₂ needing e (g ∙ ap (λ q. min 1 q.whole) (sym span_is_lem))

  -- the source ranges that the whole pages meet, two slots for each
  pub whole_met : (s : Store) (o m : ℕ) → (let g : ℕ = line o ((x + p.head) / 4096) in m ≡ length (parts g (g + p.whole) (ranges_of (used s))))
      → (c : List ℕ) → 2 * m ≡ need_whole o x n (entry (book_of s c))
  unfolding need_whole met entry book_of
  whole_met s o m e c = rw (span_is_lem, e)

module _ (s : Store) (o x q y n : ℕ) (c : List ℕ) where
  -- "A copy at equal places copies its partly touched pages as bytes and shares whole pages."
  pub equal_needs : (f m : ℕ) → x % 4096 ≡ y % 4096 → f ≡ counted_parts (λ p. lacks (state_of q p (entry (book_of s c)))) 4096 y n → m ≡ need_whole o x n (entry (book_of s c))
      → needing f m ≡ need_copy o x q y n (entry (book_of s c))
  unfolding wants entry book_of
  equal_needs f m h e g =
      let w : Work = entry (book_of s c) in
      rw (eq-eqb (x % 4096) (y % 4096) h) (ap₂ needing e g)

  -- "At unequal places all is bytes"
  pub unequal_needs : (x % 4096 ≡ y % 4096 → ⊥) → need_write q y n (entry (book_of s c)) ≡ need_copy o x q y n (entry (book_of s c))
  unfolding entry book_of
  unequal_needs h = rw (ne_eqb (x % 4096) (y % 4096) h)

-- ---- the ranges that a span of the line meets

-- a range has pages from a up to e
abbrev pub overlaps : ℕ → ℕ → PageRange → Bool
overlaps a e r = ltb (max a (from (ranged r))) (min e (upto (ranged r)))

-- how many have, as an iterator counts them
pub parts_counted_by : (a e : ℕ) (rs : List PageRange) → count_by (overlaps a e) rs ≡ length (parts a e (ranges_of rs))
unfolding ranges_of parts part
parts_counted_by a e rs = sym (is_count_by (λ l. length (parts a e (ranges_of l))) (overlaps a e) refl turn rs)
  where
    turn : (r : PageRange) (l : List PageRange) → length (parts a e (ranges_of (r ∷ l))) ≡ cond (overlaps a e r) (1 + length (parts a e (ranges_of l))) (length (parts a e (ranges_of l)))
    turn r l = by-test (overlaps a e r) (λ t. rw t (omega arith)) (λ t. rw t)

-- a range of a table is small
pub small_taken : (R : List PageRange) (count : ℕ) → Table R count → (r : PageRange) (k : ℕ) → k < length (take count R) → r ≡ get_or (take count R) k r → Small r
small_taken R count T r k l e =
    let h : k < count = omega (arith, length-take count R) in
    let q : r ≡ get_or R k zero_range = e ∙ get_or_default (take count R) k r zero_range l ∙ get_or-take count R k zero_range h in
    rw q (T.small k h)

-- how many have, of the ranges from number i on
abbrev pub ahead : List PageRange → ℕ → ℕ → ℕ → ℕ → ℕ
ahead R count a e i = length (parts a e (left R count i))

module _ (R : List PageRange) (count : ℕ) (l : count ≤ length R) (a e : ℕ) where
  -- the next range, of those left, is met; it is not; none is left
  pub meets_hit : (i : ℕ) → i < count → overlaps a e (get_or R i zero_range) ≡ true → ahead R count a e i ≡ suc (ahead R count a e (i + 1))
  unfolding ranges_of parts part
  meets_hit i h t = rw (left_cons count R i zero_range h l, t)

  pub meets_miss : (i : ℕ) → i < count → overlaps a e (get_or R i zero_range) ≡ false → ahead R count a e i ≡ ahead R count a e (i + 1)
  unfolding ranges_of parts part
  meets_miss i h t = rw (left_cons count R i zero_range h l, t)

  pub meets_end : (i : ℕ) → count ≤ i → ahead R count a e i ≡ 0
  unfolding ranges_of parts
  meets_end i h = rw (left_end count R i h)
