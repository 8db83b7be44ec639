-- The arithmetic of a span: head, whole pages and tail are the span; the head stays in its page; the tail begins at a page edge.
use Rattle.std.specs.Prelude.{◌≡◌, ℕ, suc, ◌+◌, ◌-◌, ◌*◌, ◌/◌, ◌%◌, ◌≤◌, ◌<◌, min}
use Rattle.std.proofs.Math.Path.{ap}
use Rattle.std.proofs.Common.{◌∙◌, div-lt_iff_lt-mul, mul-le-mul_left, suc-mul, add-mul, eq-eqb, ne_eqb}
use Rattle.std.proofs.Math.Nat.{mod-lt, mod-eq_of_lt, div-add-mod', add-mul-div_right, add-mul-mod_self_right, mod_self}
use native.Mathlib.Omega.{arith}
use Rattle.lists.specs.Test.{by-eq, by-lt}
use Rattle.book.specs.Page.{Span, span_of, tail_at, touched}

module _ (size x n : ℕ) (pos : 0 < size) where
  abbrev k : ℕ
  k = x % size

  abbrev room : ℕ
  room = (size - k) % size

  abbrev head : ℕ
  head = min n room

  pub span_sum : (span_of size x n).head + (span_of size x n).whole * size + (span_of size x n).tail ≡ n
  unfolding span_of
  span_sum = omega (arith, div-add-mod' (n - head) size)

  pub head_fits : x % size + (span_of size x n).head ≤ size
  unfolding span_of
  head_fits = omega (arith, div-add-mod' (size - k) size, mod-lt x pos)

  pub tail_small : (span_of size x n).tail < size
  unfolding span_of
  tail_small = mod-lt (n - head) pos

  -- the first page edge at or after x
  edge : (x + room) % size ≡ 0
  edge =
      by-eq k 0
      (λ e. let r : room ≡ 0 = let u : size - k ≡ size = omega arith in ap (λ z. z % size) u ∙ mod_self size in ap (λ z. z % size) (omega arith) ∙ e)
      (λ e. let r : room ≡ size - k = mod-eq_of_lt (omega arith) in
      let t : x + room ≡ 0 + suc (x / size) * size = omega (arith, suc-mul (x / size) size, div-add-mod' x size, mod-lt x pos) in
      ap (λ z. z % size) t ∙ add-mul-mod_self_right 0 (suc (x / size)) size ∙ mod-eq_of_lt pos)

  pub tail_edge : 0 < (span_of size x n).tail → (x + tail_at size (span_of size x n)) % size ≡ 0
  unfolding span_of
  tail_edge h =
      by-lt room n
      (λ l. let e : x + (head + (n - head) / size * size) ≡ (x + room) + (n - head) / size * size = omega arith in
      ap (λ z. z % size) e ∙ add-mul-mod_self_right (x + room) ((n - head) / size) size ∙ edge)
      (λ l. let e : n - head ≡ 0 = omega arith in
      let z : (n - head) % size ≡ 0 = ap (λ m. m % size) e ∙ mod-eq_of_lt pos in
      absurd (omega arith))

  -- where there are whole pages, they begin at a page edge
  pub whole_edge : 0 < (span_of size x n).whole → (x + (span_of size x n).head) % size ≡ 0
  unfolding span_of
  whole_edge h =
      by-lt room n
      (λ l. let e : x + head ≡ x + room = omega arith in ap (λ z. z % size) e ∙ edge)
      (λ l. let e : n - head ≡ 0 = omega arith in
      let z : (n - head) / size < 1 = (div-lt_iff_lt-mul pos).1 (omega arith) in
      absurd (omega arith))

  pub whole_start : 0 < (span_of size x n).whole → (x + (span_of size x n).head) / size * size ≡ x + (span_of size x n).head
  whole_start h = omega (arith, whole_edge h, div-add-mod' (x + (span_of size x n).head) size)

  pub tail_fits : (x + tail_at size (span_of size x n)) % size + (span_of size x n).tail ≤ size
  tail_fits =
      let t : ℕ = tail_at size (span_of size x n) in
      by-eq (span_of size x n).tail 0 (λ e. omega (arith, mod-lt (x + t) pos)) (λ e. omega (arith, tail_edge (omega arith), tail_small))

  -- head and tail are in different pages
  pub tail_apart : 0 < (span_of size x n).head → 0 < (span_of size x n).tail → x / size < (x + tail_at size (span_of size x n)) / size
  tail_apart h k =
      let t : ℕ = tail_at size (span_of size x n) in
      (div-lt_iff_lt-mul pos).1 (omega (arith, tail_edge k, div-add-mod' (x + t) size))

  -- the whole pages lie in the first N, if the span does
  pub whole_in : (N : ℕ) → x + n ≤ N * size → (x + (span_of size x n).head) / size + (span_of size x n).whole ≤ N
  whole_in N h =
      let P : Span = span_of size x n in
      let s : (x + P.head + P.whole * size) / size ≡ (x + P.head) / size + P.whole = add-mul-div_right (x + P.head) P.whole pos in
      let q : (x + P.head + P.whole * size) / size < N + 1 = (div-lt_iff_lt-mul pos).1 (omega (arith, span_sum, add-mul N 1 size)) in
      omega arith

  -- and so do the pages touched
  pub touched_in : (N : ℕ) → x + n ≤ N * size → x / size + touched size x n ≤ N
  touched_in N h =
      by-eq n 0
      (λ e. rw (eq-eqb n 0 e) (let q : x / size < N + 1 = (div-lt_iff_lt-mul pos).1 (omega (arith, add-mul N 1 size)) in omega arith))
      (λ e. rw (ne_eqb n 0 e)
      (let a : ℕ = x % size + n + (size - 1) in
      let s : (a + x / size * size) / size ≡ a / size + x / size = add-mul-div_right a (x / size) pos in
      let t : a + x / size * size ≡ x + n + (size - 1) = omega (arith, div-add-mod' x size) in
      let q : (x + n + (size - 1)) / size < N + 1 = (div-lt_iff_lt-mul pos).1 (omega (arith, add-mul N 1 size)) in
      let r : (a + x / size * size) / size ≡ (x + n + (size - 1)) / size = ap (λ z. z / size) t in
      omega (arith, s, r, q)))

  -- and the first page, of a span that is not empty
  pub first_in : (N : ℕ) → 0 < n → x + n ≤ N * size → x / size < N
  first_in N hn h = (div-lt_iff_lt-mul pos).1 (omega arith)

  -- and as many pages from the page of x on as n bytes have
  pub pages_in : (N : ℕ) → x + n ≤ N * size → x / size + n / size ≤ N
  pages_in N h =
      let s : (x + n / size * size) / size ≡ x / size + n / size = add-mul-div_right x (n / size) pos in
      let q : (x + n / size * size) / size < N + 1 = (div-lt_iff_lt-mul pos).1 (omega (arith, div-add-mod' n size, add-mul N 1 size)) in
      omega arith

-- a span depends on its place in the page, not on the page
pub span_same : (size x y n : ℕ) → x % size ≡ y % size → span_of size x n ≡ span_of size y n
unfolding span_of
span_same size x y n e = rw e

-- an object has at most 262,144 pages
pub object_in : (size x n : ℕ) → 4096 ≤ size → x + n ≤ 1073741824 → x + n ≤ 262144 * size
object_in size x n hs h = let big : 262144 * 4096 ≤ 262144 * size = mul-le-mul_left 262144 hs in omega arith

pub page_in : (size x n : ℕ) → 4096 ≤ size → 0 < n → x + n ≤ 1073741824 → x / size < 262144
page_in size x n hs hn h = first_in size x n (omega arith) 262144 hn (object_in size x n hs h)

pub page_bound : (size x n : ℕ) → 4096 ≤ size → x + n ≤ 1073741824 → x / size + touched size x n ≤ 262144
page_bound size x n hs h = touched_in size x n (omega arith) 262144 (object_in size x n hs h)
