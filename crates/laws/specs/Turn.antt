-- One page's turn of a span of bytes: how its page, its place and the pages that it touches go on when the part in its first page is done.
use Rattle.std.specs.Prelude.{◌≡◌, ℕ, suc, ◌+◌, ◌-◌, ◌*◌, ◌/◌, ◌%◌, ◌≤◌, ◌<◌, min}
use Rattle.std.proofs.Common.{ap, ◌∙◌, div-add-mod', mod-lt, suc-mul, arith, eq-eqb, ne_eqb}
use Rattle.std.proofs.Math.Nat.{add-div_right}
use Rattle.lists.specs.Test.{by-lt}
use Rattle.book.specs.Page.{touched}
use Rattle.laws.specs.Reading.{page_div, page_mod}
use Rattle.laws.specs.Taken.{touched_one}

-- how many of the n bytes from offset x lie in the page of x
abbrev pub in_page : ℕ → ℕ → ℕ → ℕ
in_page size x n = min n (size - x % size)

module _ (size x n : ℕ) (pos : 0 < size) where
  abbrev m : ℕ
  m = in_page size x n

  -- bytes that are left begin at the edge of the next page
  edge : m < n → x + m ≡ suc (x / size) * size + 0
  edge h = omega (arith, suc-mul (x / size) size, div-add-mod' x size, mod-lt x pos)

  -- the next page
  pub turn_page : m < n → (x + m) / size ≡ suc (x / size)
  turn_page h = ap (λ z. z / size) (edge h) ∙ page_div size (suc (x / size)) 0 pos

  -- and its first place
  pub turn_place : m < n → (x + m) % size ≡ 0
  turn_place h = ap (λ z. z % size) (edge h) ∙ page_mod size (suc (x / size)) 0 pos

  -- a page less is touched
  pub turn_touched : 0 < n → touched size x n ≡ suc (touched size (x + m) (n - m))
  turn_touched h = by-lt m n more last
    where
      more : m < n → touched size x n ≡ suc (touched size (x + m) (n - m))
      more l =
          let e : x % size + n + (size - 1) ≡ (x + m) % size + (n - m) + (size - 1) + size = omega (arith, turn_place l, mod-lt x pos) in
          rw (ne_eqb n 0 (λ z. omega arith), ne_eqb (n - m) 0 (λ z. omega arith))
          (ap (λ z. z / size) e ∙ add-div_right ((x + m) % size + (n - m) + (size - 1)) pos ∙ omega arith)

      last : n ≤ m → touched size x n ≡ suc (touched size (x + m) (n - m))
      last l =
          touched_one size x n pos (omega (arith, mod-lt x pos))
          ∙ rw (ne_eqb n 0 (λ z. omega arith), eq-eqb (n - m) 0 (omega arith))
