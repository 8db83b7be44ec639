-- Page arithmetic, for a page size that is a parameter (4,096 in document 01).
use Rattle.std.specs.Prelude.{List, ◌++◌, ℕ, ◌+◌, ◌-◌, ◌*◌, ◌/◌, ◌%◌, min, eqb, length, take, drop}
use Rattle.lists.specs.Test.{pick}

-- "an object has 262,144 pages (1,073,741,824 bytes)"
abbrev pub object_bytes : ℕ
object_bytes = 1073741824

-- how many pages the n bytes from offset x touch; "length 0 changes nothing"
abbrev pub touched : ℕ → ℕ → ℕ → ℕ
touched size x n = pick (eqb n 0) 0 ((x % size + n + (size - 1)) / size)

-- A span of bytes: those before its first page edge, its whole pages, those after the last edge.
-- "A span inside one page with both ends off the page's edges: .. only the named bytes change": it is all `head`.
pub record Span : Type 0 where
  pub head : ℕ
  pub whole : ℕ
  pub tail : ℕ

unfoldable pub span_of : ℕ → ℕ → ℕ → Span
span_of size x n =
    let h : ℕ = min n ((size - x % size) % size) in
    record { head = h; whole = (n - h) / size; tail = (n - h) % size }

-- how far from its start a span's whole pages begin, and end
abbrev pub whole_at : Span → ℕ
whole_at p = p.head

abbrev pub tail_at : ℕ → Span → ℕ
tail_at size p = p.head + p.whole * size

-- the bytes d put over x from place k on
abbrev pub over : ℕ → List ℕ → List ℕ → List ℕ
over k d x = take k x ++ d ++ drop (k + length d) x
