-- Copying and zeroing a span: its head, its whole pages, its tail.
use Rattle.std.specs.Prelude.{Bool, ℕ, ◌+◌, ◌/◌, ◌%◌, eqb}
use Rattle.lists.specs.Test.{pick}
use Rattle.book.specs.Page.{Span, span_of, whole_at, tail_at}
use Rattle.book.specs.Work.{Work}
use Rattle.book.specs.Bytes.{reading, writing, clear}
use Rattle.book.specs.Pages.{sharing, uncover}

-- offsets x and y have the same place within a page
abbrev pub equal_places : ℕ → ℕ → ℕ → Bool
equal_places size x y = eqb (x % size) (y % size)

-- n bytes of object s from x to object o at y, as bytes; "absent source bytes being zeros"
abbrev pub copy_bytes : ℕ → ℕ → ℕ → ℕ → ℕ → Work → Work → Work
copy_bytes s x o y n entry w = writing o y (reading s x n entry) w

-- "A copy at equal places copies its partly touched pages as bytes and shares whole pages."
unfoldable pub copy_equal : ℕ → ℕ → ℕ → ℕ → ℕ → Work → Work
copy_equal s x o y n w =
    let p : Span = span_of w.size x n in
    let h : ℕ = whole_at p in
    let t : ℕ = tail_at w.size p in
    copy_bytes s (x + t) o (y + t) p.tail w
    (sharing s ((x + h) / w.size) o ((y + h) / w.size) p.whole
    (copy_bytes s x o y p.head w w))

-- "At unequal places all is bytes"
unfoldable pub copying : ℕ → ℕ → ℕ → ℕ → ℕ → Work → Work
copying s x o y n w = pick (equal_places w.size x y) (copy_equal s x o y n w) (copy_bytes s x o y n w w)

-- "The shadow copy ignores the destination's place within a page"
unfoldable pub shadowing : ℕ → ℕ → ℕ → ℕ → ℕ → Work → Work
shadowing s x o y n w = sharing s (x / w.size) o (y / w.size) (n / w.size) w

-- "Zeroing leaves whole pages uncovered and clears bytes in present partial pages."
unfoldable pub zeroing : ℕ → ℕ → ℕ → Work → Work
zeroing o x n w =
    let p : Span = span_of w.size x n in
    let h : ℕ = whole_at p in
    let t : ℕ = tail_at w.size p in
    clear o (x + t) p.tail (uncover o ((x + h) / w.size) p.whole (clear o x p.head w))
