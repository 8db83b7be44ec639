-- Bytes of objects: reading, writing, clearing, page after page.
use Rattle.std.specs.Prelude.{List, [], ◌++◌, ℕ, zero, suc, ◌-◌, ◌/◌, ◌%◌, eqb, length, take, drop, replicate, get_or, Option, Some, None}
use Rattle.lists.specs.Test.{pick}
use Rattle.ranges.specs.Range.{line}
use Rattle.book.specs.Page.{touched, over}
use Rattle.book.specs.Work.{Work, seen, page_of, write_page}

-- how an object reads as a file: "Absent bytes read as zero."
unfoldable pub byte_at : ℕ → ℕ → Work → ℕ
byte_at o x w = get_or (seen w.size (page_of (line o (x / w.size)) w)) (x % w.size) 0

-- n bytes of an object over i pages, from place k of page p on
unfoldable pub read_from : ℕ → ℕ → ℕ → ℕ → ℕ → ℕ → Work → List ℕ
read_from size zero o p k n w = []
read_from size (suc i) o p k n w = take n (drop k (seen size (page_of (line o p) w))) ++ read_from size i o (suc p) 0 (n - (size - k)) w

-- n bytes from offset x; "Each source page is judged separately."
unfoldable pub reading : ℕ → ℕ → ℕ → Work → List ℕ
reading o x n w = read_from w.size (touched w.size x n) o (x / w.size) (x % w.size) n w

-- the data d over i pages, from place k of page p on; "Calls work in page order"
unfoldable pub write_from : ℕ → ℕ → ℕ → ℕ → ℕ → List ℕ → Work → Work
write_from size zero o p k d w = w
write_from size (suc i) o p k d w = write_from size i o (suc p) 0 (drop (size - k) d) (write_page o p (over k (take (size - k) d)) w)

-- the data d from offset x
unfoldable pub writing : ℕ → ℕ → List ℕ → Work → Work
writing o x d w = write_from w.size (touched w.size x (length d)) o (x / w.size) (x % w.size) d w

-- "clears bytes in present partial pages": n bytes from place k of page p
abbrev pub cleared : ℕ → ℕ → ℕ → ℕ → Work → Option (List ℕ) → Work
cleared o p k n w None = w
cleared o p k n w (Some x) = write_page o p (over k (replicate n 0)) w

-- n bytes from offset x, all in one page
unfoldable pub clear : ℕ → ℕ → ℕ → Work → Work
clear o x n w = pick (eqb n 0) w (cleared o (x / w.size) (x % w.size) n w (page_of (line o (x / w.size)) w))
