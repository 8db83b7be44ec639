-- Whole pages: shared with a source, or left uncovered. Only ranges are walked, never pages.
use Rattle.std.specs.Prelude.{List, [], ◌∷◌, map, ℕ, ◌+◌, eqb, length}
use Rattle.lists.specs.Test.{pick}
use Rattle.ranges.specs.Range.{Range, line, carve, put}
use Rattle.ranges.specs.Table.{parts, moved}
use Rattle.book.specs.Cell.{trim}
use Rattle.book.specs.Work.{Work}

-- the table becomes rs; "Entries in no holder's window go at once"
abbrev pub with_ranges : List Range → Work → Work
with_ranges rs w = record { size = w.size; ranges = rs; cells = trim rs w.cells; spare = w.spare }

-- ranges put in one after another
unfoldable pub share : List Range → Work → Work
share [] w = w
share (n ∷ ns) w = share ns (with_ranges (put n w.ranges) w)

-- "For each source range met, whole pages copied or shadowed become one range of its backing and indexes.";
-- "A whole source page that no range covers is skipped": n pages from page p of object s to page q of object o
unfoldable pub sharing : ℕ → ℕ → ℕ → ℕ → ℕ → Work → Work
sharing s p o q n w = share (map (moved (line s p) o q) (parts (line s p) (line s p + n) w.ranges)) w

-- how many source ranges n whole pages meet
unfoldable pub met : ℕ → ℕ → ℕ → Work → ℕ
met s p n w = length (parts (line s p) (line s p + n) w.ranges)

-- "Zeroing leaves whole pages uncovered": n pages from page p of object o
unfoldable pub uncover : ℕ → ℕ → ℕ → Work → Work
uncover o p n w = pick (eqb n 0) w (with_ranges (carve (line o p) (line o p + n) w.ranges) w)
