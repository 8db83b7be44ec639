-- "What a sound store is", of the book. (`Single` and `Many` are the store's alone; "unused slots are zero" and the free map's bits have nothing to say
-- of a book: it has the ranges that there are, and a frame is free where its cell is.)
use Rattle.std.specs.Prelude.{◌≡◌, true, false, ℕ, ◌+◌, ◌*◌, ◌/◌, ◌≤◌, length, get_or}
use mathlib.Core.List.{List, Memᴰ}
use Rattle.ranges.specs.Range.{Range, Rising}
use Rattle.ranges.specs.Table.{named}
use Rattle.book.specs.Page.{object_bytes}
use Rattle.book.specs.Cell.{free, holds}
use Rattle.book.specs.Book.{Book}

pub record Sound (b : Book) : Type 0 where
  -- the page size: 4,096, or a larger one that divides an object's bytes
  pub large : 4096 ≤ b.size
  pub divides : object_bytes / b.size * b.size ≡ object_bytes
  -- "1 to 1,024 frames, numbered from 0"
  pub least : 1 ≤ b.frames
  pub most : b.frames ≤ 1024
  pub cells : length b.cells ≡ b.frames
  -- "object names 0 to 31, live or not"
  pub names : length b.live ≡ 32
  -- "at most 512 ranges"
  pub count : length b.ranges ≤ 512
  -- "Each range belongs to a live object"
  pub owned : (r : Range) → Memᴰ r b.ranges → get_or b.live r.object false ≡ true
  -- "has length at least 1, .. and overlaps no other of its object"; "by object, then start"
  pub order : Rising 0 b.ranges
  -- "ends by page 262,144"
  pub ends : (r : Range) → Memᴰ r b.ranges → r.start + r.len ≤ object_bytes / b.size
  -- "offset + length at most 1,048,576"
  pub indexes : (r : Range) → Memᴰ r b.ranges → r.offset + r.len ≤ 1048576
  -- backings are numbered from 1
  pub numbered : (r : Range) → Memᴰ r b.ranges → 1 ≤ r.backing
  -- "Each vector entry lies in the window of some range that holds the vector."
  pub windows : (f k i : ℕ) (x : List ℕ) → get_or b.cells f free ≡ holds k i x → named k i b.ranges ≡ true
  -- "Each frame is free or stands in exactly one backing at one index, no two at the same."
  pub apart : (f g k i : ℕ) (x y : List ℕ) → get_or b.cells f free ≡ holds k i x → get_or b.cells g free ≡ holds k i y → f ≡ g
  -- "a frame number and 4,096 bytes"
  pub pages : (f k i : ℕ) (x : List ℕ) → get_or b.cells f free ≡ holds k i x → length x ≡ b.size
