-- THE BOOK THAT A STORE STANDS FOR, with the pool's bytes x.
use Rattle.std.specs.Prelude.{Bool, List, ℕ, ◌/◌, ◌%◌, ◌^◌, eqb, length, take}
use Rattle.table.specs.declared.PageRange.{PageRange}
use Rattle.places.specs.declared.Place.{Place}
use Rattle.edit.specs.declared.RangeTable.{RangeTable}
use Rattle.store.specs.declared.Store.{Store}
use Rattle.lists.specs.Test.{pick}
use Rattle.lists.specs.Listed.{listed}
use Rattle.book.specs.Cell.{Cell, free, holds}
use Rattle.book.specs.Book.{Book}
use Rattle.table.specs.Table.{ranges_of}
use Rattle.places.specs.Places.{place_at}
use Rattle.pool.specs.Bytes.{frame_at}

-- the used slots of the table
abbrev pub used : Store → List PageRange
used s = take s.count s.ranges

-- the table of ranges
abbrev pub table_of : Store → RangeTable
table_of s = record { ranges = s.ranges; count = s.count }

-- what a frame that stands there is in the book: free, or at a backing and an index, with its bytes
unfoldable pub cell_of : Place → List ℕ → Cell
cell_of p y = pick (eqb p.backing 0) free (holds p.backing p.index y)

-- frame f has the page of the pool that begins at f × size
unfoldable pub cells_of : ℕ → ℕ → List Place → List ℕ → List Cell
cells_of size n ps x = listed (λ f. cell_of (place_at ps f) (frame_at size x f)) n

-- whether name o is live
abbrev pub live_bit : ℕ → ℕ → Bool
live_bit w o = eqb (w / 2 ^ o % 2) 1

unfoldable pub live_of : ℕ → List Bool
live_of w = listed (live_bit w) 32

unfoldable pub book_of : Store → List ℕ → Book
book_of s x = record {
  size = 4096;
  frames = s.frames;
  pool = length x;
  live = live_of s.live;
  ranges = ranges_of (used s);
  cells = cells_of 4096 s.frames s.places x;
}
