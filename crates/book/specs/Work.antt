-- The state inside a call, and the steps that work on one page.
use mathlib.Core.List.{List, head_d, tail}
use Rattle.std.specs.Prelude.{ℕ, suc, ◌-◌, ◌+◌, length, set, replicate, Bool, ◌&&◌, eqb, ltb, leb, Option, Some, None}
use Rattle.lists.specs.Test.{pick}
use Rattle.ranges.specs.Range.{Range, Slot, line, from, keep, slot_at, slot_in, covers, put, upto}
use Rattle.ranges.specs.Table.{fresh, previous, holders}
use Rattle.book.specs.Cell.{Cell, holds, bytes_at, trim, vacate, edit}

-- "Frames come from those free at entry": `spare` are those that the call has not taken yet, the highest first.
-- `size`: the bytes of a page, 4,096 in document 01
pub record Work : Type 0 where
  pub size : ℕ
  pub ranges : List Range
  pub cells : List Cell
  pub spare : List ℕ

-- "The frame handed out is the highest-numbered free one": the frame that the call takes next
abbrev pub next : Work → ℕ
next w = head_d w.spare (length w.cells)

-- "Page p of a range is the vector's entry at offset + (p − start), or absent.": the bytes of the line's page g, if it is present
abbrev pub slot_bytes : List Cell → Option Slot → Option (List ℕ)
slot_bytes cs None = None
slot_bytes cs (Some s) = bytes_at s cs

unfoldable pub page_of : ℕ → Work → Option (List ℕ)
page_of g w = slot_bytes w.cells (slot_at g w.ranges)

-- THE PAGE STEP. The range n is put over its span; "Entries in no holder's window go at once"; and the page at index i of its backing is the next frame, with the bytes x
unfoldable pub settle : Range → ℕ → List ℕ → Work → Work
settle n i x w =
    let rs : List Range = put n w.ranges in
    record { size = w.size; ranges = rs; cells = set (vacate (record { inside = n.backing; index = i }) (trim rs w.cells)) (next w) (holds n.backing i x); spare = tail w.spare }

-- "is cut out as a range of its own with a new backing and offset 0"; "A range that adding starts has a new backing and offset 0 too."
abbrev pub single : ℕ → ℕ → List Range → Range
single o p rs = record { object = o; start = p; len = 1; offset = 0; backing = fresh rs }

unfoldable pub own : ℕ → ℕ → List ℕ → Work → Work
own o p x w = settle (single o p w.ranges) 0 x w

-- "A backing held by two or more ranges is shared."
abbrev pub is_shared : ℕ → List Range → Bool
is_shared b rs = ltb 1 (holders b rs)

-- "An uncovered page joins the previous range if that is unshared and page − its last page is at most 16";
-- "No range is extended past offset + length 1,048,576". (`upto r` is one more than its last page.)
abbrev pub joins : ℕ → ℕ → List Range → Range → Bool
joins o p rs r =
    eqb r.object o && (eqb (holders r.backing rs) 1 && (leb (suc (line o p) - upto r) 16 && leb (r.offset + (suc (line o p) - from r)) 1048576))

-- "Absent bytes read as zero."
abbrev pub seen : ℕ → Option (List ℕ) → List ℕ
seen size None = replicate size 0
seen size (Some x) = x

-- "A fresh frame is filled with zeros."
abbrev pub blank : Work → List ℕ
blank w = replicate w.size 0

-- add page p of object o; r covers it ("A page of a shared range that is added .. is cut out"; "Adding to a present page replaces it by a
-- zeroed frame"), or r is the previous range (it "joins .., else it starts a range")
unfoldable pub add_in : ℕ → ℕ → Work → Range → Work
add_in o p w r =
    pick (covers (line o p) r)
    (pick (is_shared r.backing w.ranges)
    (own o p (blank w) w)
    (settle r (slot_in (line o p) r).index (blank w) w))
    (pick (joins o p w.ranges r)
    (settle (keep (suc (line o p) - from r) r) (slot_in (line o p) r).index (blank w) w)
    (own o p (blank w) w))

abbrev pub add_at : ℕ → ℕ → Work → Option Range → Work
add_at o p w None = own o p (blank w) w
add_at o p w (Some r) = add_in o p w r

unfoldable pub add_page : ℕ → ℕ → Work → Work
add_page o p w = add_at o p w (previous (line o p) w.ranges)

-- make page p of object o present and private: "if written or cleared, it starts with a copy of its bytes. An absent page written is first added."
abbrev pub privately : ℕ → ℕ → Work → Option Slot → Option (List ℕ) → Work
privately o p w None x = add_page o p w
privately o p w (Some s) None = add_page o p w
privately o p w (Some s) (Some x) = pick (is_shared s.inside w.ranges) (own o p x w) w

unfoldable pub writable : ℕ → ℕ → Work → Work
writable o p w =
    let s : Option Slot = slot_at (line o p) w.ranges in
    privately o p w s (slot_bytes w.cells s)

abbrev pub edited : Option Slot → (List ℕ → List ℕ) → Work → Work
edited None f w = w
edited (Some s) f w = record { size = w.size; ranges = w.ranges; cells = edit s f w.cells; spare = w.spare }

-- write to page p of object o, "even to the bytes it has": its bytes are changed by f
unfoldable pub write_page : ℕ → ℕ → (List ℕ → List ℕ) → Work → Work
write_page o p f w =
    let v : Work = writable o p w in
    edited (slot_at (line o p) v.ranges) f v
