-- Which pages are present, and which are so after each call that is not refused.
use Rattle.std.specs.Prelude.{Bool, true, false, ◌&&◌, ℕ, ◌+◌, ◌-◌, ◌/◌, ltb, leb, eqb, length, Option, Some, None}
use Rattle.lists.specs.Test.{pick}
use Rattle.ranges.specs.Range.{line, slot_at}
use Rattle.book.specs.Page.{object_bytes, touched, Span, span_of, whole_at}
use Rattle.book.specs.Work.{page_of}
use Rattle.book.specs.Copy.{equal_places}
use Rattle.book.specs.Book.{Book, Call, new_object, drop_object, add, look_up, show, read, write, copy, shadow, zero_out, counts, entry}

abbrev pub is_some : {A : Type 0} → Option A → Bool
is_some None = false
is_some (Some x) = true

-- "A page is covered if a range contains it, present if it also has a frame."
abbrev pub covered : Book → ℕ → ℕ → Bool
covered b o p = is_some (slot_at (line o p) b.ranges)

abbrev pub present : Book → ℕ → ℕ → Bool
present b o p = is_some (page_of (line o p) (entry b))

-- The pages from `first` up to `past` of one object become present or absent as `value` says; every other page of every object stays as it was.
pub record Presence : Type 0 where
  pub object : ℕ
  pub first : ℕ
  pub past : ℕ
  pub value : ℕ → Bool

-- n pages of object o from page p on, all present or all absent
abbrev pub become : Bool → ℕ → ℕ → ℕ → Presence
become t o p n = record { object = o; first = p; past = p + n; value = λ q. t }

abbrev pub unchanged : Presence
unchanged = become false 0 0 0

-- page q of object o, where page a of object s is shared with it: it has that page's frame, or none if that has none;
-- "A whole source page that no range covers is skipped: the destination page keeps what it had."
abbrev pub shared_page : Book → ℕ → ℕ → ℕ → ℕ → Bool
shared_page b s a o q = pick (covered b s a) (present b s a) (present b o q)

-- page q is a whole page of the n bytes from y
abbrev pub is_whole : ℕ → ℕ → ℕ → ℕ → Bool
is_whole size y n q =
    let p : Span = span_of size y n in
    let a : ℕ = (y + whole_at p) / size in
    leb a q && ltb q (a + p.whole)

-- what each call that is not refused makes of the pages
unfoldable pub presence : Book → Call → Presence
-- "Each range belongs to a live object": a new one has none
presence b (new_object o) = become false o 0 (object_bytes / b.size)
-- "A drop takes the ranges too."
presence b (drop_object o) = become false o 0 (object_bytes / b.size)
-- "Adding to a present page replaces it by a zeroed frame."
presence b (add o p) = become true o p 1
-- a lookup, showing, a read and counts leave the book as it is
presence b (look_up o p) = unchanged
presence b (show o p) = unchanged
presence b (read o x n) = unchanged
-- "An absent page written is first added."
presence b (write o x d) = become true o (x / b.size) (touched b.size x (length d))
-- "A copy at equal places copies its partly touched pages as bytes and shares whole pages."; "At unequal places all is bytes"
presence b (copy s x o y n) = record {
  object = o;
  first = y / b.size;
  past = y / b.size + touched b.size y n;
  value = λ q. pick (equal_places b.size x y && is_whole b.size y n q) (shared_page b s (x / b.size + (q - y / b.size)) o q) true;
}
-- "The shadow copy ignores the destination's place within a page"
presence b (shadow s x o y n) = record {
  object = o;
  first = y / b.size;
  past = y / b.size + n / b.size;
  value = λ q. shared_page b s (x / b.size + (q - y / b.size)) o q;
}
-- "Zeroing leaves whole pages uncovered and clears bytes in present partial pages."
presence b (zero_out o x n) =
    let p : Span = span_of b.size x n in
    become false o ((x + whole_at p) / b.size) p.whole
presence b counts = unchanged

-- page p of object o is present after the call
unfoldable pub present_after : Book → Call → ℕ → ℕ → Bool
present_after b c o p =
    let e : Presence = presence b c in
    pick (eqb o e.object && (leb e.first p && ltb p e.past)) (e.value p) (present b o p)
