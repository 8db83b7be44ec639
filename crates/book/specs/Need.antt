-- "Frames and range slots that a call needs", counted on the state at entry.
use Rattle.std.specs.Prelude.{List, ℕ, zero, suc, ◌+◌, ◌*◌, ◌/◌, min, eqb, length, Option, Some, None}
use Rattle.lists.specs.Test.{pick}
use Rattle.ranges.specs.Range.{Slot, line, slot_at}
use Rattle.book.specs.Work.{is_shared, Work, page_of}
use Rattle.book.specs.Page.{touched, Span, span_of, whole_at, tail_at}
use Rattle.book.specs.Pages.{met}
use Rattle.book.specs.Copy.{equal_places}

-- "A page is covered if a range contains it, present if it also has a frame."
pub data State : Type 0 where
  absent : State
  private : State
  shared : State

-- the line program's byte: "`00` absent, `01` private, `02` shared"
abbrev pub state_byte : State → ℕ
state_byte absent = 0
state_byte private = 1
state_byte shared = 2

abbrev pub state_in : Work → Option Slot → Option (List ℕ) → State
state_in w None x = absent
state_in w (Some s) None = absent
state_in w (Some s) (Some x) = pick (is_shared s.inside w.ranges) shared private

unfoldable pub state_of : ℕ → ℕ → Work → State
state_of o p w = state_in w (slot_at (line o p) w.ranges) (page_of (line o p) w)

-- counted where it is written: "absent or shared"
abbrev pub lacks : State → ℕ
lacks absent = 1
lacks private = 0
lacks shared = 1

-- counted where it is cleared: "present and shared"
abbrev pub common : State → ℕ
common absent = 0
common private = 0
common shared = 1

unfoldable pub wants : ℕ → ℕ → Work → ℕ
wants o p w = lacks (state_of o p w)

-- how many of the n pages from page p on are absent or shared
unfoldable pub wanted : ℕ → ℕ → ℕ → Work → ℕ
wanted zero o p w = 0
wanted (suc n) o p w = wants o p w + wanted n o (suc p) w

-- "For a write or a copy at unequal places, each touched destination page counts that is absent or shared at entry."
-- Of f frames at most f pages are present, so the first f + 1 pages tell whether there are too few: no more are looked at.
unfoldable pub counted : ℕ → ℕ → ℕ → Work → ℕ
counted o x n w = wanted (min (touched w.size x n) (suc (length w.cells))) o (x / w.size) w

-- "each partly touched page counts: always if there are whole pages too, else if .. `each`": of the page at offset x, n bytes of it touched
abbrev pub partly : Span → (ℕ → ℕ) → ℕ → ℕ → ℕ
partly p each page n = pick (eqb n 0) 0 (pick (eqb p.whole 0) (each page) 1)

unfoldable pub counted_parts : (ℕ → ℕ) → ℕ → ℕ → ℕ → ℕ
counted_parts each size x n =
    let p : Span = span_of size x n in
    partly p each (x / size) p.head + partly p each ((x + tail_at size p) / size) p.tail

pub record Need : Type 0 where
  pub frames : ℕ
  pub slots : ℕ

-- "Each counted page needs one frame and two slots.", and other slots besides
abbrev pub needing : ℕ → ℕ → Need
needing f m = record { frames = f; slots = 2 * f + m }

-- "Adding a page needs one frame." "Adding a page needs two slots."
abbrev pub need_add : Need
need_add = needing 1 0

abbrev pub need_write : ℕ → ℕ → ℕ → Work → Need
need_write o x n w = needing (counted o x n w) 0

-- "Whole pages need two slots for each source range they meet"
unfoldable pub need_whole : ℕ → ℕ → ℕ → Work → ℕ
need_whole s x n w = let p : Span = span_of w.size x n in 2 * met s ((x + whole_at p) / w.size) p.whole w

abbrev pub need_copy : ℕ → ℕ → ℕ → ℕ → ℕ → Work → Need
need_copy s x o y n w =
    pick (equal_places w.size x y)
    (needing (counted_parts (λ q. wants o q w) w.size y n) (need_whole s x n w))
    (need_write o y n w)

-- "A shadow copy needs no frame."
abbrev pub need_shadow : ℕ → ℕ → ℕ → Work → Need
need_shadow s x n w = needing 0 (need_whole s x n w)

-- "(zeroing: present and shared)"; "zeroing whole pages needs one"
abbrev pub need_zero : ℕ → ℕ → ℕ → Work → Need
need_zero o x n w = needing (counted_parts (λ q. common (state_of o q w)) w.size x n) (min 1 (span_of w.size x n).whole)
