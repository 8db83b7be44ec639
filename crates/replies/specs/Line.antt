-- THE LINE PROGRAM'S LINES: what call a line asks for, and what line answers it. A line is the list of its characters' codes, without the line feed.
use Rattle.std.specs.Prelude.{Bool, List, [], ◌∷◌, ℕ, ◌+◌, ◌*◌, ◌/◌, ◌%◌, ltb, leb, eqb, length, get_or, drop, Option, Some, None}
use Rattle.lists.specs.Test.{pick}
use Rattle.hexadecimal.specs.Hex.{bytes_of, digits_of}
use Rattle.book.specs.Need.{state_byte}
use Rattle.book.specs.Book.{Book, Call, new_object, drop_object, write, read, add, look_up, copy, shadow, zero_out, counts, Answer, refused, done, added, state, bytes, numbers, step}

-- "Names take one byte, offsets, pages and lengths four", "high byte first". Of a line's bytes, the one at index k, and the number of the four from index k on.
abbrev pub byte_at : ℕ → List ℕ → ℕ
byte_at k x = get_or x k 0

abbrev pub four_at : ℕ → List ℕ → ℕ
four_at k x = ((byte_at k x * 256 + byte_at (k + 1) x) * 256 + byte_at (k + 2) x) * 256 + byte_at (k + 3) x

-- A row of the table: a code, the length of a line that has it, and its call.
pub record Row : Type 0 where
  pub code : ℕ
  pub fits : Bool
  pub call : Call

abbrev row : ℕ → Bool → Call → Row
row k t c = record { code = k; fits = t; call = c }

-- The code stands at index 0, so the first name at 1, an offset or page behind it at 2, and what comes then at 6.
-- "`01` new, `02` drop (name); `03` write (name, offset, data); `04` read (name, offset, one-byte length); `05` add, `06` look up (name, page);
-- `07` copy, `08` shadow (source, offset, destination, offset, length); `09` zero (name, offset, length); `0A` counts."
-- "Write data may be empty."
unfoldable pub rows : List ℕ → List Row
rows x =
    row 1 (eqb (length x) 2) (new_object (byte_at 1 x))
    ∷ row 2 (eqb (length x) 2) (drop_object (byte_at 1 x))
    ∷ row 3 (leb 6 (length x)) (write (byte_at 1 x) (four_at 2 x) (drop 6 x))
    ∷ row 4 (eqb (length x) 7) (read (byte_at 1 x) (four_at 2 x) (byte_at 6 x))
    ∷ row 5 (eqb (length x) 6) (add (byte_at 1 x) (four_at 2 x))
    ∷ row 6 (eqb (length x) 6) (look_up (byte_at 1 x) (four_at 2 x))
    ∷ row 7 (eqb (length x) 15) (copy (byte_at 1 x) (four_at 2 x) (byte_at 6 x) (four_at 7 x) (four_at 11 x))
    ∷ row 8 (eqb (length x) 15) (shadow (byte_at 1 x) (four_at 2 x) (byte_at 6 x) (four_at 7 x) (four_at 11 x))
    ∷ row 9 (eqb (length x) 10) (zero_out (byte_at 1 x) (four_at 2 x) (four_at 6 x))
    ∷ row 10 (eqb (length x) 1) counts
    ∷ []

-- none for "an unknown code, a field too short or too long"
unfoldable pub chosen : ℕ → List Row → Option Call
chosen k [] = None
chosen k (r ∷ rs) = pick (eqb k r.code) (pick r.fits (Some r.call) None) (chosen k rs)

-- the call of a line's bytes; none for "An empty line"
abbrev pub call_of : List ℕ → Option Call
call_of x = pick (eqb (length x) 0) None (chosen (byte_at 0 x) (rows x))

abbrev pub call_in : Option (List ℕ) → Option Call
call_in None = None
call_in (Some x) = call_of x

-- THE CALL OF A LINE; none for a line that "prints `FF`", also for "one with over 512 digits"
unfoldable pub parse : List ℕ → Option Call
parse line = pick (ltb 512 (length line)) None (call_in (bytes_of line))

-- "(two bytes)": a number's low two, high byte first. A frame is below 1,024 and there are at most 512 ranges.
abbrev pub two_of : ℕ → List ℕ → List ℕ
two_of n x = n / 256 % 256 ∷ n % 256 ∷ x

-- THE BYTES OF AN ANSWER: "refusal byte or `00`, then read data; the added frame (two bytes); `00` absent, `01` private, `02` shared; or frames in use and ranges
-- (two bytes each). A refusal prints its byte alone."
unfoldable pub spoken : Answer → List ℕ
spoken (refused k) = k ∷ []
spoken done = 0 ∷ []
spoken (added f) = 0 ∷ two_of f []
spoken (state t) = 0 ∷ state_byte t ∷ []
spoken (bytes x) = 0 ∷ x
spoken (numbers f r) = 0 ∷ two_of f (two_of r [])

-- the bytes of "`FF`"
abbrev pub malformed : List ℕ
malformed = 255 ∷ []

-- THE LINE PRINTED, and the book after it
pub record Printed : Type 0 where
  pub digits : List ℕ
  pub book : Book

abbrev pub printed : Book → Option Call → Printed
printed b None = record { digits = digits_of malformed; book = b }
printed b (Some c) = record { digits = digits_of (spoken (step b c).answer); book = (step b c).book }

unfoldable pub line_answer : Book → List ℕ → Printed
line_answer b line = printed b (parse line)

-- the lines printed for a list of lines
unfoldable pub line_answers : Book → List (List ℕ) → List (List ℕ)
line_answers b [] = []
line_answers b (l ∷ ls) = (line_answer b l).digits ∷ line_answers (line_answer b l).book ls

-- the book that a list of lines leaves
unfoldable pub after_lines : Book → List (List ℕ) → Book
after_lines b [] = b
after_lines b (l ∷ ls) = after_lines (line_answer b l).book ls
