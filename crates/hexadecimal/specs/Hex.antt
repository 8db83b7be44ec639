-- HEXADECIMAL: "lines of hexadecimal (either case)"; "Output uses capitals." A line is the list of its characters' codes.
use Rattle.std.specs.Prelude.{◌&&◌, List, [], ◌∷◌, ℕ, ◌+◌, ◌-◌, ◌*◌, ◌/◌, ◌%◌, ltb, leb, Option, None, Some}
use Rattle.lists.specs.Test.{pick}

-- the value of a digit: 0 to 9, A to F, a to f; "another character" has none
unfoldable pub value_of : ℕ → Option ℕ
value_of c =
    pick (leb 48 c && leb c 57) (Some (c - 48))
    (pick (leb 65 c && leb c 70) (Some (c - 55))
    (pick (leb 97 c && leb c 102) (Some (c - 87)) None))

-- a byte is two digits, the high one first
abbrev pub byte_before : Option ℕ → Option ℕ → Option (List ℕ) → Option (List ℕ)
byte_before None l x = None
byte_before (Some h) None x = None
byte_before (Some h) (Some l) None = None
byte_before (Some h) (Some l) (Some x) = Some ((h * 16 + l) ∷ x)

-- the bytes that digits stand for; none for "an odd number of digits or another character"
unfoldable pub bytes_of : List ℕ → Option (List ℕ)
bytes_of [] = Some []
bytes_of (a ∷ []) = None
bytes_of (a ∷ b ∷ cs) = byte_before (value_of a) (value_of b) (bytes_of cs)

-- the capital digit of a value below 16
abbrev pub digit_of : ℕ → ℕ
digit_of v = pick (ltb v 10) (48 + v) (55 + v)

-- the digits of bytes
unfoldable pub digits_of : List ℕ → List ℕ
digits_of [] = []
digits_of (b ∷ bs) = digit_of (b / 16) ∷ digit_of (b % 16) ∷ digits_of bs
