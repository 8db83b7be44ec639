-- Document 01's lines, and lines that are malformed: theorems by computation. What is expected is copied from document 01, or written by hand from it.
use Rattle.std.specs.Prelude.{◌≡◌, refl, List, [], ◌∷◌, ◌++◌, ℕ, replicate, Option, None, Some, codes}
use Prim.Native.String.{String}
use Rattle.book.specs.Compute.{computing}
use Rattle.book.specs.Book.{Call, new_object, drop_object, write, read, add, look_up, copy, shadow, zero_out, counts, created}
use Rattle.hexadecimal.specs.Hex.{value_of, bytes_of, digits_of}
use Rattle.replies.specs.Line.{rows, chosen, parse, spoken, line_answer, line_answers}

abbrev asks : String → Option Call
asks t = parse (codes t)

unfoldable reading : ℕ
unfolding value_of bytes_of digits_of rows chosen parse spoken line_answer line_answers computing
reading = 0

abbrev texts : List String → List (List ℕ)
texts [] = []
texts (t ∷ ts) = codes t ∷ texts ts

-- "Input and whole output"
example : line_answers (created 16 65536)
    (texts
    ("0100"
    ∷ "0101"
    ∷ "030000000FFEAABBCCDD"
    ∷ "070000000000010000000000002000"
    ∷ "03010000000011"
    ∷ "0A"
    ∷ "040000000FFE04"
    ∷ "060100000001"
    ∷ "0200"
    ∷ "0A" ∷ []))
    ≡ texts ("00" ∷ "00" ∷ "00" ∷ "00" ∷ "00" ∷ "0000030003" ∷ "00AABBCCDD" ∷ "0002" ∷ "00" ∷ "0000020002" ∷ [])
unfolding reading
example = refl

-- the calls of these lines
new_object_lem : asks "0100" ≡ Some (new_object 0)
unfolding reading
new_object_lem = refl

write_four : asks "030000000FFEAABBCCDD" ≡ Some (write 0 4094 (170 ∷ 187 ∷ 204 ∷ 221 ∷ []))
unfolding reading
write_four = refl

copy_two_pages : asks "070000000000010000000000002000" ≡ Some (copy 0 0 1 0 8192)
unfolding reading
copy_two_pages = refl

write_one : asks "03010000000011" ≡ Some (write 1 0 (17 ∷ []))
unfolding reading
write_one = refl

count : asks "0A" ≡ Some counts
unfolding reading
count = refl

read_four : asks "040000000FFE04" ≡ Some (read 0 4094 4)
unfolding reading
read_four = refl

look : asks "060100000001" ≡ Some (look_up 1 1)
unfolding reading
look = refl

drop_object_lem : asks "0200" ≡ Some (drop_object 0)
unfolding reading
drop_object_lem = refl

-- the other codes; "high byte first", each field of another value
add_page_lem : asks "051F00030201" ≡ Some (add 31 197121)
unfolding reading
add_page_lem = refl

shadow_page : asks "08FF0102030400050607080000A000" ≡ Some (shadow 255 16909060 0 84281096 40960)
unfolding reading
shadow_page = refl

zero_bytes : asks "0902FFFFFFFF00000032" ≡ Some (zero_out 2 4294967295 50)
unfolding reading
zero_bytes = refl

-- "(either case)"; "Write data may be empty."
small_letters : asks "030000000ffeaAbBcCdD" ≡ Some (write 0 4094 (170 ∷ 187 ∷ 204 ∷ 221 ∷ []))
unfolding reading
small_letters = refl

no_data : asks "030000000FFE" ≡ Some (write 0 4094 [])
unfolding reading
no_data = refl

-- "An empty line, .. an unknown code, a field too short or too long, an odd number of digits or another character prints `FF`."
empty_line : asks "" ≡ None
unfolding reading
empty_line = refl

unknown_codes : (asks "00" ≡ None) × (asks "0B" ≡ None) × (asks "FF00" ≡ None)
unfolding reading
unknown_codes = (refl, refl, refl)

too_short : (asks "01" ≡ None) × (asks "0300000000" ≡ None) × (asks "040000000000" ≡ None) × (asks "0500000000" ≡ None)
    × (asks "0700000000000100000000000020" ≡ None) × (asks "090000000000000000" ≡ None)
unfolding reading
too_short = (refl, refl, refl, refl, refl, refl)

too_long : (asks "010000" ≡ None) × (asks "0400000000000000" ≡ None) × (asks "06000000000000" ≡ None)
    × (asks "07000000000001000000000000200000" ≡ None) × (asks "0A00" ≡ None)
unfolding reading
too_long = (refl, refl, refl, refl, refl)

odd_digits : (asks "0" ≡ None) × (asks "01001" ≡ None) × (asks "03000000000011A" ≡ None)
unfolding reading
odd_digits = (refl, refl, refl)

-- the characters beside the digits, a blank, and a carriage return at the end
other_characters : (asks "0/" ≡ None) × (asks ":0" ≡ None) × (asks "0@" ≡ None) × (asks "0G" ≡ None) × (asks "0`" ≡ None) × (asks "0g" ≡ None)
    × (asks "0100 " ≡ None) × (asks " 0100" ≡ None) × (asks "01 00" ≡ None)
unfolding reading
other_characters = (refl, refl, refl, refl, refl, refl, refl, refl, refl)

carriage_return : parse (codes "0100" ++ 13 ∷ []) ≡ None
unfolding reading
carriage_return = refl

-- "a line of at most 512 digits": the longest write has 250 bytes
longest : parse (codes "030000000000" ++ replicate 500 48) ≡ Some (write 0 0 (replicate 250 0))
unfolding reading
longest = refl

over_long : parse (codes "030000000000" ++ replicate 502 48) ≡ None
unfolding reading
over_long = refl

-- what is printed of a line that is malformed, and of one that is refused
turned_down : line_answers (created 16 65536) (texts ("0g" ∷ "" ∷ "0120" ∷ "0100" ∷ "0100" ∷ "040040000000FF" ∷ "0500000003FF" ∷ "050000000400" ∷ []))
    ≡ texts ("FF" ∷ "FF" ∷ "03" ∷ "00" ∷ "04" ∷ "06" ∷ "00000F" ∷ "00000E" ∷ [])
unfolding reading
turned_down = refl
