-- Each object as a file of bytes, and what each call that is not refused makes of the files: "how each record reads as a file of its own".
use Rattle.std.specs.Prelude.{Bool, true, false, ◌&&◌, ℕ, suc, ◌+◌, ◌-◌, ◌*◌, ◌/◌, ltb, leb, eqb, length, get_or, Option, Some, None}
use Rattle.lists.specs.Test.{pick}
use Rattle.ranges.specs.Range.{Slot, line, slot_at}
use Rattle.book.specs.Page.{object_bytes, Span, span_of, whole_at, tail_at}
use Rattle.book.specs.Bytes.{byte_at}
use Rattle.book.specs.Copy.{equal_places}
use Rattle.book.specs.Book.{Book, Call, new_object, drop_object, add, look_up, show, read, write, copy, shadow, zero_out, counts, entry}

-- byte y of object o: "Absent bytes read as zero."
abbrev pub file_at : Book → ℕ → ℕ → ℕ
file_at b o y = byte_at o y (entry b)

-- The bytes from `first` up to `past` of one object become `value`; every other byte of every object stays.
pub record Effect : Type 0 where
  pub object : ℕ
  pub first : ℕ
  pub past : ℕ
  pub value : ℕ → ℕ

abbrev pub nothing : Effect
nothing = record { object = 0; first = 0; past = 0; value = λ y. 0 }

abbrev pub zeros : ℕ → ℕ → ℕ → Effect
zeros o x e = record { object = o; first = x; past = e; value = λ y. 0 }

abbrev pub is_none : Option Slot → Bool
is_none None = true
is_none (Some s) = false

-- no range covers the page of byte y of object s
abbrev pub uncovered : Book → ℕ → ℕ → Bool
uncovered b s y = is_none (slot_at (line s (y / b.size)) b.ranges)

-- "A whole source page that no range covers is skipped": byte t of the n bytes from x of object s is in such a page
unfoldable pub skipped : Book → ℕ → ℕ → ℕ → ℕ → Bool
skipped b s x n t =
    let p : Span = span_of b.size x n in
    leb (whole_at p) t && (ltb t (tail_at b.size p) && uncovered b s (x + t))

-- what each call that is not refused makes of the files
unfoldable pub effect : Book → Call → Effect
effect b (new_object o) = zeros o 0 object_bytes
effect b (drop_object o) = zeros o 0 object_bytes
effect b (add o p) = zeros o (p * b.size) (suc p * b.size)
effect b (look_up o p) = nothing
effect b (show o p) = nothing
effect b (read o x n) = nothing
effect b (write o x d) = record { object = o; first = x; past = x + length d; value = λ y. get_or d (y - x) 0 }
-- "At unequal places all is bytes, absent source bytes being zeros"; at equal ones "the destination page keeps what it had" where it is skipped
effect b (copy s x o y n) = record {
  object = o;
  first = y;
  past = y + n;
  value = λ z. pick (equal_places b.size x y && skipped b s x n (z - y)) (file_at b o z) (file_at b s (x + (z - y)));
}
-- "The shadow copy ignores the destination's place within a page"
effect b (shadow s x o y n) =
    let q : ℕ = y / b.size * b.size in
    record { object = o; first = q; past = q + n; value = λ z. pick (uncovered b s (x + (z - q))) (file_at b o z) (file_at b s (x + (z - q))) }
effect b (zero_out o x n) = zeros o x (x + n)
effect b counts = nothing

-- byte y of object o after the call
unfoldable pub file_after : Book → Call → ℕ → ℕ → ℕ
file_after b c o y =
    let e : Effect = effect b c in
    pick (eqb o e.object && (leb e.first y && ltb y e.past)) (e.value y) (file_at b o y)
