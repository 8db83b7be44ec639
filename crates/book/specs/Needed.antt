-- "Frames .. that a call needs", by the rule itself: all touched pages are looked at. (`table` stops counting after frames + 1 pages, so that it computes;
-- laws/NoFrame shows that this makes no difference.)
use Rattle.std.specs.Prelude.{ℕ, ◌/◌, length}
use Rattle.lists.specs.Test.{pick}
use Rattle.book.specs.Page.{touched}
use Rattle.book.specs.Copy.{equal_places}
use Rattle.book.specs.Need.{state_of, common, wants, wanted, counted_parts}
use Rattle.book.specs.Book.{Book, Call, new_object, drop_object, add, look_up, show, read, write, copy, shadow, zero_out, counts, entry}

unfoldable pub needed : Book → Call → ℕ
needed b (new_object o) = 0
needed b (drop_object o) = 0
-- "Adding a page needs one frame."
needed b (add o p) = 1
needed b (look_up o p) = 0
needed b (show o p) = 0
needed b (read o x n) = 0
-- "For a write .., each touched destination page counts that is absent or shared at entry."
needed b (write o x d) = wanted (touched b.size x (length d)) o (x / b.size) (entry b)
-- "For a copy at equal places .., each partly touched page counts: always if there are whole pages too, else if absent or shared"
needed b (copy s x o y n) =
    pick (equal_places b.size x y)
    (counted_parts (λ q. wants o q (entry b)) b.size y n)
    (wanted (touched b.size y n) o (y / b.size) (entry b))
-- "A shadow copy needs no frame."
needed b (shadow s x o y n) = 0
-- "(zeroing: present and shared)"
needed b (zero_out o x n) = counted_parts (λ q. common (state_of o q (entry b))) b.size x n
needed b counts = 0
