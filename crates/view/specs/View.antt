-- What showing a page answers, for every store whatever.
use Rattle.std.specs.Prelude.{List, [], ℕ, zero, suc, ◌+◌, ◌*◌, ◌≤◌, Option, Some, None}
use Rattle.store.specs.declared.Store.{Store}
use Rattle.book.specs.Book.{show, frame_of}
use Rattle.pool.specs.Bytes.{frame_at}
use Rattle.store.specs.Abs.{book_of}
use Rattle.refusals.specs.Refuse.{refusal}

-- the page's frame in the book; none where the call is refused
abbrev pub unrefused : ℕ → Option ℕ → Option ℕ
unrefused zero f = f
unrefused (suc k) f = None

unfoldable pub frame_shown : Store → List ℕ → ℕ → ℕ → Option ℕ
frame_shown s x o p = unrefused (refusal s x (show o p)) (frame_of (book_of s x) o p)

-- "that very part of the pool", 4,096 bytes from the frame's start; or the empty part
abbrev pub part_of : List ℕ → Option ℕ → List ℕ
part_of x None = []
part_of x (Some f) = frame_at 4096 x f

abbrev pub begin_of : Option ℕ → ℕ
begin_of None = 0
begin_of (Some f) = f * 4096

-- the frame lies in the store
abbrev pub Inside : ℕ → Option ℕ → Type 0
Inside n None = Unit {0}
Inside n (Some f) = f * 4096 + 4096 ≤ n
