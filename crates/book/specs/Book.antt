-- THE RUN BOOK of document 01: its calls, its refusals, its answers, and what each call leaves.
use Rattle.std.specs.Prelude.{Bool, true, false, not, ◌&&◌, ◌||◌, List, [], ◌∷◌, ◌++◌, ℕ, zero, suc, ◌+◌, ◌*◌, ◌/◌, ◌%◌, ltb, leb, eqb, length, set, replicate, get_or, take, drop, Option, Some, None}
use Rattle.lists.specs.Test.{pick}
use Rattle.ranges.specs.Range.{Range, Slot, line, slot_at}
use Rattle.book.specs.Page.{object_bytes}
use Rattle.book.specs.Cell.{Cell, free, holds, frame_at, free_from}
use Rattle.book.specs.Work.{Work, next, page_of, add_page}
use Rattle.book.specs.Bytes.{reading, writing}
use Rattle.book.specs.Pages.{uncover}
use Rattle.book.specs.Copy.{copying, shadowing, zeroing}
use Rattle.book.specs.Need.{Need, need_add, need_write, need_copy, need_shadow, need_zero, State, state_of}

-- "It has its own names, ranges and backings; a backing has at each index nothing, or a frame number and 4,096 bytes."
-- The backings stand by frame: a cell is free or says of which backing and index the frame is, and its bytes.
pub record Book : Type 0 where
  pub size : ℕ  -- bytes of a page: 4,096
  pub frames : ℕ
  pub pool : ℕ  -- the pool's length
  pub live : List Bool  -- by name, 0 to 31
  pub ranges : List Range  -- by object, then start
  pub cells : List Cell  -- by frame

pub data Call : Type 0 where
  new_object : ℕ → Call  -- name
  drop_object : ℕ → Call
  add : ℕ → ℕ → Call  -- name, page
  look_up : ℕ → ℕ → Call
  show : ℕ → ℕ → Call
  read : ℕ → ℕ → ℕ → Call  -- name, offset, length of the lent buffer
  write : ℕ → ℕ → List ℕ → Call  -- name, offset, data
  copy : ℕ → ℕ → ℕ → ℕ → ℕ → Call  -- source, offset, destination, offset, length
  shadow : ℕ → ℕ → ℕ → ℕ → ℕ → Call
  zero_out : ℕ → ℕ → ℕ → Call  -- zero: name, offset, length
  counts : Call

pub data Answer : Type 0 where
  refused : ℕ → Answer  -- the number of the table
  done : Answer
  added : ℕ → Answer  -- the frame
  state : State → Answer  -- absent, private or shared
  bytes : List ℕ → Answer  -- what was read; a page shown, or the empty part
  numbers : ℕ → ℕ → Answer  -- frames in use, ranges

pub record Done : Type 0 where
  pub answer : Answer
  pub book : Book

-- ---- a call's work

-- "Frames come from those free at entry", the highest first
unfoldable pub entry : Book → Work
entry b = record { size = b.size; ranges = b.ranges; cells = b.cells; spare = free_from 0 [] b.cells }

-- "released frames are free when the call ends": the work's cells, and none of its spare frames, are kept
abbrev pub leave : Book → Work → Book
leave b w = record { size = b.size; frames = b.frames; pool = b.pool; live = b.live; ranges = w.ranges; cells = w.cells }

abbrev pub set_live : ℕ → Bool → Book → Book
set_live o t b = record { size = b.size; frames = b.frames; pool = b.pool; live = set b.live o t; ranges = b.ranges; cells = b.cells }

unfoldable pub in_use : List Cell → ℕ
in_use [] = 0
in_use (free ∷ cs) = in_use cs
in_use (holds b i x ∷ cs) = suc (in_use cs)

-- "A present page can be shown ..; an absent page .. shows an empty part"
abbrev pub shown : Option (List ℕ) → List ℕ
shown None = []
shown (Some x) = x

-- what each call does when it is not refused
unfoldable pub perform : Book → Call → Done
perform b (new_object o) = record { answer = done; book = set_live o true b }
perform b (drop_object o) = record { answer = done; book = set_live o false (leave b (uncover o 0 262144 (entry b))) }
perform b (add o p) = record { answer = added (next (entry b)); book = leave b (add_page o p (entry b)) }
perform b (look_up o p) = record { answer = state (state_of o p (entry b)); book = b }
perform b (show o p) = record { answer = bytes (shown (page_of (line o p) (entry b))); book = b }
perform b (read o x n) = record { answer = bytes (reading o x n (entry b)); book = b }
perform b (write o x d) = record { answer = done; book = leave b (writing o x d (entry b)) }
perform b (copy s x o y n) = record { answer = done; book = leave b (copying s x o y n (entry b)) }
perform b (shadow s x o y n) = record { answer = done; book = leave b (shadowing s x o y n (entry b)) }
perform b (zero_out o x n) = record { answer = done; book = leave b (zeroing o x n (entry b)) }
perform b counts = record { answer = numbers (in_use b.cells) (length b.ranges); book = b }

-- ---- the table of refusals

abbrev pub Table : Type 0
Table = List (Bool × ℕ)

-- "The lowest number that applies is given, and never otherwise"; 0 where none applies
unfoldable pub lowest : Table → ℕ
lowest [] = 0
lowest (r ∷ rs) = pick r.0 r.1 (lowest rs)

-- 2: "a lent pool's length differs from frames × 4,096"
abbrev pub no_pool : Book → Bool
no_pool b = not (eqb b.pool (b.frames * b.size))

-- 3: "a name above 31; except at creation of an object, one not live"
abbrev pub no_object : Book → ℕ → Bool
no_object b o = ltb 31 o || not (get_or b.live o false)

-- 6: "offset + length above 1,073,741,824, or a page above 262,143"
abbrev pub past_end : ℕ → ℕ → Bool
past_end x n = ltb object_bytes (x + n)

abbrev pub past_page : Book → ℕ → Bool
past_page b p = leb (object_bytes / b.size) p

-- 7: "source offset or length no multiple of 4,096"
abbrev pub not_whole : Book → ℕ → Bool
not_whole b x = not (eqb (x % b.size) 0)

-- 8: "fewer free frames than needed"; 9: "fewer free range slots than needed"
abbrev pub lacking : Work → Need → Table
lacking w n = (ltb (length w.spare) n.frames, 8) ∷ (ltb 512 (length w.ranges + n.slots), 9) ∷ []

-- the rows that concern each call, in the table's order
unfoldable pub table : Book → Call → Table
table b (new_object o) = (ltb 31 o, 3) ∷ (get_or b.live o false, 4) ∷ []
table b (drop_object o) = (no_object b o, 3) ∷ []
table b (add o p) = (no_pool b, 2) ∷ (no_object b o, 3) ∷ (past_page b p, 6) ∷ lacking (entry b) need_add
table b (look_up o p) = (no_object b o, 3) ∷ (past_page b p, 6) ∷ []
table b (show o p) = (no_pool b, 2) ∷ (no_object b o, 3) ∷ (past_page b p, 6) ∷ []
table b (read o x n) = (no_pool b, 2) ∷ (no_object b o, 3) ∷ (past_end x n, 6) ∷ []
table b (write o x d) = (no_pool b, 2) ∷ (no_object b o, 3) ∷ (past_end x (length d), 6) ∷ lacking (entry b) (need_write o x (length d) (entry b))
table b (copy s x o y n) =
    (no_pool b, 2) ∷ (no_object b s || no_object b o, 3) ∷ (eqb s o, 5) ∷ (past_end x n || past_end y n, 6) ∷ lacking (entry b) (need_copy s x o y n (entry b))
table b (shadow s x o y n) =
    (no_pool b, 2) ∷ (no_object b s || no_object b o, 3) ∷ (eqb s o, 5) ∷ (past_end x n || past_end y n, 6)
    ∷ (not_whole b x || not_whole b n, 7) ∷ lacking (entry b) (need_shadow s x n (entry b))
table b (zero_out o x n) = (no_pool b, 2) ∷ (no_object b o, 3) ∷ (past_end x n, 6) ∷ lacking (entry b) (need_zero o x n (entry b))
table b counts = []

-- what a refused call answers: the number, or of a page to be shown "an empty part, and the part is the whole answer"
abbrev pub declined : Call → ℕ → Answer
declined (new_object o) k = refused k
declined (drop_object o) k = refused k
declined (add o p) k = refused k
declined (look_up o p) k = refused k
declined (show o p) k = bytes []
declined (read o x n) k = refused k
declined (write o x d) k = refused k
declined (copy s x o y n) k = refused k
declined (shadow s x o y n) k = refused k
declined (zero_out o x n) k = refused k
declined counts k = refused k

-- "The table, read on the book, decides its refusals, which change nothing."
abbrev pub judged : ℕ → Book → Call → Done
judged zero b c = perform b c
judged (suc k) b c = record { answer = declined c (suc k); book = b }

unfoldable pub step : Book → Call → Done
step b c = judged (lowest (table b c)) b c

-- the answers to a list of calls
unfoldable pub answers : Book → List Call → List Answer
answers b [] = []
answers b (c ∷ cs) = let d : Done = step b c in d.answer ∷ answers d.book cs

-- the book that a list of calls leaves
unfoldable pub after : Book → List Call → Book
after b [] = b
after b (c ∷ cs) = after (step b c).book cs

-- ---- creation

-- "It starts empty."
unfoldable pub empty : ℕ → ℕ → ℕ → Book
empty size frames pool = record { size = size; frames = frames; pool = pool; live = replicate 32 false; ranges = []; cells = replicate frames free }

-- "at creation of a store, frames outside 1 to 1,024" is refusal 2; "A refused creation of a store hands back the empty store of one frame."
unfoldable pub create : ℕ → ℕ → Done
create frames pool =
    pick (leb 1 frames && leb frames 1024)
    (record { answer = done; book = empty 4096 frames pool })
    (record { answer = refused 2; book = empty 4096 1 pool })

abbrev pub created : ℕ → ℕ → Book
created frames pool = (create frames pool).book

-- ---- what can be seen of a book besides its answers: live names are `live`, range edges `ranges`, sharing is `look_up`; the files are in File.antt

-- "each page's frame"
abbrev pub frame_in : List Cell → Option Slot → Option ℕ
frame_in cs None = None
frame_in cs (Some s) = frame_at s 0 cs

unfoldable pub frame_of : Book → ℕ → ℕ → Option ℕ
frame_of b o p = frame_in b.cells (slot_at (line o p) b.ranges)

-- "free frames", the highest first
abbrev pub free_frames : Book → List ℕ
free_frames b = free_from 0 [] b.cells

-- The pool after a call, from the pool before it and the cells after it: frame f is the bytes from f × size.
-- "Pool bytes that a call neither writes nor hands out stay"; "released frames .. keep their bytes".
unfoldable pub pool_after : ℕ → List Cell → List ℕ → List ℕ
pool_after size [] old = old
pool_after size (free ∷ cs) old = take size old ++ pool_after size cs (drop size old)
pool_after size (holds b i x ∷ cs) old = x ++ pool_after size cs (drop size old)

-- the pool after a list of calls
unfoldable pub pools : Book → List Call → List ℕ → List ℕ
pools b [] x = x
pools b (c ∷ cs) x = pools (step b c).book cs (pool_after b.size (step b c).book.cells x)
