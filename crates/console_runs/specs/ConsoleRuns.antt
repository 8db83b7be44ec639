-- What the law of the line program speaks of: the bytes of an output, a run over the parts of an input. The law itself is in proofs/ConsoleRuns.antt.
use Rattle.std.specs.Prelude.{◌≡◌, true, ℕ}
use mathlib.Core.List.{List, [], ◌∷◌, ◌++◌}
use Rattle.store.specs.declared.Store.{Store}
use Rattle.book.specs.Book.{Book}
use Rattle.store.specs.Abs.{book_of}
use Rattle.store.specs.Sound.{sound?}
use Rattle.replies.specs.Line.{line_answers, after_lines}
use Rattle.line_runs.specs.LineRuns.{line_pools}
use Rattle.console.specs.Lines.{feed, last}
use Rattle.console.specs.Answers.{Answers, Fed}

-- "It prints one line each": the bytes of the lines printed, each with a line feed
unfoldable pub output : List (List ℕ) → List ℕ
output [] = []
output (d ∷ ds) = d ++ (feed ∷ output ds)

-- A RUN over the parts of an input, as `console` goes through them: store, pool and the bytes held of the line under way; the parts to come; the bytes printed
-- for them; store and pool at the end. A part is known by nothing but `answer_chunk`'s contract (`Fed`, where all was written), the end of the input by
-- `answer_last`'s. Store, pool and bytes held are handed on.
-- Not proved, but read off the code: that `answer_all` hands on so, that the parts are what it has read, and that the bytes printed are those it has written.
-- No contract speaks of what the system reads and writes. A write that fails ends the work, and then nothing is claimed.
pub data InputRan : Store → List ℕ → List ℕ → List (List ℕ) → List ℕ → Store → List ℕ → Type 0 where
  part : {s t u : Store} {x h y g z o : List ℕ} {cs : List (List ℕ)} (c : List ℕ) (F : Fed s x h c t y g) → InputRan t y g cs o u z
      → InputRan s x h (c ∷ cs) (F.printed ++ o) u z
  at_end : {s t : Store} {x h o y : List ℕ} → Answers s x (last h) o t y → InputRan s x h [] o t y

-- the bytes o printed for the lines ls, the store u and the pool z left are the book's
pub record AsOutput (b : Book) (x : List ℕ) (ls : List (List ℕ)) (o : List ℕ) (u : Store) (z : List ℕ) : Type 0 where
  pub printed : o ≡ output (line_answers b ls)
  pub left : book_of u z ≡ after_lines b ls
  pub pool : z ≡ line_pools b ls x
  pub sound : sound? u ≡ true
