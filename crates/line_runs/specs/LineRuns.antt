-- LISTS OF LINES: what is printed for any list of lines is the book's, and so are the store and the pool left. A line is known by nothing but `answer`'s own
-- contract: `Learnt` is what any caller learns of a call, and the function's proof shows it.
use Rattle.std.specs.Prelude.{◌≡◌, refl, true, List, [], ◌∷◌, ℕ, length, Option, None, Some}
use Rattle.std.proofs.Common.{ap, ap₂, subst, ◌∙◌}
use contract.Lifetimes.{Lfts}
use denote.Ref.{MutBor, at_last}
use Rattle.arrayvec.specs.ArrayVec.{ArrayVec}
use Rattle.store.specs.declared.Store.{Store}
use Rattle.book.specs.Book.{Book, Call, step, after, pool_after, created}
use Rattle.store.specs.Abs.{book_of}
use Rattle.store.specs.Sound.{sound?}
use Rattle.replies.specs.Line.{parse, printed, line_answer, line_answers, after_lines}
use Rattle.lines.specs.Did.{LineDid, line_book, line_pool, line_sound}
use Rattle.runs.specs.Called.{Lent, Shared, Started, begun}
use Rattle.lines.proofs.answer.Reads as answer_reads

-- ONE LINE: store and pool before, line, digits printed, store and pool after.
pub data Lined : Store → List ℕ → List ℕ → List ℕ → Store → List ℕ → Type 0 where
  lined : (κs : Lfts 3) (s : MutBor Store) (pool : Lent) (line : Shared) (r : ArrayVec ℕ) (t : Store) (y : List ℕ)
      → answer_reads.Learnt κs (s, (pool, (line, tt))) r (at_last s t, (at_last pool y, (line, tt)))
      → Lined s.now pool.now line.now r.items t y

did : {s t : Store} {x line d y : List ℕ} → Lined s x line d t y → LineDid line s x d t y
did (lined κs s pool line r t y l) = l.1

-- A RUN over a list of lines: each gets the store and the pool as the last one left them
pub data LinesRan : Store → List ℕ → List (List ℕ) → List (List ℕ) → Store → List ℕ → Type 0 where
  finished : {s : Store} {x : List ℕ} → LinesRan s x [] [] s x
  answered : {s t u : Store} {x y z line d : List ℕ} {ls ds : List (List ℕ)}
      → Lined s x line d t y → LinesRan t y ls ds u z → LinesRan s x (line ∷ ls) (d ∷ ds) u z

-- the pool after a list of lines
unfoldable pub line_pools : Book → List (List ℕ) → List ℕ → List ℕ
line_pools b [] x = x
line_pools b (l ∷ ls) x = line_pools (line_answer b l).book ls (pool_after 4096 (line_answer b l).book.cells x)

-- what the run printed and left is the book's
pub record AsPrinted (b : Book) (x : List ℕ) (ls ds : List (List ℕ)) (u : Store) (z : List ℕ) : Type 0 where
  pub digits : ds ≡ line_answers b ls
  pub left : book_of u z ≡ after_lines b ls
  pub pool : z ≡ line_pools b ls x
  pub sound : sound? u ≡ true

-- FROM ANY SOUND STORE, with any pool
pub lines_law : (s : Store) (x : List ℕ) (ls ds : List (List ℕ)) (u : Store) (z : List ℕ)
    → LinesRan s x ls ds u z → sound? s ≡ true → AsPrinted (book_of s x) x ls ds u z
unfolding line_answers after_lines line_pools
lines_law s x ls ds u z finished h = record { digits = refl; left = refl; pool = refl; sound = h }
lines_law s x ls ds u z (answered {t = t} {y = y} {line = line} {d = d} {ls = ms} {ds = es} l k) h =
    let L : LineDid line s x d t y = did l in
    let e : record { digits = d; book = book_of t y } ≡ line_answer (book_of s x) line = line_book line s x d t y L h in
    let R = lines_law t y ms es u z k (line_sound line s x d t y L h) in
    record {
      digits = ap₂ (λ v w. v ∷ w) (ap (λ v. v.digits) e) (R.digits ∙ ap (λ v. line_answers v.book ms) e);
      left = R.left ∙ ap (λ v. after_lines v.book ms) e;
      pool = R.pool ∙ ap₂ (λ v w. line_pools v ms w) (ap (λ v. v.book) e) (line_pool line s x d t y L h);
      sound = R.sound;
    }

-- "The line program starts with a new store of 16 frames": THE THEOREM, for any list of lines and any bytes in the pool
pub line_program : (x : List ℕ) (s : Store) (ls ds : List (List ℕ)) (u : Store) (z : List ℕ)
    → length x ≡ 65536 → Started 16 x s → LinesRan s x ls ds u z → AsPrinted (created 16 65536) x ls ds u z
line_program x s ls ds u z n i r =
    let I = begun i in
    let e : book_of s x ≡ created 16 65536 = I.0 ∙ ap (created 16) n in
    subst (λ b. AsPrinted b x ls ds u z) e (lines_law s x ls ds u z r I.1)

-- ---- the lines as a list of calls: what holds of every book that a list of calls leaves holds of the line program's

-- the calls that the lines ask for
abbrev before : Option Call → List Call → List Call
before None cs = cs
before (Some c) cs = c ∷ cs

unfoldable pub asked : List (List ℕ) → List Call
asked [] = []
asked (l ∷ ls) = before (parse l) (asked ls)

pub after_asked : (b : Book) (ls : List (List ℕ)) → after_lines b ls ≡ after b (asked ls)
unfolding after_lines asked after line_answer
after_asked b [] = refl
after_asked b (l ∷ ls) = go (parse l) (λ v. after_asked v ls)
  where
    go : (o : Option Call) → ((v : Book) → after_lines v ls ≡ after v (asked ls)) → after_lines (printed b o).book ls ≡ after b (before o (asked ls))
    go None h = h b
    go (Some c) h = h (step b c).book
