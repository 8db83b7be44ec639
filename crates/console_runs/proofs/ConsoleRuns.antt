-- THE LINE PROGRAM FROM INPUT TO OUTPUT: in whatever parts the input comes, what is printed is 01's for the lines of the whole input.
use Rattle.std.specs.Prelude.{◌≡◌, refl, true, ℕ, length}
use Rattle.std.proofs.Common.{ap, ap₂, subst, sym, ◌∙◌}
use mathlib.Core.List.{List, [], ◌∷◌, ◌++◌, map, flatten, append_assoc}
use Rattle.store.specs.declared.Store.{Store}
use Rattle.book.specs.Book.{Book, pool_after, created}
use Rattle.store.specs.Abs.{book_of}
use Rattle.store.specs.Sound.{sound?}
use Rattle.replies.specs.Line.{line_answer, line_answers, after_lines}
use Rattle.lines.specs.Did.{LineDid, line_book, line_pool, line_sound}
use Rattle.runs.specs.Called.{Started, begun}
use Rattle.line_runs.specs.LineRuns.{line_pools}
use Rattle.console.specs.Lines.{feed, cut, ended, last}
use Rattle.console.specs.Answers.{Answers, nothing, then}
use Rattle.console_runs.specs.Input.{lines_from, input_lines, answers_cut, after_cut, pools_cut}
use Rattle.console_runs.proofs.Input.{lines_part}
use Rattle.console_runs.specs.ConsoleRuns.{output, InputRan, part, at_end, AsOutput}

-- ---- one line

as_line : (line : List ℕ) (s : Store) (x d : List ℕ) (t : Store) (y : List ℕ) → LineDid line s x d t y → sound? s ≡ true
    → AsOutput (book_of s x) x (line ∷ []) (d ++ (feed ∷ [])) t y
unfolding output line_answers after_lines line_pools
as_line line s x d t y L h =
    let e : record { digits = d; book = book_of t y } ≡ line_answer (book_of s x) line = line_book line s x d t y L h in
    record {
      printed = ap (λ v. v.digits ++ (feed ∷ [])) e;
      left = ap (λ v. v.book) e;
      pool = line_pool line s x d t y L h;
      sound = line_sound line s x d t y L h;
    }

-- ---- lines after lines

output_append : (ds es : List (List ℕ)) → output (ds ++ es) ≡ output ds ++ output es
unfolding output
output_append [] es = refl
output_append (d ∷ ds) es = ap (λ l. d ++ (feed ∷ l)) (output_append ds es) ∙ sym (append_assoc d (feed ∷ output ds) (output es))

answers_append : (b : Book) (ls ms : List (List ℕ)) → line_answers b (ls ++ ms) ≡ line_answers b ls ++ line_answers (after_lines b ls) ms
unfolding line_answers after_lines
answers_append b [] ms = refl
answers_append b (l ∷ ls) ms = ap (λ v. (line_answer b l).digits ∷ v) (answers_append (line_answer b l).book ls ms)

after_append : (b : Book) (ls ms : List (List ℕ)) → after_lines b (ls ++ ms) ≡ after_lines (after_lines b ls) ms
unfolding after_lines
after_append b [] ms = refl
after_append b (l ∷ ls) ms = after_append (line_answer b l).book ls ms

pools_append : (b : Book) (ls ms : List (List ℕ)) (x : List ℕ) → line_pools b (ls ++ ms) x ≡ line_pools (after_lines b ls) ms (line_pools b ls x)
unfolding line_pools after_lines
pools_append b [] ms x = refl
pools_append b (l ∷ ls) ms x = pools_append (line_answer b l).book ls ms (pool_after 4096 (line_answer b l).book.cells x)

as_append : (b : Book) (x : List ℕ) (ls ms : List (List ℕ)) (o p : List ℕ) (t u : Store) (y z : List ℕ)
    → AsOutput b x ls o t y → AsOutput (book_of t y) y ms p u z → AsOutput b x (ls ++ ms) (o ++ p) u z
as_append b x ls ms o p t u y z A B = record {
  printed =
      ap₂ (λ v w. v ++ w) A.printed (B.printed ∙ ap (λ v. output (line_answers v ms)) A.left)
      ∙ sym (output_append (line_answers b ls) (line_answers (after_lines b ls) ms))
      ∙ ap output (sym (answers_append b ls ms));
  left = B.left ∙ ap (λ v. after_lines v ms) A.left ∙ sym (after_append b ls ms);
  pool = B.pool ∙ ap₂ (λ v w. line_pools v ms w) A.left A.pool ∙ sym (pools_append b ls ms x);
  sound = B.sound;
}

-- lines answered one after another
pub answers_law : (s : Store) (x : List ℕ) (ls : List (List ℕ)) (o : List ℕ) (t : Store) (y : List ℕ)
    → Answers s x ls o t y → sound? s ≡ true → AsOutput (book_of s x) x ls o t y
unfolding output line_answers after_lines line_pools
answers_law s x ls o t y nothing h = record { printed = refl; left = refl; pool = refl; sound = h }
answers_law s x ls o t y (then {t = v} {y = w} {ls = ms} {o = p} line d A S) h =
    let B = answers_law s x ms p v w A h in
    as_append (book_of s x) x ms (line ∷ []) p (d ++ (feed ∷ [])) v t w y B (as_line line v w d t y S B.sound)

-- ---- lines cut after their 513th byte or not

as_cut : (b : Book) (x : List ℕ) (ls : List (List ℕ)) (o : List ℕ) (u : Store) (z : List ℕ) → AsOutput b x ls o u z → AsOutput b x (map cut ls) o u z
as_cut b x ls o u z A = record {
  printed = A.printed ∙ ap output (sym (answers_cut b ls));
  left = A.left ∙ sym (after_cut b ls);
  pool = A.pool ∙ sym (pools_cut b ls x);
  sound = A.sound;
}

as_uncut : (b : Book) (x : List ℕ) (ls : List (List ℕ)) (o : List ℕ) (u : Store) (z : List ℕ) → AsOutput b x (map cut ls) o u z → AsOutput b x ls o u z
as_uncut b x ls o u z A = record {
  printed = A.printed ∙ ap output (answers_cut b ls);
  left = A.left ∙ after_cut b ls;
  pool = A.pool ∙ pools_cut b ls x;
  sound = A.sound;
}

-- FROM ANY SOUND STORE, with any pool, in the midst of a line
pub input_law : (s : Store) (x h : List ℕ) (cs : List (List ℕ)) (o : List ℕ) (u : Store) (z : List ℕ)
    → InputRan s x h cs o u z → sound? s ≡ true → AsOutput (book_of s x) x (lines_from h (flatten cs)) o u z
unfolding flatten lines_from
input_law s x h cs o u z (at_end A) k = answers_law s x (last h) o u z A k
input_law s x h cs o u z (part {t = t} {y = y} {g = g} {o = p} {cs = ds} c F R) k =
    let A = answers_law s x (ended h c) F.printed t y F.run k in
    let B = as_cut (book_of t y) y (lines_from g (flatten ds)) p u z (input_law t y g ds p u z R A.sound) in
    as_uncut (book_of s x) x (lines_from h (c ++ flatten ds)) o u z
    (subst (λ l. AsOutput (book_of s x) x l o u z) (sym (lines_part h c g (flatten ds) F.held))
    (as_append (book_of s x) x (ended h c) (map cut (lines_from g (flatten ds))) F.printed p t u y z A B))

-- THE THEOREM. "The line program starts with a new store of 16 frames and reads lines .. It prints one line each". The pool has 65,536 bytes, of any value;
-- the input comes in any parts. The bytes printed are those of the lines that the run book answers to the lines of the whole input, and the store and the
-- pool left are the book's too.
pub console_program : (x : List ℕ) (s : Store) (parts : List (List ℕ)) (o : List ℕ) (u : Store) (z : List ℕ)
    → length x ≡ 65536 → Started 16 x s → InputRan s x [] parts o u z → AsOutput (created 16 65536) x (input_lines (flatten parts)) o u z
console_program x s parts o u z n i r =
    let I = begun i in
    let e : book_of s x ≡ created 16 65536 = I.0 ∙ ap (created 16) n in
    subst (λ b. AsOutput b x (input_lines (flatten parts)) o u z) e (input_law s x [] parts o u z r I.1)
