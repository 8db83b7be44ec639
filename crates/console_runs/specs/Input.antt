-- THE LINES OF AN INPUT with all their bytes, and that the answers to them are the same when each is cut after its 513th byte.
use Rattle.std.specs.Prelude.{◌≡◌, refl, List, [], ◌∷◌, ◌++◌, map, ℕ, eqb, None}
use Rattle.std.proofs.Common.{ap, sym, ◌∙◌}
use Rattle.lists.specs.Test.{pick, by-test}
use Rattle.book.specs.Book.{Book, pool_after}
use Rattle.replies.specs.Line.{parse, printed, line_answer, line_answers, after_lines}
use Rattle.lines.specs.Parse.{parse_long}
use Rattle.line_runs.specs.LineRuns.{line_pools}
use Rattle.console.specs.Lines.{feed, cut, ended, underway, last, cut_unseen}

-- "Lines end in a line feed; the last one's may be missing." The lines of the bytes c, where the bytes h of the first one have come before; `last h` is the one
-- line h, or none where h is empty
unfoldable pub lines_from : List ℕ → List ℕ → List (List ℕ)
lines_from h [] = last h
lines_from h (x ∷ c) = pick (eqb x feed) (h ∷ lines_from [] c) (lines_from (h ++ (x ∷ [])) c)

-- THE LINES OF AN INPUT
abbrev pub input_lines : List ℕ → List (List ℕ)
input_lines c = lines_from [] c

-- ---- the program keeps 513 bytes of a line

last_cut : (h : List ℕ) → last (cut h) ≡ map cut (last h)
last_cut [] = refl
last_cut (x ∷ h) = refl

pub lines_cut : (h c : List ℕ) → map cut (lines_from h c) ≡ ended h c ++ last (underway h c)
unfolding lines_from ended underway
lines_cut h [] = sym (last_cut h)
lines_cut h (x ∷ c) = by-test (eqb x feed)
    (λ t. rw t (ap (λ l. cut h ∷ l) (lines_cut [] c)))
    (λ t. rw t (lines_cut (h ++ (x ∷ [])) c))

-- ---- and no answer differs by that: "one with over 512 digits .. prints `FF`"

pub parse_cut : (l : List ℕ) → parse (cut l) ≡ parse l
parse_cut = cut_unseen parse None parse_long

pub answer_cut : (b : Book) (l : List ℕ) → line_answer b (cut l) ≡ line_answer b l
unfolding line_answer
answer_cut b l = ap (printed b) (parse_cut l)

pub answers_cut : (b : Book) (ls : List (List ℕ)) → line_answers b (map cut ls) ≡ line_answers b ls
unfolding line_answers
answers_cut b [] = refl
answers_cut b (l ∷ ls) =
    ap (λ v. v.digits ∷ line_answers v.book (map cut ls)) (answer_cut b l)
    ∙ ap (λ v. (line_answer b l).digits ∷ v) (answers_cut (line_answer b l).book ls)

pub after_cut : (b : Book) (ls : List (List ℕ)) → after_lines b (map cut ls) ≡ after_lines b ls
unfolding after_lines
after_cut b [] = refl
after_cut b (l ∷ ls) = ap (λ v. after_lines v.book (map cut ls)) (answer_cut b l) ∙ after_cut (line_answer b l).book ls

pub pools_cut : (b : Book) (ls : List (List ℕ)) (x : List ℕ) → line_pools b (map cut ls) x ≡ line_pools b ls x
unfolding line_pools
pools_cut b [] x = refl
pools_cut b (l ∷ ls) x =
    ap (λ v. line_pools v.book (map cut ls) (pool_after 4096 v.book.cells x)) (answer_cut b l)
    ∙ pools_cut (line_answer b l).book ls (pool_after 4096 (line_answer b l).book.cells x)
