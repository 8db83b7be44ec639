-- LISTS OF CALLS: the answers to any list of the calls that there are, the store and the pool left, are the book's.
use Rattle.std.specs.Prelude.{◌≡◌, refl, true, List, [], ◌∷◌, ℕ}
use Rattle.std.proofs.Common.{ap, ap₂, ◌∙◌}
use Rattle.store.specs.declared.Store.{Store}
use Rattle.book.specs.Book.{Book, Call, Answer, step, answers, after, pool_after, pools}
use Rattle.store.specs.Abs.{book_of}
use Rattle.store.specs.Sound.{Sized, sound?}
use Rattle.runs.specs.Called.{Called, stepped}

-- A RUN over a list of calls: store and pool before, calls, answers, store and pool after. "each call gets the store, and the pool if it takes one, as the
-- last one left them, and nobody else writes them"
pub data Ran : Store → List ℕ → List Call → List Answer → Store → List ℕ → Type 0 where
  finished : {s : Store} {x : List ℕ} → Ran s x [] [] s x
  called : {s t u : Store} {x y z : List ℕ} {c : Call} {a : Answer} {cs : List Call} {ans : List Answer}
      → Called s x c a t y → Ran t y cs ans u z → Ran s x (c ∷ cs) (a ∷ ans) u z

-- what the run gave and left is the book's
pub record AsBook (s : Store) (x : List ℕ) (cs : List Call) (ans : List Answer) (u : Store) (z : List ℕ) : Type 0 where
  pub answered : ans ≡ answers (book_of s x) cs
  pub left : book_of u z ≡ after (book_of s x) cs
  pub pool : z ≡ pools (book_of s x) cs x
  pub sound : sound? u ≡ true
  pub sized : Sized u

-- the pool after a list of calls goes on from the first call's
pools_first : (s : Store) (x : List ℕ) (c : Call) (cs : List Call) (b : Book) (y : List ℕ) → b ≡ (step (book_of s x) c).book
    → y ≡ pool_after 4096 (step (book_of s x) c).book.cells x → pools b cs y ≡ pools (book_of s x) (c ∷ cs) x
unfolding pools book_of
pools_first s x c cs b y e p = ap₂ (λ d v. pools d cs v) e p

-- FROM ANY SOUND STORE, with any pool
pub list_law : (s : Store) (x : List ℕ) (cs : List Call) (ans : List Answer) (u : Store) (z : List ℕ)
    → Ran s x cs ans u z → sound? s ≡ true → Sized s → AsBook s x cs ans u z
unfolding answers after pools
list_law s x cs ans u z finished h Z = record { answered = refl; left = refl; pool = refl; sound = h; sized = Z }
list_law s x cs ans u z (called {t = t} {y = y} {c = c} {a = a} {cs = ds} {ans = bs} k r) h Z =
    let S = stepped k h Z in
    let R = list_law t y ds bs u z r S.sound S.sized in
    let e : record { answer = a; book = book_of t y } ≡ step (book_of s x) c = S.book in
    record {
      answered = ap₂ (λ b l. b ∷ l) (ap (λ v. v.answer) e) (R.answered ∙ ap (λ v. answers v.book ds) e);
      left = R.left ∙ ap (λ v. after v.book ds) e;
      pool = R.pool ∙ pools_first s x c ds (book_of t y) y (ap (λ v. v.book) e) S.pool;
      sound = R.sound;
      sized = R.sized;
    }
