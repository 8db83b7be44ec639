-- "NO FRAME" comes exactly when 01's rule says so.
use Rattle.std.specs.Prelude.{◌≡◌, Bool, ◌&&◌, ◌||◌, ℕ, zero, suc, ◌<◌, ltb, eqb, length}
use Rattle.std.proofs.Math.Path.{refl}
use Rattle.std.proofs.Common.{sym, ◌∙◌, not-suc-le-zero, arith}
use Rattle.std.proofs.Math.Bool.{true, false}
use mathlib.Core.List.{[], ◌∷◌, ◌++◌}
use borrow.Author.Tests.{ltb-true, lt-ltb}
use Rattle.lists.specs.Test.{pick, by-test, and_left, and_right}
use Rattle.book.specs.Copy.{equal_places}
use Rattle.book.specs.Book.{Book, Call, new_object, drop_object, add, look_up, show, read, write, copy, shadow, zero_out, counts, refused, Table, lowest, entry, perform, table, step, free_frames, judged, declined, no_pool, no_object, past_end, past_page, not_whole}
use Rattle.book.specs.Needed.{needed}
use Rattle.book.specs.Sound.{Sound}
use Rattle.laws.specs.Cap.{counted_refuses}
use Rattle.laws.specs.FileLaw.{all_frames}
use Rattle.laws.specs.Sound.{good}

-- every row's number is positive and below n
unfoldable pub under : ℕ → Table → Bool
under n [] = true
under n (r ∷ rs) = ltb 0 r.1 && (ltb r.1 n && under n rs)

-- ---- number 8

-- the rows whose number is below n
unfoldable pub below : ℕ → Table → Table
below n [] = []
below n (r ∷ rs) = pick (ltb r.1 n) (r ∷ below n rs) (below n rs)

-- a table without row 8 does not answer 8
pub never_eight : (t : Table) → under 8 t ≡ true → lowest t ≡ 8 → ⊥
unfolding under lowest
never_eight [] u e = omega arith
never_eight (r ∷ rs) u e =
    let v : (ltb r.1 8 && under 8 rs) ≡ true = and_right (ltb 0 r.1) _ u in
    by-test r.0
    (λ t. let z : r.1 ≡ 8 = rw t at e in omega (arith, ltb-true r.1 8 (and_left (ltb r.1 8) _ v)))
    (λ t. never_eight rs (and_right (ltb r.1 8) _ v) (rw t at e))

-- number 8 of a table is given exactly if no row below 8 applies and there are fewer frames than needed
abbrev pub Exactly8 : Table → ℕ → ℕ → Type 0
Exactly8 t have need = (lowest t ≡ 8 → (lowest (below 8 t) ≡ 0) × (have < need)) × ((lowest (below 8 t) ≡ 0) × (have < need) → lowest t ≡ 8)

-- a table without row 8, and no frame needed
pub no_row : (t : Table) (have : ℕ) → under 8 t ≡ true → Exactly8 t have 0
no_row t have u = (λ e. absurd (never_eight t u e), λ q. absurd (not-suc-le-zero q.1))

-- rows below 8, and then rows 8 and 9
module _ (eight nine : Bool) where
  abbrev rest : Table
  rest = (eight, 8) ∷ (nine, 9) ∷ []

  below_first : (t : Table) → under 8 t ≡ true → lowest (below 8 (t ++ rest)) ≡ lowest t
  unfolding under below lowest
  below_first [] u = refl
  below_first (r ∷ rs) u =
      let v : (ltb r.1 8 && under 8 rs) ≡ true = and_right (ltb 0 r.1) _ u in
      rw (and_left (ltb r.1 8) _ v) (by-test r.0 (λ t. rw t) (λ t. rw t (below_first rs (and_right (ltb r.1 8) _ v))))

  first_then : (t : Table) → under 8 t ≡ true → lowest t ≡ 0 → lowest (t ++ rest) ≡ lowest rest
  unfolding under lowest
  first_then [] u e = refl
  first_then (r ∷ rs) u e =
      let v : (ltb r.1 8 && under 8 rs) ≡ true = and_right (ltb 0 r.1) _ u in
      by-test r.0
      (λ t. let z : r.1 ≡ 0 = rw t at e in absurd (omega (arith, ltb-true 0 r.1 (and_left (ltb 0 r.1) _ u))))
      (λ t. rw t (first_then rs (and_right (ltb r.1 8) _ v) (rw t at e)))

  eight_only : (t : Table) → under 8 t ≡ true → lowest (t ++ rest) ≡ 8 → lowest t ≡ 0
  unfolding under lowest
  eight_only [] u e = refl
  eight_only (r ∷ rs) u e =
      let v : (ltb r.1 8 && under 8 rs) ≡ true = and_right (ltb 0 r.1) _ u in
      by-test r.0
      (λ t. let z : r.1 ≡ 8 = rw t at e in absurd (omega (arith, ltb-true r.1 8 (and_left (ltb r.1 8) _ v))))
      (λ t. rw t (eight_only rs (and_right (ltb r.1 8) _ v) (rw t at e)))

  pub eight_row : (t : Table) (have need : ℕ) → under 8 t ≡ true → eight ≡ ltb have need → Exactly8 (t ++ rest) have need
  unfolding lowest
  eight_row t have need u e = (
    λ k. let z : lowest t ≡ 0 = eight_only t u k in
        (below_first t u ∙ z, ltb-true have need (sym e ∙ is_eight eight nine (sym (first_then t u z) ∙ k))),
    λ q. first_then t u (sym (below_first t u) ∙ q.0) ∙ rw (e, lt-ltb have need q.1),
  )
    where
      is_eight : (a c : Bool) → lowest ((a, 8) ∷ (c, 9) ∷ []) ≡ 8 → a ≡ true
      is_eight true c k = refl
      is_eight false true k = absurd (omega arith)
      is_eight false false k = absurd (omega arith)

-- ---- every call

-- "NO FRAME": for every call, number 8 exactly if no row below 8 applies and the free frames are fewer than the call needs
pub no_frame : (b : Book) → Sound b → (c : Call) → Exactly8 (table b c) (length (free_frames b)) (needed b c)
unfolding table needed under entry
no_frame b S (new_object o) = no_row (table b (new_object o)) (length (free_frames b)) refl
no_frame b S (drop_object o) = no_row (table b (drop_object o)) (length (free_frames b)) refl
no_frame b S (add o p) = eight_row _ _ ((no_pool b, 2) ∷ (no_object b o, 3) ∷ (past_page b p, 6) ∷ []) _ _ refl refl
no_frame b S (look_up o p) = no_row (table b (look_up o p)) (length (free_frames b)) refl
no_frame b S (show o p) = no_row (table b (show o p)) (length (free_frames b)) refl
no_frame b S (read o x n) = no_row (table b (read o x n)) (length (free_frames b)) refl
no_frame b S (write o x d) =
    eight_row _ _ ((no_pool b, 2) ∷ (no_object b o, 3) ∷ (past_end x (length d), 6) ∷ []) _ _ refl (counted_refuses o x (length d) (entry b) (good b S).whole (all_frames b))
no_frame b S (copy s x o y n) =
    eight_row _ _ ((no_pool b, 2) ∷ (no_object b s || no_object b o, 3) ∷ (eqb s o, 5) ∷ (past_end x n || past_end y n, 6) ∷ []) _ _ refl
    (by-test (equal_places b.size x y) (λ t. rw t) (λ t. rw t (counted_refuses o y n (entry b) (good b S).whole (all_frames b))))
no_frame b S (shadow s x o y n) =
    eight_row _ _ ((no_pool b, 2) ∷ (no_object b s || no_object b o, 3) ∷ (eqb s o, 5) ∷ (past_end x n || past_end y n, 6) ∷ (not_whole b x || not_whole b n, 7) ∷ []) _ _ refl refl
no_frame b S (zero_out o x n) = eight_row _ _ ((no_pool b, 2) ∷ (no_object b o, 3) ∷ (past_end x n, 6) ∷ []) _ _ refl refl
no_frame b S counts = no_row (table b counts) (length (free_frames b)) refl

-- ---- the same of the answer

-- a call that is not refused does not answer a number of the table
performed : (b : Book) (c : Call) (k : ℕ) → (perform b c).answer ≡ refused k → ⊥
unfolding perform
performed b (new_object o) k e = let z : ◌≡◌ {A = ℕ} 0 1 = cc in omega arith
performed b (drop_object o) k e = let z : ◌≡◌ {A = ℕ} 0 1 = cc in omega arith
performed b (add o p) k e = let z : ◌≡◌ {A = ℕ} 0 1 = cc in omega arith
performed b (look_up o p) k e = let z : ◌≡◌ {A = ℕ} 0 1 = cc in omega arith
performed b (show o p) k e = let z : ◌≡◌ {A = ℕ} 0 1 = cc in omega arith
performed b (read o x n) k e = let z : ◌≡◌ {A = ℕ} 0 1 = cc in omega arith
performed b (write o x d) k e = let z : ◌≡◌ {A = ℕ} 0 1 = cc in omega arith
performed b (copy s x o y n) k e = let z : ◌≡◌ {A = ℕ} 0 1 = cc in omega arith
performed b (shadow s x o y n) k e = let z : ◌≡◌ {A = ℕ} 0 1 = cc in omega arith
performed b (zero_out o x n) k e = let z : ◌≡◌ {A = ℕ} 0 1 = cc in omega arith
performed b counts k e = let z : ◌≡◌ {A = ℕ} 0 1 = cc in omega arith

-- a refused call answers the number; a page to be shown has none
declined_number : (c : Call) (j k : ℕ) → declined c j ≡ refused k → j ≡ k
declined_number (new_object o) j k e = cc
declined_number (drop_object o) j k e = cc
declined_number (add o p) j k e = cc
declined_number (look_up o p) j k e = cc
declined_number (show o p) j k e = absurd (let z : ◌≡◌ {A = ℕ} 0 1 = cc in omega arith)
declined_number (read o x n) j k e = cc
declined_number (write o x d) j k e = cc
declined_number (copy s x o y n) j k e = cc
declined_number (shadow s x o y n) j k e = cc
declined_number (zero_out o x n) j k e = cc
declined_number counts j k e = cc

declined_eight : (b : Book) (c : Call) → lowest (table b c) ≡ 8 → declined c 8 ≡ refused 8
unfolding table
declined_eight b (new_object o) e = refl
declined_eight b (drop_object o) e = refl
declined_eight b (add o p) e = refl
declined_eight b (look_up o p) e = refl
declined_eight b (show o p) e = absurd (never_eight (table b (show o p)) (unfold under in refl) e)
declined_eight b (read o x n) e = refl
declined_eight b (write o x d) e = refl
declined_eight b (copy s x o y n) e = refl
declined_eight b (shadow s x o y n) e = refl
declined_eight b (zero_out o x n) e = refl
declined_eight b counts e = refl

-- "no frame" is answered exactly if no row below 8 applies and the free frames are fewer than the call needs
pub no_frame_answer : (b : Book) → Sound b → (c : Call)
    → ((step b c).answer ≡ refused 8 → (lowest (below 8 (table b c)) ≡ 0) × (length (free_frames b) < needed b c))
    × ((lowest (below 8 (table b c)) ≡ 0) × (length (free_frames b) < needed b c) → (step b c).answer ≡ refused 8)
unfolding step
no_frame_answer b S c = (
  λ e. (no_frame b S c).0 (number (lowest (table b c)) e),
  λ q. let e : lowest (table b c) ≡ 8 = (no_frame b S c).1 q in rw e (declined_eight b c e),
)
  where
    number : (k : ℕ) → (judged k b c).answer ≡ refused 8 → k ≡ 8
    number zero e = absurd (performed b c 8 e)
    number (suc k) e = declined_number c (suc k) 8 e
