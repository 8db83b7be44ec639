-- The page shown is the book's answer.
use Rattle.std.specs.Prelude.{◌≡◌, true, false, List, [], length, replicate, Option, Some, None, Result, Ok, Err, IfOk, IfSome, is_some}
use Rattle.std.specs.Result.{result_ok}
use Rattle.std.proofs.Math.Path.{refl, ap}
use Rattle.std.proofs.Common.{sym, subst, ◌∙◌, true≢false, arith}
use Prim.Native.Nat.{ℕ, zero, suc, ◌+◌, ◌*◌, ◌≤◌, ◌<◌}
use Rattle.std.proofs.lemmas.List.{length-replicate}
use Rattle.store.specs.declared.Store.{Store}
use Rattle.look.specs.declared.Located.{Located}
use Rattle.ranges.specs.Range.{line}
use Rattle.book.specs.Book.{bytes, show, step, judged, perform, lowest, table, frame_of, shown}
use Rattle.laws.specs.Accepted.{show_rows}
use Rattle.store.specs.Abs.{book_of}
use Rattle.store.specs.Sound.{Sound, Sized, sound?}
use Rattle.store.specs.Iff.{sound_says}
use Rattle.store.specs.Good.{sound_table}
use Rattle.look.specs.Look.{located}
use Rattle.look.specs.Found.{frame_is, page_is, page_located, frame_located, located_below}
use Rattle.charts.specs.declared.Charts.{Charts}
use Rattle.refusals.specs.declared.Refusal.{Refusal}
use Rattle.refusals.specs.Number.{number, number_of, number_positive}
use Rattle.refusals.specs.Enter.{Entered, Tried, tried_refuses}
use Rattle.refusals.specs.Refuse.{refusal}
use Rattle.calls.specs.Calls.{sound_lowest, unsound_one, zero_sound}
use Rattle.pool.specs.Bytes as pool
use Rattle.pool.specs.Frames.{shown_absent, shown_frame}
use Rattle.view.specs.View.{unrefused, frame_shown, part_of, begin_of, Inside}

pub refused_none : (s : Store) (x : List ℕ) (o p k : ℕ) → 0 < k → k ≡ refusal s x (show o p) → None ≡ frame_shown s x o p
unfolding frame_shown
refused_none s x o p zero l r = absurd (omega arith)
refused_none s x o p (suc k) l r = rw (← r)

-- what a result says of its value, its value says where the refusal is left out
some_value : {T E : Type 0} (P : T → Type 0) (r : Result T E) → IfOk r P → IfSome (result_ok r) P
some_value P (Ok y) i = i
some_value P (Err k) i = tt

pub value_is : {T E : Type 0} (P : T → Type 0) (r : Result T E) {y : T} → IfOk r P → result_ok r ≡ Some y → P y
value_is P r i e = subst (λ o. IfSome o P) e (some_value P r i)

-- the tests of the code, each a result whose refusal is left out
module _ (s : Store) (o p : ℕ) where
  -- at the entry
  pub not_entered : {T : Type 0} (r : Result T Refusal) {c : T → Charts} → Tried s r c → result_ok r ≡ None → (x : List ℕ) → None ≡ frame_shown s x o p
  not_entered (Ok y) t e x = absurd (true≢false (ap is_some e))
  not_entered (Err k) t e x = refused_none s x o p (number k) (number_positive k) (tried_refuses t x (show o p))

  -- and of the row of the table, which the code tells by the pool's length n
  pub not_shown : {T : Type 0} (n : ℕ) (r : Result T Refusal) → ((x : List ℕ) → length x ≡ n → number_of r ≡ refusal s x (show o p)) → result_ok r ≡ None
      → (x : List ℕ) → length x ≡ n → None ≡ frame_shown s x o p
  not_shown n (Ok y) f e x l = absurd (true≢false (ap is_some e))
  not_shown n (Err k) f e x l = refused_none s x o p (number k) (number_positive k) (f x l)

  pub not_refused : {T : Type 0} (n : ℕ) (r : Result T Refusal) {y : T} → ((x : List ℕ) → length x ≡ n → number_of r ≡ refusal s x (show o p)) → result_ok r ≡ Some y
      → (x : List ℕ) → length x ≡ n → 0 ≡ refusal s x (show o p)
  not_refused n (Ok y) f e x l = f x l
  not_refused n (Err k) f e x l = absurd (true≢false (sym (ap is_some e)))

-- what the tests tell that let a call through: t, the store that is entered, is s, and nothing refuses the call
pub record Shows (s t : Store) (o p n : ℕ) : Type 0 where
  pub same : t ≡ s
  pub passed : (x : List ℕ) → length x ≡ n → 0 ≡ refusal s x (show o p)

pub shows : {T U : Type 0} (store : T → Store) (s : Store) (o p n : ℕ) (r : Result T Refusal) (k : Result U Refusal) {y : T} {z : U} → IfOk r (λ q. store q ≡ s) → result_ok r ≡ Some y
    → ((x : List ℕ) → length x ≡ n → number_of k ≡ refusal (store y) x (show o p)) → result_ok k ≡ Some z → Shows s (store y) o p n
shows store s o p n r k i e f g =
    let same = value_is (λ q. store q ≡ s) r i e in
    record { same = same; passed = not_refused s o p n k (rw same at f) g }

-- what a call that is not refused knows
pub record Accepts (s : Store) (n o p : ℕ) : Type 0 where
  pub sound : Sound s
  pub pool : n ≡ s.frames * 4096
  pub name : o < 32
  pub page : p < 262144

pub accepts : (s : Store) (x : List ℕ) (o p : ℕ) → 0 ≡ refusal s x (show o p) → Accepts s (length x) o p
unfolding book_of
accepts s x o p r =
    let h = zero_sound (show o p) s x r in
    let R = show_rows (book_of s x) o p (sound_lowest (show o p) s x 0 r h) in
    record { sound = sound_says s h; pool = R.0; name = R.1.small; page = R.2 }

-- for some pool of this length, so for the code that only has the length
pub accepts_length : (s : Store) (n o p : ℕ) → ((x : List ℕ) → length x ≡ n → 0 ≡ refusal s x (show o p)) → Accepts s n o p
accepts_length s n o p r =
    let l = length-replicate {A = ℕ} n 0 in
    rw l at (accepts s (replicate n 0) o p (r (replicate n 0) l))

module _ (s : Store) (Z : Sized s) (o p : ℕ) where
  room : Sound s → s.frames ≤ length s.places
  room S = omega (arith, S.few_frames, Z.places)

  pub frame_shown_lem : (x : List ℕ) → 0 ≡ refusal s x (show o p) → frame_is (located s (line o p)) ≡ frame_shown s x o p
  unfolding frame_shown
  frame_shown_lem x r =
      let A = accepts s x o p r in
      rw (← r) (sym (frame_located s (sound_table s Z A.sound) (room A.sound) o p x))

  pub frame_inside : (n : ℕ) → Accepts s n o p → (l : Located) → located s (line o p) ≡ Some l → l.frame * 4096 + 4096 ≤ n
  frame_inside n A l h =
      let b = located_below s (sound_table s Z A.sound) (room A.sound) o p l h in
      omega (arith, A.pool)

  same_part : (x : List ℕ) (l : Option Located) → part_of x (frame_is l) ≡ shown (page_is x l)
  same_part x None = refl
  same_part x (Some l) = refl

  -- THE PART IS THE BOOK'S ANSWER, of a call that is refused too
  pub show_book : (x : List ℕ) → sound? s ≡ true → bytes (part_of x (frame_shown s x o p)) ≡ (step (book_of s x) (show o p)).answer
  unfolding step frame_shown
  show_book x h = go (refusal s x (show o p)) refl
    where
      go : (k : ℕ) → k ≡ refusal s x (show o p)
          → bytes (part_of x (unrefused (refusal s x (show o p)) (frame_of (book_of s x) o p))) ≡ (judged (lowest (table (book_of s x) (show o p))) (book_of s x) (show o p)).answer
      go zero r =
          let S = sound_says s h in
          rw (← r, sound_lowest (show o p) s x 0 r h, frame_located s (sound_table s Z S) (room S) o p x)
          (unfold perform in ap bytes (same_part x (located s (line o p)) ∙ ap shown (sym (page_located s (sound_table s Z S) (room S) o p x))))
      go (suc k) r = rw (← r, sound_lowest (show o p) s x (suc k) r h)

  pub show_spoiled : (x : List ℕ) → sound? s ≡ false → part_of x (frame_shown s x o p) ≡ []
  show_spoiled x h =
      let k = unsound_one (show o p) s x (refusal s x (show o p)) refl h in
      ap (part_of x) (sym (refused_none s x o p (refusal s x (show o p)) (omega arith) refl))

-- showing changes nothing
pub show_same : (s : Store) (x : List ℕ) (o p : ℕ) → book_of s x ≡ (step (book_of s x) (show o p)).book
unfolding step
show_same s x o p = go (lowest (table (book_of s x) (show o p)))
  where
    go : (k : ℕ) → book_of s x ≡ (judged k (book_of s x) (show o p)).book
    go zero = unfold perform in refl
    go (suc k) = refl

-- ---- the part that the pool shows of a frame that lies in it
pub part_shown : (x : List ℕ) (f : Option ℕ) → Inside (length x) f → pool.shown 4096 x f ≡ part_of x f
part_shown x None i = sym (shown_absent 4096 x).0
part_shown x (Some f) i = sym (shown_frame 4096 x f i).0

pub begin_shown : (x : List ℕ) (f : Option ℕ) → Inside (length x) f → pool.shown_from 4096 x f ≡ begin_of f
begin_shown x None i = sym (shown_absent 4096 x).1
begin_shown x (Some f) i = sym (shown_frame 4096 x f i).1
