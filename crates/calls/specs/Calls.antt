-- What a public call promises, for every store whatever: `Did`.
use Rattle.std.specs.Prelude.{◌≡◌, refl, true, false, List, [], ℕ, zero, suc, ◌<◌, Result, Ok, Err}
use Rattle.std.proofs.Common.{ap, ◌∙◌, true≢false, arith}
use Rattle.std.proofs.Math.Path.{sym}
use Rattle.store.specs.declared.Store.{Store}
use Rattle.lists.specs.Test.{by-test}
use Rattle.charts.specs.declared.Charts.{Charts}
use Rattle.look.specs.declared.State.{State}
use Rattle.look.specs.Found.{state_is}
use Rattle.book.specs.Need as need
use Rattle.book.specs.Book.{Call, Answer, refused, numbers, lowest, table, step, perform, declined}
use Rattle.store.specs.Abs.{book_of}
use Rattle.store.specs.Sound.{sound?, Sized}
use Rattle.refusals.specs.declared.Refusal.{Refusal}
use Rattle.refusals.specs.Number.{number, number_positive}
use Rattle.refusals.specs.Refuse.{refusal}
use Rattle.refusals.specs.Enter.{Tried, tried_refuses}
use Rattle.calls.specs.declared.Numbers.{Numbers}

-- an answer's number: 0 is done, and any other a refusal
abbrev pub said : ℕ → Answer → Answer
said zero a = a
said (suc k) a = refused (suc k)

-- the store that a call leaves: "A refusal hands back the same store"
abbrev pub left : Store → Result Store Refusal → Store
left s (Ok t) = t
left s (Err e) = s

-- the state that a call answers
abbrev pub state_in : Result State Refusal → need.State
state_in (Ok t) = state_is t
state_in (Err e) = need.absent

-- the numbers that a call answers
abbrev pub numbers_in : Result Numbers Refusal → Answer
numbers_in (Ok n) = numbers n.frames n.ranges
numbers_in (Err e) = numbers 0 0

-- The call c on store s, with the number k, the answer a where it is done, and the store t handed back.
pub record Did (c : Call) (s : Store) (k : ℕ) (a : Answer) (t : Store) : Type 0 where
  -- 1: "the store isn't sound"
  pub spoiled : sound? s ≡ false → k ≡ 1
  -- else it is the book's step, whatever the pool has
  pub book : sound? s ≡ true → (x : List ℕ) → record { answer = said k a; book = book_of t x } ≡ step (book_of s x) c
  -- and the store handed back is sound
  pub sound : sound? s ≡ true → sound? t ≡ true
  -- with tables as long as they were
  pub sized : Sized s → Sized t
  -- "A refusal hands back the same store"
  pub same : 0 < k → t ≡ s

-- what the refusal's number says of the store and of the table
module _ (c : Call) (s : Store) (x : List ℕ) (k : ℕ) (r : k ≡ refusal s x c) where
  pub unsound_one : sound? s ≡ false → k ≡ 1
  unfolding lowest
  unsound_one h = rw h at r

  pub sound_lowest : sound? s ≡ true → lowest (table (book_of s x) c) ≡ k
  sound_lowest h = unfold lowest in sym (rw h at r)

pub zero_sound : (c : Call) (s : Store) (x : List ℕ) → 0 ≡ refusal s x c → sound? s ≡ true
zero_sound c s x r = by-test (sound? s) (λ t. t) (λ f. absurd (let e : 0 ≡ 1 = unsound_one c s x 0 r f in omega arith))

module _ (c : Call) (s : Store) (a : Answer) where
  pub did_refused : (k : ℕ) → 0 < k → ((x : List ℕ) → k ≡ refusal s x c) → ((j : ℕ) → declined c j ≡ refused j) → Did c s k a s
  did_refused zero l r d = absurd (omega arith)
  did_refused (suc k) l r d = record {
    spoiled = unsound_one c s [] (suc k) (r []);
    book = λ h x. unfold step in rw (sound_lowest c s x (suc k) (r x) h) (ap (λ z. record { answer = z; book = book_of s x }) (sym (d (suc k))));
    sound = λ h. h;
    sized = λ z. z;
    same = λ _. refl;
  }

  pub did_done : (t : Store) → ((x : List ℕ) → 0 ≡ refusal s x c) → sound? t ≡ true → (Sized s → Sized t)
      → ((x : List ℕ) → perform (book_of s x) c ≡ record { answer = a; book = book_of t x }) → Did c s 0 a t
  did_done t r g z p = record {
    spoiled = λ h. absurd (true≢false (sym (zero_sound c s [] (r [])) ∙ h));
    book = λ h x. unfold step in rw (sound_lowest c s x 0 (r x) h) (sym (p x));
    sound = λ _. g;
    sized = z;
    same = λ l. absurd (omega arith);
  }

-- what the code's tests say
module _ (c : Call) (s : Store) (a : Answer) (d : (j : ℕ) → declined c j ≡ refused j) where
  -- a call that is turned down for e
  pub did_decline : (e : Refusal) → ((x : List ℕ) → number e ≡ refusal s x c) → Did c s (number e) a s
  did_decline e r = did_refused c s a (number e) (number_positive e) r d

  -- or at its entry
  pub did_not_enter : {T : Type 0} (e : Refusal) {charts : T → Charts} → Tried {T = T} s (Err e) charts → Did c s (number e) a s
  did_not_enter e t = did_decline e (λ x. tried_refuses t x c)
