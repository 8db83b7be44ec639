-- What a public call that lends a pool promises, for every store and every pool whatever: `DidWith`.
use Rattle.std.specs.Prelude.{◌≡◌, refl, true, false, List, ℕ, zero, suc, ◌<◌, Err}
use Rattle.std.proofs.Common.{ap, sym, ◌∙◌, true≢false, arith}
use Rattle.store.specs.declared.Store.{Store}
use Rattle.charts.specs.declared.Charts.{Charts}
use Rattle.book.specs.Book.{Call, Answer, Done, refused, step, perform, declined, pool_after}
use Rattle.store.specs.Abs.{cells_of, book_of}
use Rattle.store.specs.Sound.{sound?, Sized}
use Rattle.store.specs.Pool.{pool_same}
use Rattle.refusals.specs.declared.Refusal.{Refusal}
use Rattle.refusals.specs.Number.{number, number_positive}
use Rattle.refusals.specs.Refuse.{refusal}
use Rattle.refusals.specs.Enter.{Tried, tried_refuses}
use Rattle.calls.specs.Calls.{said, Did, unsound_one, sound_lowest, zero_sound}

-- The call c on store s with the pool x, with the number k, the answer a where it is done, the store t handed back and the pool y left.
pub record DidWith (c : Call) (s : Store) (x : List ℕ) (k : ℕ) (a : Answer) (t : Store) (y : List ℕ) : Type 0 where
  -- 1: "the store isn't sound"
  pub spoiled : sound? s ≡ false → k ≡ 1
  -- else it is the book's step
  pub book : sound? s ≡ true → record { answer = said k a; book = book_of t y } ≡ step (book_of s x) c
  -- "Pool bytes that a call neither writes nor hands out stay"; "released frames .. keep their bytes"
  pub pool : sound? s ≡ true → y ≡ pool_after 4096 (step (book_of s x) c).book.cells x
  -- and the store handed back is sound
  pub sound : sound? s ≡ true → sound? t ≡ true
  -- with tables as long as they were
  pub sized : Sized s → Sized t
  -- "A refusal hands back the same store", and leaves the pool
  pub same : 0 < k → (t ≡ s) × (y ≡ x)

-- the pool that the book leaves, where the book is the store's
book_pool : (a : Answer) (t : Store) (x y : List ℕ) (d : Done) → record { answer = a; book = book_of t y } ≡ d → y ≡ pool_after 4096 (cells_of 4096 t.frames t.places y) x
    → y ≡ pool_after 4096 d.book.cells x
unfolding book_of
book_pool a t x y d e p = p ∙ ap (λ (z : Done). pool_after 4096 z.book.cells x) e

-- a call that lends no pool leaves it
pub did_with : (c : Call) (s t : Store) (k : ℕ) (a : Answer) → Did c s k a t → (x : List ℕ) → DidWith c s x k a t x
did_with c s t k a D x = record {
  spoiled = D.spoiled;
  book = λ h. D.book h x;
  pool = λ h. book_pool (said k a) t x x _ (D.book h x) (sym (pool_same 4096 t.frames t.places x));
  sound = D.sound;
  sized = D.sized;
  same = λ l. (D.same l, refl);
}

module _ (c : Call) (s : Store) (x : List ℕ) (a : Answer) where
  -- a call that is refused
  pub with_refused : (k : ℕ) → 0 < k → k ≡ refusal s x c → ((j : ℕ) → declined c j ≡ refused j) → DidWith c s x k a s x
  with_refused zero l r d = absurd (omega arith)
  with_refused (suc k) l r d = record {
    spoiled = unsound_one c s x (suc k) r;
    book = told;
    pool = λ h. book_pool (refused (suc k)) s x x _ (told h) (sym (pool_same 4096 s.frames s.places x));
    sound = λ h. h;
    sized = λ z. z;
    same = λ _. (refl, refl);
  }
    where
      told : sound? s ≡ true → record { answer = refused (suc k); book = book_of s x } ≡ step (book_of s x) c
      told h = unfold step in rw (sound_lowest c s x (suc k) r h) (ap (λ z. record { answer = z; book = book_of s x }) (sym (d (suc k))))

  -- a call that is done, with the answer a
  pub with_done : (t : Store) (y : List ℕ) → 0 ≡ refusal s x c → sound? t ≡ true → (Sized s → Sized t) → perform (book_of s x) c ≡ record { answer = a; book = book_of t y }
      → y ≡ pool_after 4096 (cells_of 4096 t.frames t.places y) x → DidWith c s x 0 a t y
  with_done t y r g z e p = record {
    spoiled = λ h. absurd (true≢false (sym (zero_sound c s x r) ∙ h));
    book = told;
    pool = λ h. book_pool a t x y _ (told h) p;
    sound = λ _. g;
    sized = z;
    same = λ l. absurd (omega arith);
  }
    where
      told : sound? s ≡ true → record { answer = a; book = book_of t y } ≡ step (book_of s x) c
      told h = unfold step in rw (sound_lowest c s x 0 r h) (sym e)

-- what the code's tests say
module _ (c : Call) (s : Store) (x : List ℕ) (a : Answer) (d : (j : ℕ) → declined c j ≡ refused j) where
  -- a call that is turned down for e
  pub with_decline : (e : Refusal) → number e ≡ refusal s x c → DidWith c s x (number e) a s x
  with_decline e r = with_refused c s x a (number e) (number_positive e) r d

  -- or at its entry
  pub with_not_enter : {T : Type 0} (e : Refusal) {charts : T → Charts} → Tried {T = T} s (Err e) charts → DidWith c s x (number e) a s x
  with_not_enter e t = with_decline e (tried_refuses t x c)
