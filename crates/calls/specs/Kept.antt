-- A call that does what the book does leaves a sound store.
use Rattle.std.specs.Prelude.{◌≡◌, true, List, [], ℕ, ◌*◌, ◌≤◌, length, replicate}
use Rattle.std.proofs.Common.{subst, arith}
use Rattle.std.proofs.lemmas.List.{length-replicate}
use Rattle.book.specs.Sound as book
use Rattle.store.specs.declared.Store.{Store}
use Rattle.book.specs.Book.{Call, perform}
use Rattle.laws.specs.Accepted.{Accepted, accepted_step}
use Rattle.laws.specs.Bounds.{step_sound}
use Rattle.store.specs.Abs.{book_of}
use Rattle.store.specs.Sound.{Sound, Sized, sound?}
use Rattle.store.specs.Iff.{sound_says, says_sound}
use Rattle.store.specs.Good.{sound_book}
use Rattle.store.specs.Back.{Besides, store_sound}
use Rattle.refusals.specs.Refuse.{refusal}
use Rattle.calls.specs.Calls.{zero_sound, sound_lowest}

-- a call that is not refused with the pool x: the store is sound, and the book accepts the call
module _ (c : Call) (s : Store) (x : List ℕ) (r : 0 ≡ refusal s x c) where
  pub with_sound : Sound s
  with_sound = sound_says s (zero_sound c s x r)

  pub with_accepted : Accepted (book_of s x) c
  with_accepted = sound_lowest c s x 0 r (zero_sound c s x r)

  -- the book that is left is sound
  pub with_left : Sized s → s.frames * 4096 ≤ length x → book.Sound (perform (book_of s x) c).book
  with_left Z l =
      subst (λ d. book.Sound d.book) (accepted_step (book_of s x) c with_accepted) (step_sound (book_of s x) (sound_book s Z with_sound x l) c)

module _ (c : Call) (s : Store) (r : (x : List ℕ) → 0 ≡ refusal s x c) where
  pub was_sound : Sound s
  was_sound = with_sound c s [] (r [])

  pub accepted : (x : List ℕ) → Accepted (book_of s x) c
  accepted x = with_accepted c s x (r x)

  -- with a pool of zeros, as well as with any other
  abbrev pub zeros : List ℕ
  zeros = replicate (s.frames * 4096) 0

  pub left_sound : Sized s → book.Sound (perform (book_of s zeros) c).book
  left_sound Z = with_left c s zeros (r zeros) Z (omega (arith, length-replicate {A = ℕ} (s.frames * 4096) 0))

  pub still_sound : (t : Store) → Sized s → ((x : List ℕ) → (perform (book_of s x) c).book ≡ book_of t x) → Besides t → sound? t ≡ true
  still_sound t Z e K = says_sound t (store_sound t zeros (subst (λ b. book.Sound b) (e zeros) (left_sound Z)) K)
