-- WHAT ONE LINE HAS DONE, and that it is the book's answer to it.
use Rattle.std.specs.Prelude.{◌≡◌, refl, true, false, List, [], ◌∷◌, ℕ, Option, None, Some}
use Rattle.std.proofs.Math.Path.{ap, sym}
use Rattle.std.proofs.Common.{subst, ◌∙◌, arith}
use Rattle.store.specs.declared.Store.{Store}
use Rattle.hexadecimal.specs.Hex.{digits_of}
use Rattle.book.specs.Book.{Call, Answer, Done, pool_after}
use Rattle.store.specs.Abs.{book_of}
use Rattle.store.specs.Sound.{sound?}
use Rattle.store.specs.Pool.{pool_same}
use Rattle.calls.specs.Calls.{said}
use Rattle.replies.specs.Line.{parse, spoken, malformed, printed, line_answer}
use Rattle.replies.specs.Replies.{Spoke, Ignored, Replied}

-- The line on store s with the pool x: the digits d printed, the store t handed back and the pool y left.
pub record LineDid (line : List ℕ) (s : Store) (x : List ℕ) (d : List ℕ) (t : Store) (y : List ℕ) : Type 0 where
  pub bytes : List ℕ
  pub replied : Replied (parse line) s x bytes t y
  pub digits : d ≡ digits_of bytes

pub line_did : (line : List ℕ) (s t : Store) (x y b d : List ℕ) → Replied (parse line) s x b t y → d ≡ digits_of b → LineDid line s x d t y
line_did line s t x y b d R e = record { bytes = b; replied = R; digits = e }

one_alone : (a : Answer) → spoken (said 1 a) ≡ 1 ∷ []
unfolding spoken
one_alone a = refl

-- ---- it is the book's

module _ (line : List ℕ) (s : Store) (x d : List ℕ) (t : Store) (y : List ℕ) (L : LineDid line s x d t y) where
  -- of a sound store the line printed and the book left are the book's
  pub line_book : sound? s ≡ true → record { digits = d; book = book_of t y } ≡ line_answer (book_of s x) line
  unfolding line_answer
  line_book h = go (parse line) L.replied
    where
      go : (o : Option Call) → Replied o s x L.bytes t y → record { digits = d; book = book_of t y } ≡ printed (book_of s x) o
      go None R = λ i. record { digits = (L.digits ∙ ap digits_of R.bytes) i; book = book_of (R.store i) (R.pool i) }
      go (Some c) R =
          ap (λ v. record { digits = v; book = book_of t y }) (L.digits ∙ ap digits_of R.bytes)
          ∙ ap (λ (v : Done). record { digits = digits_of (spoken v.answer); book = v.book }) (R.did.book h)

  -- and so is the pool
  pub line_pool : sound? s ≡ true → y ≡ pool_after 4096 (line_answer (book_of s x) line).book.cells x
  unfolding line_answer book_of
  line_pool h = go (parse line) L.replied
    where
      go : (o : Option Call) → Replied o s x L.bytes t y → y ≡ pool_after 4096 (printed (book_of s x) o).book.cells x
      go None R = R.pool ∙ sym (pool_same 4096 s.frames s.places x)
      go (Some c) R = R.did.pool h

  pub line_sound : sound? s ≡ true → sound? t ≡ true
  line_sound h = go (parse line) L.replied
    where
      go : (o : Option Call) → Replied o s x L.bytes t y → sound? t ≡ true
      go None R = ap sound? R.store ∙ h
      go (Some c) R = R.did.sound h

  -- any other store is refusal 1, and nothing changes
  pub line_spoiled : sound? s ≡ false → (c : Call) → parse line ≡ Some c → (d ≡ digits_of (1 ∷ [])) × (t ≡ s) × (y ≡ x)
  line_spoiled h c e = go (subst (λ o. Replied o s x L.bytes t y) e L.replied)
    where
      go : Spoke c s x L.bytes t y → (d ≡ digits_of (1 ∷ [])) × (t ≡ s) × (y ≡ x)
      go R =
          let k : R.number ≡ 1 = R.did.spoiled h in
          let m = R.did.same (omega arith) in
          (L.digits ∙ ap digits_of (R.bytes ∙ ap (λ n. spoken (said n R.answer)) k ∙ one_alone R.answer), m.0, m.1)

  -- a line that asks for no call prints `FF`, and nothing changes, whatever the store
  pub line_ignored : parse line ≡ None → (d ≡ digits_of malformed) × (t ≡ s) × (y ≡ x)
  line_ignored e =
      let R : Ignored s x L.bytes t y = subst (λ o. Replied o s x L.bytes t y) e L.replied in
      (L.digits ∙ ap digits_of R.bytes, R.store, R.pool)
