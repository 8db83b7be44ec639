-- WHAT ONE LINE'S CALL HAS DONE, with the bytes of its answer.
use Rattle.std.specs.Prelude.{◌≡◌, refl, List, [], ◌∷◌, ℕ, zero, suc, ◌<◌, take, Option, None, Some, Result, Ok, Err}
use Rattle.std.proofs.Common.{sym, subst, ◌∙◌, arith}
use Rattle.store.specs.declared.Store.{Store}
use Rattle.refusals.specs.declared.Refusal.{Refusal}
use Rattle.refusals.specs.Number.{number, number_positive}
use Rattle.book.specs.Book.{Call, Answer, done, read}
use Rattle.calls.specs.Calls.{said}
use Rattle.calls.specs.With.{DidWith}
use Rattle.replies.specs.declared.spoken.Spoken.{Spoken}
use Rattle.replies.specs.Line.{spoken, malformed}

-- The call c on store s with the pool x: the bytes d of the answer, the store t handed back and the pool y left.
pub record Spoke (c : Call) (s : Store) (x : List ℕ) (d : List ℕ) (t : Store) (y : List ℕ) : Type 0 where
  pub number : ℕ
  pub answer : Answer
  pub did : DidWith c s x number answer t y
  pub bytes : d ≡ spoken (said number answer)

-- the bytes of an answer
abbrev pub bytes_of : Spoken → List ℕ
bytes_of d = take d.length d.bytes

-- the bytes of a call's answer: "A refusal prints its byte alone."
abbrev pub told : Result Spoken Refusal → List ℕ
told (Ok d) = bytes_of d
told (Err e) = number e ∷ []

-- The same of a call that lends no pool: whatever pool there is stays.
abbrev pub SpokeAlone : Call → Store → List ℕ → Store → Type 0
SpokeAlone c s d t = (x : List ℕ) → Spoke c s x d t x

-- of a line that asks for no call: "prints `FF`", and nothing changes
pub record Ignored (s : Store) (x : List ℕ) (d : List ℕ) (t : Store) (y : List ℕ) : Type 0 where
  pub bytes : d ≡ malformed
  pub store : t ≡ s
  pub pool : y ≡ x

-- what the line's call has done, if it asks for one
abbrev pub Replied : Option Call → Store → List ℕ → List ℕ → Store → List ℕ → Type 0
Replied None s x d t y = Ignored s x d t y
Replied (Some c) s x d t y = Spoke c s x d t y

pub replied_call : (o : Option Call) (c : Call) (s t : Store) (x d y : List ℕ) → o ≡ Some c → Spoke c s x d t y → Replied o s x d t y
replied_call o c s t x d y e S = subst (λ v. Replied v s x d t y) (sym e) S

pub replied_none : (o : Option Call) (s t : Store) (x d y : List ℕ) → o ≡ None → Ignored s x d t y → Replied o s x d t y
replied_none o s t x d y e I = subst (λ v. Replied v s x d t y) (sym e) I

pub same_call : (o v : Option Call) (s t : Store) (x d y : List ℕ) → o ≡ v → Replied v s x d t y → Replied o s x d t y
same_call o v s t x d y e R = subst (λ u. Replied u s x d t y) (sym e) R

pub ignored : (s : Store) (x d : List ℕ) → d ≡ malformed → Ignored s x d s x
ignored s x d e = record { bytes = e; store = refl; pool = refl }

-- ---- a call's number and answer, spoken

number_done : (k : ℕ) → k ∷ [] ≡ spoken (said k done)
unfolding spoken
number_done zero = refl
number_done (suc k) = refl

number_refused : (k : ℕ) (a : Answer) → 0 < k → k ∷ [] ≡ spoken (said k a)
unfolding spoken
number_refused zero a l = absurd (omega arith)
number_refused (suc k) a l = refl

module _ {c : Call} {s t : Store} {x y : List ℕ} where
  -- a call that answers nothing more; u is where its store is kept
  pub spoke_done : {u : Store} {k : ℕ} {d : List ℕ} → DidWith c s x k done t y → d ≡ k ∷ [] → u ≡ t → Spoke c s x d u y
  spoke_done {k = k} {d = d} D e f = subst (λ v. Spoke c s x d v y) (sym f) (record { number = k; answer = done; did = D; bytes = e ∙ number_done k })

  -- "A refusal prints its byte alone."
  pub spoke_refused : {a : Answer} (r : Result Spoken Refusal) (e : Refusal) → r ≡ Err e → DidWith c s x (number e) a t y → Spoke c s x (told r) t y
  spoke_refused {a = a} r e f D = rw f (record { number = number e; answer = a; did = D; bytes = number_refused (number e) a (number_positive e) })

  pub spoke_answered : {a : Answer} {d : List ℕ} → DidWith c s x 0 a t y → d ≡ spoken a → Spoke c s x d t y
  spoke_answered {a = a} D e = record { number = 0; answer = a; did = D; bytes = e }

-- of a read the lent buffer is as long as the line asks
pub read_length : {o a n m : ℕ} {s : Store} {x d : List ℕ} → m ≡ n → Spoke (read o a m) s x d s x → Spoke (read o a n) s x d s x
read_length {o = o} {a = a} {s = s} {x = x} {d = d} e S = subst (λ k. Spoke (read o a k) s x d s x) e S
