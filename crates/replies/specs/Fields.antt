-- A LINE'S FIELDS, read one after another, and that they are the table's.
use Rattle.std.specs.Prelude.{◌≡◌, refl, List, [], ◌∷◌, ℕ, suc, leb, eqb, length, drop, Option, Some, None}
use Rattle.std.proofs.Common.{arith}
use borrow.Author.Tests.{ne_eqb, le-leb}
use Rattle.lists.specs.Test.{pick, by-test}
use Rattle.refusals.specs.declared.Passage.{Passage}
use Rattle.book.specs.Book.{Call, new_object, drop_object, write, read, add, look_up, copy, shadow, zero_out, counts}
use Rattle.replies.specs.Line.{byte_at, four_at, rows, chosen, call_of}

-- what is read from the bytes of a line: a value, and the bytes behind it; none where there are too few
abbrev pub Field : Type 0 → Type 0
Field A = Option (A × List ℕ)

-- it is read, and the bytes y are left
abbrev pub Reads : {A : Type 0} → Field A → Option A → List ℕ → Type 0
Reads f None y = f ≡ None
Reads f (Some a) y = f ≡ Some (a, y)

-- one field, and then what comes behind it
abbrev pub next : {A B : Type 0} → Field A → (A → List ℕ → Field B) → Field B
next None f = None
next (Some r) f = f r.0 r.1

-- "Names take one byte", and a "one-byte length" too
abbrev pub byte_in : List ℕ → Field ℕ
byte_in [] = None
byte_in (a ∷ x) = Some (a, x)

-- "offsets, pages and lengths four"
abbrev pub number_in : List ℕ → Field ℕ
number_in (a ∷ b ∷ c ∷ d ∷ x) = Some (four_at 0 (a ∷ b ∷ c ∷ d ∷ x), x)
number_in x = None

-- "(source, offset, destination, offset, length)"
abbrev pub passage_in : List ℕ → Field Passage
passage_in x =
    next (byte_in x) (λ s x₁.
    next (number_in x₁) (λ f x₂.
    next (byte_in x₂) (λ o x₃.
    next (number_in x₃) (λ t x₄.
    next (number_in x₄) (λ n x₅. Some (record { source = s; from = f; object = o; to = t; n = n }, x₅))))))

-- of the code k, its call, and the bytes behind its fields
abbrev pub call_in : ℕ → List ℕ → Field Call
call_in k x =
    pick (eqb k 1) (next (byte_in x) (λ o x₁. Some (new_object o, x₁)))
    (pick (eqb k 2) (next (byte_in x) (λ o x₁. Some (drop_object o, x₁)))
    (pick (eqb k 3) (next (byte_in x) (λ o x₁. next (number_in x₁) (λ n x₂. Some (write o n x₂, []))))
    (pick (eqb k 4) (next (byte_in x) (λ o x₁. next (number_in x₁) (λ n x₂. next (byte_in x₂) (λ m x₃. Some (read o n m, x₃)))))
    (pick (eqb k 5) (next (byte_in x) (λ o x₁. next (number_in x₁) (λ p x₂. Some (add o p, x₂))))
    (pick (eqb k 6) (next (byte_in x) (λ o x₁. next (number_in x₁) (λ p x₂. Some (look_up o p, x₂))))
    (pick (eqb k 7) (next (passage_in x) (λ s x₁. Some (copy s.source s.from s.object s.to s.n, x₁)))
    (pick (eqb k 8) (next (passage_in x) (λ s x₁. Some (shadow s.source s.from s.object s.to s.n, x₁)))
    (pick (eqb k 9) (next (byte_in x) (λ o x₁. next (number_in x₁) (λ n x₂. next (number_in x₂) (λ m x₃. Some (zero_out o n m, x₃)))))
    (pick (eqb k 10) (Some (counts, x)) None)))))))))

-- ---- and they are the table's

-- the call, if its fields are all that there is
abbrev pub whole : Field Call → Option Call
whole None = None
whole (Some r) = pick (eqb (length r.1) 0) (Some r.0) None

long : (c d : Call) (n m k : ℕ) → (n ≡ 0 → ⊥) → (m ≡ k → ⊥) → pick (eqb n 0) (Some c) None ≡ pick (eqb m k) (Some d) None
long c d n m k h l = rw (ne_eqb n 0 h, ne_eqb m k l)

-- of the bytes x behind a code k
module _ (k : ℕ) where
  name_row : (f : ℕ → Call) (x : List ℕ) → whole (next (byte_in x) (λ o x₁. Some (f o, x₁))) ≡ pick (eqb (length (k ∷ x)) 2) (Some (f (byte_at 1 (k ∷ x)))) None
  name_row f [] = refl
  name_row f (a ∷ []) = refl
  name_row f (a ∷ p ∷ x) = long _ _ (suc (length x)) (length (k ∷ a ∷ p ∷ x)) 2 (omega arith) (omega arith)

  number_row : (f : ℕ → ℕ → Call) (x : List ℕ) → whole (next (byte_in x) (λ o x₁. next (number_in x₁) (λ p x₂. Some (f o p, x₂)))) ≡ pick (eqb (length (k ∷ x)) 6) (Some (f (byte_at 1 (k ∷ x)) (four_at 2 (k ∷ x)))) None
  number_row f [] = refl
  number_row f (a ∷ []) = refl
  number_row f (a ∷ b ∷ []) = refl
  number_row f (a ∷ b ∷ c ∷ []) = refl
  number_row f (a ∷ b ∷ c ∷ d ∷ []) = refl
  number_row f (a ∷ b ∷ c ∷ d ∷ e ∷ []) = refl
  number_row f (a ∷ b ∷ c ∷ d ∷ e ∷ p ∷ x) = long _ _ (suc (length x)) (length (k ∷ a ∷ b ∷ c ∷ d ∷ e ∷ p ∷ x)) 6 (omega arith) (omega arith)

  read_row : (x : List ℕ) → whole (next (byte_in x) (λ o x₁. next (number_in x₁) (λ n x₂. next (byte_in x₂) (λ m x₃. Some (read o n m, x₃))))) ≡ pick (eqb (length (k ∷ x)) 7) (Some (read (byte_at 1 (k ∷ x)) (four_at 2 (k ∷ x)) (byte_at 6 (k ∷ x)))) None
  read_row [] = refl
  read_row (a ∷ []) = refl
  read_row (a ∷ b ∷ []) = refl
  read_row (a ∷ b ∷ c ∷ []) = refl
  read_row (a ∷ b ∷ c ∷ d ∷ []) = refl
  read_row (a ∷ b ∷ c ∷ d ∷ e ∷ []) = refl
  read_row (a ∷ b ∷ c ∷ d ∷ e ∷ f ∷ []) = refl
  read_row (a ∷ b ∷ c ∷ d ∷ e ∷ f ∷ p ∷ x) = long _ _ (suc (length x)) (length (k ∷ a ∷ b ∷ c ∷ d ∷ e ∷ f ∷ p ∷ x)) 7 (omega arith) (omega arith)

  passage_row : (f : Passage → Call) (x : List ℕ) → whole (next (passage_in x) (λ s x₁. Some (f s, x₁))) ≡ pick (eqb (length (k ∷ x)) 15) (Some (f (record { source = byte_at 1 (k ∷ x); from = four_at 2 (k ∷ x); object = byte_at 6 (k ∷ x); to = four_at 7 (k ∷ x); n = four_at 11 (k ∷ x) }))) None
  passage_row f [] = refl
  passage_row f (a ∷ []) = refl
  passage_row f (a ∷ b ∷ []) = refl
  passage_row f (a ∷ b ∷ c ∷ []) = refl
  passage_row f (a ∷ b ∷ c ∷ d ∷ []) = refl
  passage_row f (a ∷ b ∷ c ∷ d ∷ e ∷ []) = refl
  passage_row f (a ∷ b ∷ c ∷ d ∷ e ∷ g ∷ []) = refl
  passage_row f (a ∷ b ∷ c ∷ d ∷ e ∷ g ∷ h ∷ []) = refl
  passage_row f (a ∷ b ∷ c ∷ d ∷ e ∷ g ∷ h ∷ i ∷ []) = refl
  passage_row f (a ∷ b ∷ c ∷ d ∷ e ∷ g ∷ h ∷ i ∷ j ∷ []) = refl
  passage_row f (a ∷ b ∷ c ∷ d ∷ e ∷ g ∷ h ∷ i ∷ j ∷ l ∷ []) = refl
  passage_row f (a ∷ b ∷ c ∷ d ∷ e ∷ g ∷ h ∷ i ∷ j ∷ l ∷ m ∷ []) = refl
  passage_row f (a ∷ b ∷ c ∷ d ∷ e ∷ g ∷ h ∷ i ∷ j ∷ l ∷ m ∷ n ∷ []) = refl
  passage_row f (a ∷ b ∷ c ∷ d ∷ e ∷ g ∷ h ∷ i ∷ j ∷ l ∷ m ∷ n ∷ o ∷ []) = refl
  passage_row f (a ∷ b ∷ c ∷ d ∷ e ∷ g ∷ h ∷ i ∷ j ∷ l ∷ m ∷ n ∷ o ∷ q ∷ []) = refl
  passage_row f (a ∷ b ∷ c ∷ d ∷ e ∷ g ∷ h ∷ i ∷ j ∷ l ∷ m ∷ n ∷ o ∷ q ∷ p ∷ x) = long _ _ (suc (length x)) (length (k ∷ a ∷ b ∷ c ∷ d ∷ e ∷ g ∷ h ∷ i ∷ j ∷ l ∷ m ∷ n ∷ o ∷ q ∷ p ∷ x)) 15 (omega arith) (omega arith)

  zero_row : (x : List ℕ) → whole (next (byte_in x) (λ o x₁. next (number_in x₁) (λ n x₂. next (number_in x₂) (λ m x₃. Some (zero_out o n m, x₃))))) ≡ pick (eqb (length (k ∷ x)) 10) (Some (zero_out (byte_at 1 (k ∷ x)) (four_at 2 (k ∷ x)) (four_at 6 (k ∷ x)))) None
  zero_row [] = refl
  zero_row (a ∷ []) = refl
  zero_row (a ∷ b ∷ []) = refl
  zero_row (a ∷ b ∷ c ∷ []) = refl
  zero_row (a ∷ b ∷ c ∷ d ∷ []) = refl
  zero_row (a ∷ b ∷ c ∷ d ∷ e ∷ []) = refl
  zero_row (a ∷ b ∷ c ∷ d ∷ e ∷ f ∷ []) = refl
  zero_row (a ∷ b ∷ c ∷ d ∷ e ∷ f ∷ g ∷ []) = refl
  zero_row (a ∷ b ∷ c ∷ d ∷ e ∷ f ∷ g ∷ h ∷ []) = refl
  zero_row (a ∷ b ∷ c ∷ d ∷ e ∷ f ∷ g ∷ h ∷ i ∷ []) = refl
  zero_row (a ∷ b ∷ c ∷ d ∷ e ∷ f ∷ g ∷ h ∷ i ∷ p ∷ x) = long _ _ (suc (length x)) (length (k ∷ a ∷ b ∷ c ∷ d ∷ e ∷ f ∷ g ∷ h ∷ i ∷ p ∷ x)) 10 (omega arith) (omega arith)

  counts_row : (x : List ℕ) → whole (Some (counts, x)) ≡ pick (eqb (length (k ∷ x)) 1) (Some (counts)) None
  counts_row [] = refl
  counts_row (p ∷ x) = long _ _ (suc (length x)) (length (k ∷ p ∷ x)) 1 (omega arith) (omega arith)

  write_row : (x : List ℕ) → whole (next (byte_in x) (λ o x₁. next (number_in x₁) (λ n x₂. Some (write o n x₂, []))))
      ≡ pick (leb 6 (length (k ∷ x))) (Some (write (byte_at 1 (k ∷ x)) (four_at 2 (k ∷ x)) (drop 6 (k ∷ x)))) None
  write_row [] = refl
  write_row (a ∷ []) = refl
  write_row (a ∷ b ∷ []) = refl
  write_row (a ∷ b ∷ c ∷ []) = refl
  write_row (a ∷ b ∷ c ∷ d ∷ []) = refl
  write_row (a ∷ b ∷ c ∷ d ∷ e ∷ x) = rw (le-leb 6 (length (k ∷ a ∷ b ∷ c ∷ d ∷ e ∷ x)) (omega arith))

  -- THE FIELDS ARE THE TABLE'S
  pub fields_call : (x : List ℕ) → whole (call_in k x) ≡ call_of (k ∷ x)
  unfolding rows chosen
  fields_call x = rw (ne_eqb (suc (length x)) 0 (omega arith))
      (by-test (eqb k 1) (λ t. rw t (name_row new_object x)) (λ f₁.
      by-test (eqb k 2) (λ t. rw (f₁, t) (name_row drop_object x)) (λ f₂.
      by-test (eqb k 3) (λ t. rw (f₁, f₂, t) (write_row x)) (λ f₃.
      by-test (eqb k 4) (λ t. rw (f₁, f₂, f₃, t) (read_row x)) (λ f₄.
      by-test (eqb k 5) (λ t. rw (f₁, f₂, f₃, f₄, t) (number_row add x)) (λ f₅.
      by-test (eqb k 6) (λ t. rw (f₁, f₂, f₃, f₄, f₅, t) (number_row look_up x)) (λ f₆.
      by-test (eqb k 7) (λ t. rw (f₁, f₂, f₃, f₄, f₅, f₆, t) (passage_row (λ s. copy s.source s.from s.object s.to s.n) x)) (λ f₇.
      by-test (eqb k 8) (λ t. rw (f₁, f₂, f₃, f₄, f₅, f₆, f₇, t) (passage_row (λ s. shadow s.source s.from s.object s.to s.n) x)) (λ f₈.
      by-test (eqb k 9) (λ t. rw (f₁, f₂, f₃, f₄, f₅, f₆, f₇, f₈, t) (zero_row x)) (λ f₉.
      by-test (eqb k 10) (λ t. rw (f₁, f₂, f₃, f₄, f₅, f₆, f₇, f₈, f₉, t) (counts_row x)) (λ f.
      rw (f₁, f₂, f₃, f₄, f₅, f₆, f₇, f₈, f₉, f))))))))))))
