-- "Cases (a) to (l) are proved as one table."
use Rattle.std.specs.Prelude.{◌≡◌, refl, true, false, List, [], ◌∷◌, ◌++◌, ℕ, ◌+◌, ◌-◌, ◌*◌, take, drop, replicate, None}
use Rattle.ranges.specs.Range.{Range, slot_at, carve}
use Rattle.book.specs.Cell.{Cell, free, holds}
use Rattle.book.specs.Book.{Book, add, read, copy, zero_out, refused, done, bytes, answers, after}
use Rattle.book.specs.Compute.{computing}

-- pages s up to e (exclusive) of object 0 with this offset, in backing 1
abbrev pub pages : ℕ → ℕ → ℕ → Range
pages s e f = record { object = 0; start = s; len = e - s; offset = f; backing = 1 }

-- two frames' book with objects 0 and 1 live, these ranges and these cells
abbrev pub holding : List Range → List Cell → Book
holding rs cs = record { size = 4096; frames = 2; pool = 8192; live = true ∷ true ∷ replicate 30 false; ranges = rs; cells = cs }

-- object 0's page p is present, with these bytes
abbrev pub present : ℕ → List ℕ → Book
present p x = holding (pages p (p + 1) 0 ∷ []) (free ∷ holds 1 0 x ∷ [])

abbrev pub none_present : List Range → Book
none_present rs = holding rs (free ∷ free ∷ [])

pub record Cases : Type 0 where
  -- `split_range` of pages 10 up to 20, offset 0, cut by ..
  pub a : carve 12 15 (pages 10 20 0 ∷ []) ≡ pages 10 12 0 ∷ pages 15 20 5 ∷ []
  pub b : carve 10 20 (pages 10 20 0 ∷ []) ≡ []
  pub c : carve 5 12 (pages 10 20 0 ∷ []) ≡ pages 12 20 2 ∷ []
  pub d : carve 19 30 (pages 10 20 0 ∷ []) ≡ pages 10 19 0 ∷ []
  -- Page 20 is outside that range
  pub e : slot_at 20 (pages 10 20 0 ∷ []) ≡ None
  -- Unshared range 0–5: adding page 20 makes it 0–21; adding page 21 starts a new range
  pub f : (after (none_present (pages 0 5 0 ∷ [])) (add 0 20 ∷ [])).ranges ≡ pages 0 21 0 ∷ []
  pub g : (after (none_present (pages 0 5 0 ∷ [])) (add 0 21 ∷ [])).ranges
      ≡ pages 0 5 0 ∷ record { object = 0; start = 21; len = 1; offset = 0; backing = 2 } ∷ []
  -- Zeroing 50 bytes from 100 of a present page 0 clears those 50 alone
  pub h : (x : List ℕ) → after (present 0 x) (zero_out 0 100 50 ∷ []) ≡ present 0 (take 100 x ++ replicate 50 0 ++ drop 150 x)
  -- Copying length 0 at 100 changes nothing
  pub i : (x : List ℕ) → after (present 0 x) (copy 0 100 1 100 0 ∷ []) ≡ present 0 x
  -- Zeroing pages 3 and 4 of 0–10 leaves 0–3 and 5–10
  pub j : (after (none_present (pages 0 10 0 ∷ [])) (zero_out 0 (3 * 4096) (2 * 4096) ∷ [])).ranges ≡ pages 0 3 0 ∷ pages 5 10 5 ∷ []
  -- Copy 4,096 bytes from offset 4,000 to 0, source page 0 absent, page 1 all sevens: 96 zeros, then 4,000 sevens
  pub k : answers (present 1 (replicate 4096 7)) (copy 0 4000 1 0 4096 ∷ read 1 0 4096 ∷ [])
      ≡ done ∷ bytes (replicate 96 0 ++ replicate 4000 7) ∷ []
  -- A read at 1,073,741,824 of length 0 is done; of length 1 is refusal 6
  pub l : (x : List ℕ) → answers (present 0 x) (read 0 1073741824 0 ∷ read 0 1073741824 1 ∷ []) ≡ bytes [] ∷ refused 6 ∷ []

pub cases : Cases
unfolding computing
cases = record {
  a = refl;
  b = refl;
  c = refl;
  d = refl;
  e = refl;
  f = refl;
  g = refl;
  h = λ x. refl;
  i = λ x. refl;
  j = refl;
  k = refl;
  l = λ x. refl;
}
