-- WHERE A BYTE STANDS FIRST in a list.
use Rattle.std.specs.Prelude.{◌≡◌, refl, List, [], ◌∷◌, ℕ, zero, suc, ◌<◌, length, eqb}
use Rattle.std.proofs.Common.{ap, arith}
use Rattle.lists.specs.Test.{pick, by-test}
use Rattle.memchr.specs.Find.{Nowhere, Passes, is_byte}

-- the index of the first b in a list, or the list's length
unfoldable pub index_of : ℕ → List ℕ → ℕ
index_of b [] = 0
index_of b (x ∷ l) = pick (eqb x b) 0 (suc (index_of b l))

-- ---- a search from the front finds that index

pub index_none : (b : ℕ) (l : List ℕ) → Nowhere (Passes (is_byte b) l) 0 (length l) → index_of b l ≡ length l
unfolding index_of
index_none b [] f = refl
index_none b (x ∷ l) f = by-test (eqb x b)
    (λ t. absurd (f 0 (omega arith) (omega arith) t))
    (λ t. rw t (ap suc (index_none b l (λ k h i. f (suc k) (omega arith) (omega arith)))))

pub index_some : (b : ℕ) (l : List ℕ) (k : ℕ) → k < length l → Passes (is_byte b) l k → Nowhere (Passes (is_byte b) l) 0 k → index_of b l ≡ k
unfolding index_of
index_some b [] k h p f = absurd (omega arith)
index_some b (x ∷ l) zero h p f = rw p refl
index_some b (x ∷ l) (suc k) h p f = by-test (eqb x b)
    (λ t. absurd (f 0 (omega arith) (omega arith) t))
    (λ t. rw t (ap suc (index_some b l k (omega arith) p (λ j i g. f (suc j) (omega arith) (omega arith)))))
