-- Bytes put over other bytes.
use Rattle.std.specs.Prelude.{◌≡◌, List, ◌++◌, ℕ, ◌+◌, ◌≤◌, ◌<◌, length, take, drop, get_or}
use Rattle.std.proofs.Common.{ap, sym, ◌∙◌, arith, length-append, length-drop, get_or-take, get_or-drop, get_or-append-add, length-take-le}
use Rattle.std.proofs.Math.ListN.{get_or-append}
use Rattle.book.specs.Page.{over}

module _ (k : ℕ) (d x : List ℕ) (fits : k + length d ≤ length x) where
  head_length : length (take k x) ≡ k
  head_length = length-take-le k x (omega arith)

  both_length : length (take k x ++ d) ≡ k + length d
  both_length = simp (length-append, head_length)

  pub over_length : length (over k d x) ≡ length x
  over_length = simp (length-append, length-drop, head_length) (omega arith)

  pub over_before : (j : ℕ) → j < k → get_or (over k d x) j 0 ≡ get_or x j 0
  over_before j h =
      get_or-append (take k x ++ d) (drop (k + length d) x) 0 j (omega (arith, both_length))
      ∙ get_or-append (take k x) d 0 j (omega (arith, head_length))
      ∙ get_or-take k x j 0 h

  pub over_in : (j : ℕ) → j < length d → get_or (over k d x) (k + j) 0 ≡ get_or d j 0
  over_in j h =
      get_or-append (take k x ++ d) (drop (k + length d) x) 0 (k + j) (omega (arith, both_length))
      ∙ ap (λ n. get_or (take k x ++ d) (n + j) 0) (sym head_length)
      ∙ get_or-append-add (take k x) d j 0

  pub over_after : (j : ℕ) → get_or (over k d x) (k + length d + j) 0 ≡ get_or x (k + length d + j) 0
  over_after j =
      ap (λ n. get_or (over k d x) (n + j) 0) (sym both_length)
      ∙ get_or-append-add (take k x ++ d) (drop (k + length d) x) j 0
      ∙ get_or-drop (k + length d) x j 0
