-- WHAT IS READ OF A SOURCE: a part of it, and that it is the same in two states in which the source's pages read alike.
use Rattle.std.specs.Prelude.{◌≡◌, List, ℕ, ◌+◌, ◌/◌, ◌≤◌, ◌<◌, length, take, drop}
use Rattle.std.proofs.Math.Path.{refl}
use Rattle.std.proofs.Common.{ap, sym, ◌∙◌, arith, length-drop, ext_get_or, get_or-drop, get_or-take, length-take-le}
use Rattle.store.specs.declared.Store.{Store}
use Rattle.ranges.specs.Range.{line}
use Rattle.book.specs.Work.{Work, page_of}
use Rattle.book.specs.Bytes.{byte_at, reading}
use Rattle.laws.specs.State.{Fits}
use Rattle.laws.specs.PageLaw.{Other}
use Rattle.laws.specs.Reading.{reading_length, reading_byte}
use Rattle.laws.specs.Rewrites.{same_page}
use Rattle.store.specs.Spare.{work_of}
use Rattle.pages.specs.Inside.{Inside}

-- from w to v, the pages of every other object than o read as they did
abbrev pub Elsewhere : ℕ → Work → Work → Type 0
Elsewhere o w v = (g : ℕ) → Other o g → page_of g v ≡ page_of g w

-- ---- the book's read

module _ (w : Work) (pos : 0 < w.size) (Z : Fits w) (o x n : ℕ) where
  -- m of its bytes, from the k-th on, are what is read from there
  reading_part : (k m : ℕ) → k + m ≤ n → take m (drop k (reading o x n w)) ≡ reading o (x + k) m w
  reading_part k m h =
      let d : List ℕ = reading o x n w in
      let l : length (take m (drop k d)) ≡ m = length-take-le m (drop k d) (omega (arith, length-drop k d, reading_length w pos Z o x n)) in
      ext_get_or 0 (take m (drop k d)) (reading o (x + k) m w) (l ∙ sym (reading_length w pos Z o (x + k) m))
      (λ j q. let u : x + (k + j) ≡ x + k + j = omega arith in
      get_or-take m (drop k d) j 0 (omega arith) ∙ get_or-drop k d j 0 ∙ reading_byte w pos Z o x n (k + j) (omega arith)
      ∙ ap (λ z. byte_at o z w) u ∙ sym (reading_byte w pos Z o (x + k) m j (omega arith)))

  -- another state in which its pages read alike
  reading_same : (v : Work) → v.size ≡ w.size → Fits v → ((y : ℕ) → y < x + n → page_of (line o (y / w.size)) v ≡ page_of (line o (y / w.size)) w)
      → reading o x n v ≡ reading o x n w
  reading_same v e F h =
      let l : length (reading o x n v) ≡ n = reading_length v (omega arith) F o x n in
      ext_get_or 0 (reading o x n v) (reading o x n w) (l ∙ sym (reading_length w pos Z o x n))
      (λ j q. reading_byte v (omega arith) F o x n j (omega arith)
      ∙ same_page o (x + j) w v e (h (x + j) (omega arith))
      ∙ sym (reading_byte w pos Z o x n j (omega arith)))

-- ---- of a store and a pool inside a call

module _ (s : Store) (x : List ℕ) (I : Inside s x) (o y n : ℕ) where
  -- as many bytes as asked for
  pub source_length : length (reading o y n (work_of s x)) ≡ n
  unfolding work_of
  source_length = reading_length (work_of s x) (omega arith) I.good.fits o y n

  -- A PART OF THE SOURCE
  pub source_part : (k m : ℕ) → k + m ≤ n → take m (drop k (reading o y n (work_of s x))) ≡ reading o (y + k) m (work_of s x)
  unfolding work_of
  source_part k m h = reading_part (work_of s x) (omega arith) I.good.fits o y n k m h

  -- THE SOURCE IN ANOTHER STORE, in which its pages read alike
  pub source_same : (t : Store) (z : List ℕ) → Inside t z → y + n ≤ 1073741824
      → ((q : ℕ) → q < 262144 → page_of (line o q) (work_of t z) ≡ page_of (line o q) (work_of s x)) → reading o y n (work_of t z) ≡ reading o y n (work_of s x)
  unfolding work_of
  source_same t z J ends h =
      reading_same (work_of s x) (omega arith) I.good.fits o y n (work_of t z) refl J.good.fits (λ i l. h (i / 4096) (omega arith))
