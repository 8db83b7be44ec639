-- A READ, page by page: the part in the first page, then the rest; and the bytes of a page of the store.
use Rattle.std.specs.Prelude.{◌≡◌, refl, List, [], ◌∷◌, ◌++◌, drop, replicate, Option, Some, None}
use Rattle.std.proofs.Math.Path.{ap, sym}
use Rattle.std.proofs.Common.{ap₂, ◌∙◌, append_assoc, append-nil, add-zero, not-suc-le-zero, length-drop, take_all, eq-eqb}
use Prim.Native.Nat.{ℕ, zero, suc, ◌+◌, ◌-◌, ◌*◌, ◌/◌, ◌%◌, ◌≤◌, ◌<◌}
use Rattle.std.proofs.Math.Nat.{sub-zero}
use native.Mathlib.Omega.{arith}
use Rattle.std.proofs.Math.ListN.{length, take}
use Rattle.std.proofs.lemmas.List.{length-replicate}
use Rattle.std.proofs.Math.Seq.{paste}
use Rattle.std.proofs.lemmas.List.Edits.{take-paste}
use Rattle.store.specs.declared.Store.{Store}
use Rattle.look.specs.declared.Located.{Located}
use Rattle.lists.specs.Test.{by-lt}
use Rattle.lists.specs.Paste.{drop_replicate}
use Rattle.lists.specs.Part.{paste_same}
use Rattle.ranges.specs.Range.{line}
use Rattle.book.specs.Page.{touched}
use Rattle.book.specs.Work.{Work, seen, page_of}
use Rattle.book.specs.Bytes.{read_from, reading}
use Rattle.book.specs.Book.{entry}
use Rattle.laws.specs.Turn.{in_page, turn_page, turn_place, turn_touched}
use Rattle.table.specs.Table.{Table}
use Rattle.pool.specs.Bytes.{filled}
use Rattle.pool.specs.Frames.{frame_length, read_frame}
use Rattle.store.specs.Abs.{book_of}
use Rattle.look.specs.Look.{located}
use Rattle.look.specs.Found.{page_is, page_located, located_below}

-- the bytes of page g of the line, with the pool x; "Absent bytes read as zero."
abbrev pub page_bytes : Store → List ℕ → ℕ → List ℕ
page_bytes s x g = seen 4096 (page_is x (located s g))

-- d bytes of n stand in b: they and those that are to come are what is read of object o from offset y
abbrev pub Begun : ℕ → ℕ → ℕ → Work → List ℕ → ℕ → Type 0
Begun o y n w b d = take d b ++ reading o (y + d) (n - d) w ≡ reading o y n w

-- ---- the book's read

-- of no bytes nothing is read
reading_none : (o x n : ℕ) (w : Work) → n ≡ 0 → reading o x n w ≡ []
unfolding reading read_from
reading_none o x n w e = rw (eq-eqb n 0 e)

module _ (o x n : ℕ) (w : Work) (pos : 0 < w.size) where
  abbrev m : ℕ
  m = in_page w.size x n

  abbrev k : ℕ
  k = x % w.size

  abbrev page : List ℕ
  page = seen w.size (page_of (line o (x / w.size)) w)

  -- of the first page no more than its part is read
  first : length page ≡ w.size → take n (drop k page) ≡ take m (drop k page)
  first long =
      let l : length (drop k page) ≡ w.size - k = length-drop k page ∙ ap (λ z. z - k) long in
      by-lt n (w.size - k)
      (λ h. let e : n ≡ m = omega arith in ap (λ z. take z (drop k page)) e)
      (λ h. take_all n (drop k page) (omega arith) ∙ sym (take_all m (drop k page) (omega arith)))

  -- the next page is read from its start, if bytes are left
  rest : read_from w.size (touched w.size (x + m) (n - m)) o (suc (x / w.size)) 0 (n - (w.size - k)) w ≡ reading o (x + m) (n - m) w
  unfolding reading read_from
  rest =
      by-lt m n
      (λ h. let e : n - (w.size - k) ≡ n - m = omega arith in rw (turn_page w.size x n pos h, turn_place w.size x n pos h, e))
      (λ h. rw (eq-eqb (n - m) 0 (omega arith)))

  -- THE TURN: what is read is the part in the first page, then what is read from there on
  pub reading_next : 0 < n → length page ≡ w.size → reading o x n w ≡ take m (drop k page) ++ reading o (x + m) (n - m) w
  unfolding reading read_from
  reading_next h long = rw (turn_touched w.size x n pos h) (ap₂ (λ a b. a ++ b) (first long) rest)

module _ (o y n : ℕ) (w : Work) (b : List ℕ) where
  -- at first no byte stands there
  pub begun_none : Begun o y n w b 0
  begun_none = simp (add-zero, sub-zero)

  -- at the end all do
  pub begun_all : (d : ℕ) → length b ≡ n → d ≡ n → Begun o y n w b d → b ≡ reading o y n w
  begun_all d l e h =
      let r : reading o (y + d) (n - d) w ≡ [] = reading_none o (y + d) (n - d) w (omega arith) in
      sym (ap (λ z. take d b ++ z) r ∙ append-nil (take d b) ∙ take_all d b (omega arith)) ∙ h

-- ---- a page of the store

-- the first of many zeros
take_zeros : (i j : ℕ) → i ≤ j → take {A = ℕ} i (replicate j 0) ≡ replicate i 0
take_zeros zero j h = refl
take_zeros (suc i) zero h = absurd (not-suc-le-zero h)
take_zeros (suc i) (suc j) h = ap (λ z. 0 ∷ z) (take_zeros i j (omega arith))

-- n bytes stored that are those from place k of page g of the line
module _ (s : Store) (x : List ℕ) (g : ℕ) (b c : List ℕ) (at k n : ℕ) (fits : k + n ≤ 4096) where
  -- zeros, where the page is absent
  pub read_absent : located s g ≡ None → c ≡ filled b at n 0 → c ≡ paste b at (drop k (page_bytes s x g)) n
  unfolding filled
  read_absent e f =
      rw e
      (f ∙ paste_same b at (replicate n 0) (drop k (replicate 4096 0)) n
      (take_zeros n n (omega arith) ∙ sym (ap (take n) (drop_replicate k 4096 0) ∙ take_zeros n (4096 - k) (omega arith))))

  -- the pool's from place k of its frame, where it is present
  pub read_present : (l : Located) → located s g ≡ Some l → c ≡ paste b at (drop (l.frame * 4096 + k) x) n → c ≡ paste b at (drop k (page_bytes s x g)) n
  read_present l e f = rw e (f ∙ read_frame 4096 b at x l.frame k n fits)

module _ (s : Store) (T : Table s.ranges s.count) (n : s.frames ≤ length s.places) (x : List ℕ) (pool : length x ≡ s.frames * 4096) where
  -- a present page's frame lies in the pool
  pub frame_inside : (g : ℕ) (l : Located) → located s g ≡ Some l → l.frame * 4096 + 4096 ≤ length x
  frame_inside g l e =
      let q : line (g / 262144) (g % 262144) ≡ g = omega arith in
      omega (arith, located_below s T n (g / 262144) (g % 262144) l (ap (located s) q ∙ e))

  -- every page has 4,096 bytes
  pub page_length : (g : ℕ) → length (page_bytes s x g) ≡ 4096
  page_length g = go (located s g) refl
    where
      go : (p : Option Located) → located s g ≡ p → length (seen 4096 (page_is x p)) ≡ 4096
      go None e = length-replicate {A = ℕ} 4096 0
      go (Some l) e = frame_length 4096 x l.frame (frame_inside g l e)

  -- the turn, on the store
  page_next : (o y i : ℕ) → 0 < i
      → reading o y i (entry (book_of s x))
      ≡ take (in_page 4096 y i) (drop (y % 4096) (page_bytes s x (line o (y / 4096)))) ++ reading o (y + in_page 4096 y i) (i - in_page 4096 y i) (entry (book_of s x))
  unfolding entry book_of
  page_next o y i h =
      let g : ℕ = line o (y / 4096) in
      let e : page_of g (entry (book_of s x)) ≡ page_is x (located s g) = page_located s T n o (y / 4096) x in
      reading_next o y i (entry (book_of s x)) (omega arith) h (ap (λ z. length (seen 4096 z)) e ∙ page_length g)
      ∙ ap (λ z. take (in_page 4096 y i) (drop (y % 4096) (seen 4096 z)) ++ reading o (y + in_page 4096 y i) (i - in_page 4096 y i) (entry (book_of s x))) e

  -- the next page's part, from place k of page g of the line, is stored behind the bytes that stand there
  pub begun_next : (o y i d m k g : ℕ) (b c : List ℕ) → length b ≡ i → d < i → m ≡ in_page 4096 (y + d) (i - d) → k ≡ (y + d) % 4096 → g ≡ line o ((y + d) / 4096)
      → c ≡ paste b d (drop k (page_bytes s x g)) m → Begun o y i (entry (book_of s x)) b d → Begun o y i (entry (book_of s x)) c (d + m)
  begun_next o y i d m k g b c l h em ek eg f t =
      let S : List ℕ = drop k (page_bytes s x g) in
      let R : List ℕ = reading o (y + d + m) (i - d - m) (entry (book_of s x)) in
      let a : take (d + m) c ≡ take d b ++ take m S =
      ap (take (d + m)) f ∙ take-paste b d S m (omega arith) (omega (arith, em, ek, length-drop k (page_bytes s x g), page_length g)) in
      let r : reading o (y + d) (i - d) (entry (book_of s x)) ≡ take m S ++ R = rw (em, ek, eg) (page_next o (y + d) (i - d) (omega arith)) in
      let u : y + (d + m) ≡ y + d + m = omega arith in
      let v : i - (d + m) ≡ i - d - m = omega arith in
      rw (u, v, a) (append_assoc (take d b) (take m S) R) ∙ ap (λ z. take d b ++ z) (sym r) ∙ t
