-- WRITING, as a change of files: the span becomes the data, every other byte of every object stays; for any page size.
use Rattle.std.specs.Prelude.{◌≡◌, refl, ◌⊎◌, List, ℕ, zero, suc, ◌+◌, ◌-◌, ◌*◌, ◌/◌, ◌%◌, ◌≤◌, ◌<◌, min, length, get_or, drop, Some}
use Rattle.std.proofs.Common.{ap, sym, ◌∙◌, inl, inr, ⊎_elim, zero-le, le_refl, zero-mul, suc-mul, mod-lt, div-add-mod', add-mul, arith, length-take, length-drop, get_or-take, get_or-drop, eq-eqb}
use Rattle.lists.specs.Test.{by-eq}
use Rattle.ranges.specs.Range.{line}
use Rattle.book.specs.Page.{touched, over}
use Rattle.book.specs.Work.{Work, seen, page_of}
use Rattle.book.specs.Bytes.{byte_at, write_from, writing}
use Rattle.book.specs.Need.{wanted}
use Rattle.laws.specs.Over.{over_before, over_in, over_after}
use Rattle.laws.specs.Write.{write_from_out, write_from_size}
use Rattle.laws.specs.Enough.{chunk, place, place_zero, write_pages}
use Rattle.laws.specs.Reading.{seen_length, touched_enough}
use Rattle.laws.specs.State.{Good}
use Rattle.laws.specs.Spans.{page_bound}
use Rattle.laws.specs.Rewrites.{Rewrites, rewrites_none, rewrites_cast, rewrites_as, rewrites_narrow, byte_from, page_from, pages_rewrite}

-- ---- the pieces of the data

-- where the j-th page's piece begins in the data
unfoldable start : ℕ → ℕ → ℕ → ℕ
start size zero k = 0
start size (suc j) k = (size - k) + start size j 0

start_at : (size j k : ℕ) → k ≤ size → start size j k + k ≡ j * size + place j k
unfolding start
start_at size zero k h = omega (arith, zero-mul size)
start_at size (suc j) k h = omega (arith, start_at size j 0 zero-le, suc-mul j size, place_zero j)

place_small : (j k : ℕ) → place j k ≤ k
place_small zero k = le_refl k
place_small (suc j) k = zero-le

chunk_length : (size j k : ℕ) (d : List ℕ) → length (chunk size j k d) ≡ min (size - place j k) (length d - start size j k)
unfolding chunk start
chunk_length size zero k d = simp length-take (omega arith)
chunk_length size (suc j) k d =
    chunk_length size j 0 (drop (size - k) d)
    ∙ ap (λ z. min (size - z) (length (drop (size - k) d) - start size j 0)) (place_zero j)
    ∙ ap (λ z. min (size - 0) z) (shorter (length d) (size - k) (start size j 0) (length (drop (size - k) d)) (length-drop (size - k) d))
  where
    shorter : (l a b e : ℕ) → e ≡ l - a → e - b ≡ l - (a + b)
    shorter l a b e h = omega arith

chunk_get : (size j k t : ℕ) (d : List ℕ) → t < size - place j k → get_or (chunk size j k d) t 0 ≡ get_or d (start size j k + t) 0
unfolding chunk start
chunk_get size zero k t d h = get_or-take (size - k) d t 0 h ∙ ap (λ z. get_or d z 0) (omega arith)
chunk_get size (suc j) k t d h =
    chunk_get size j 0 t (drop (size - k) d) (omega (arith, place_zero j))
    ∙ get_or-drop (size - k) d (start size j 0 + t) 0
    ∙ ap (λ z. get_or d z 0) (omega arith)

-- the first page, or place 0
first_or_zero : (size j k : ℕ) → (start size j k ≡ 0) ⊎ (place j k ≡ 0)
unfolding start
first_or_zero size zero k = inl refl
first_or_zero size (suc j) k = inr refl

-- arithmetic of one page's piece, over plain numbers: it begins at place P of the page and S of the data, and has length L
module _ (size q r u k P S L n : ℕ) (split : q + r ≡ u) where
  inside : r < size → L ≡ min (size - P) (n - S) → S + k ≡ q + P → (S ≡ 0) ⊎ (P ≡ 0) → k ≤ u → u < k + n → (P ≤ r) × (r - P < L) × (S + (r - P) ≡ u - k)
  inside low c b z l m =
      let a : P ≤ r = ⊎_elim (λ (e : S ≡ 0). omega arith) (λ (e : P ≡ 0). omega arith) z in
      let f : r - P < size - P = omega (arith, a, low) in
      let g : r - P < n - S = omega (arith, a, split, b, l, m) in
      (a, omega (arith, c, f, g), omega (arith, a, split, b, l))

  beyond : L ≡ min (size - P) (n - S) → S + k ≡ q + P → (S ≡ 0) ⊎ (P ≡ 0) → k + n ≤ u → P + L ≤ r
  beyond c b z m =
      let f : L ≤ n - S = omega (arith, c) in
      ⊎_elim (λ (e : S ≡ 0). omega (arith, f, e, split, b, m)) (λ (e : P ≡ 0). omega (arith, f, e, split, b, m)) z

-- ---- i pages from page p on, by their pieces of the data
module _ (i o p k : ℕ) (d : List ℕ) (w : Work) (G : Good w) (hs : 4096 ≤ w.size) (small : k < w.size) (top : p + i ≤ 262144)
    (enough : wanted i o p w ≤ length w.spare) where
  abbrev v : Work
  v = write_from w.size i o p k d w

  -- the j-th page: its piece over what it had
  abbrev piece : ℕ → List ℕ
  piece j = over (place j k) (chunk w.size j k d) (seen w.size (page_of (line o (p + j)) w))

  pieces : Rewrites o (p * w.size) ((p + i) * w.size) (λ y. get_or (piece (y / w.size - p)) (y % w.size) 0) w v
  pieces =
      pages_rewrite o p i (λ j. Some (piece j)) w v hs (write_from_size w.size i o p k d w G.whole G.tight top) top
      (write_pages w.size i o p k d w G.whole G.tight top enough) (write_from_out w.size i o p k d w G.whole G.tight top)

  module _ (y : ℕ) (h : p * w.size ≤ y) where
    abbrev j : ℕ
    j = y / w.size - p

    abbrev r : ℕ
    r = y % w.size

    abbrev old : List ℕ
    old = seen w.size (page_of (line o (p + j)) w)

    abbrev new : List ℕ
    new = chunk w.size j k d

    pos : 0 < w.size
    pos = omega arith

    was : byte_at o y w ≡ get_or old r 0
    was = byte_from o p y w.size w refl pos h

    split : j * w.size + r ≡ y - p * w.size
    split =
        let e : y / w.size ≡ p + j = omega (arith, page_from w.size p y pos h) in
        omega (arith, ap (λ z. z * w.size) e, add-mul p j w.size, div-add-mod' y w.size)

    low : r < w.size
    low = mod-lt y pos

    begins : start w.size j k + k ≡ j * w.size + place j k
    begins = start_at w.size j k (omega arith)

    covers : length new ≡ min (w.size - place j k) (length d - start w.size j k)
    covers = chunk_length w.size j k d

    fits : place j k + length new ≤ length old
    fits = omega (arith, covers, seen_length (line o (p + j)) w G.fits, place_small j k)

    before : y < p * w.size + k → get_or (piece j) r 0 ≡ byte_at o y w
    before l = over_before (place j k) new old fits r (omega (arith, begins, split)) ∙ sym was

    inner : p * w.size + k ≤ y → y < p * w.size + k + length d → get_or (piece j) r 0 ≡ get_or d (y - (p * w.size + k)) 0
    inner l m =
        let q = inside w.size (j * w.size) r (y - p * w.size) k (place j k) (start w.size j k) (length new) (length d) split low covers begins (first_or_zero w.size j k) (omega arith) (omega arith) in
        let e : r ≡ place j k + (r - place j k) = omega (arith, q.0) in
        ap (λ z. get_or (piece j) z 0) e
        ∙ over_in (place j k) new old fits (r - place j k) q.1
        ∙ chunk_get w.size j k (r - place j k) d (omega (arith, low, q.0))
        ∙ ap (λ z. get_or d z 0) (q.2 ∙ omega arith)

    behind : p * w.size + k + length d ≤ y → get_or (piece j) r 0 ≡ byte_at o y w
    behind l =
        let q : place j k + length new ≤ r = beyond w.size (j * w.size) r (y - p * w.size) k (place j k) (start w.size j k) (length new) (length d) split covers begins (first_or_zero w.size j k) (omega arith) in
        let e : r ≡ place j k + length new + (r - (place j k + length new)) = omega arith in
        ap (λ z. get_or (piece j) z 0) e ∙ over_after (place j k) new old fits (r - (place j k + length new)) ∙ ap (λ z. get_or old z 0) (sym e) ∙ sym was

  -- the data, and nothing else
  from_rewrites : k + length d ≤ i * w.size → Rewrites o (p * w.size + k) (p * w.size + k + length d) (λ y. get_or d (y - (p * w.size + k)) 0) w v
  from_rewrites long =
      let a : ℕ = p * w.size + k in
      rewrites_as o a (a + length d) _ _ w v (λ y l m. inner y (omega arith) l m)
      (rewrites_narrow o (p * w.size) a (a + length d) ((p + i) * w.size) (λ y. get_or (piece (y / w.size - p)) (y % w.size) 0) w v (omega arith) (omega (arith, add-mul p i w.size))
      (λ y l m c. ⊎_elim (λ (g : y < p * w.size + k). before y l g) (λ (g : p * w.size + k + length d ≤ y). behind y l g) c)
      pieces)

-- no data: nothing happens
write_nothing : (o x : ℕ) (d : List ℕ) (w : Work) → length d ≡ 0 → writing o x d w ≡ w
unfolding writing write_from
write_nothing o x d w e = rw (eq-eqb (length d) 0 e)

-- THE WRITE, with the frames that 01 counts at entry: the span becomes the data, every other byte of every object stays
pub writing_rewrites : (o x : ℕ) (d : List ℕ) (w : Work) → Good w → 4096 ≤ w.size → x + length d ≤ 1073741824
    → wanted (touched w.size x (length d)) o (x / w.size) w ≤ length w.spare → Rewrites o x (x + length d) (λ y. get_or d (y - x) 0) w (writing o x d w)
unfolding writing
writing_rewrites o x d w G hs top enough =
    by-eq (length d) 0
    (λ e. rewrites_none o x (x + length d) _ w _ (omega arith) (write_nothing o x d w e))
    (λ e. rewrites_cast o (p * w.size + k) x (p * w.size + k + length d) (x + length d) _ w _ back (omega (arith, back))
    (rewrites_as o (p * w.size + k) (p * w.size + k + length d) _ _ w _ (λ y l m. ap (λ z. get_or d (y - z) 0) back)
    (from_rewrites (touched w.size x (length d)) o p k d w G hs (mod-lt x pos) (page_bound w.size x (length d) hs top) enough
    (touched_enough w.size x (length d) pos (omega arith)))))
  where
    p : ℕ
    p = x / w.size

    k : ℕ
    k = x % w.size

    back : p * w.size + k ≡ x
    back = div-add-mod' x w.size

    pos : 0 < w.size
    pos = omega arith
