-- BYTES OF A SOURCE MOVED INTO A FRAME that has none of its pages: the part in its first page, then the rest, which lies in the next page.
use Rattle.std.specs.Prelude.{◌≡◌, refl, List, ◌++◌, ℕ, suc, ◌+◌, ◌-◌, ◌*◌, ◌/◌, ◌%◌, ◌≤◌, ◌<◌, drop, Option, Some, None}
use Rattle.std.proofs.Math.Path.{ap}
use Rattle.std.proofs.Common.{ap₂, sym, ◌∙◌, add-one, arith, length-drop, length-take, drop_at, length-take-le, take_at}
use Rattle.std.proofs.Math.ListN.{length, take}
use Rattle.std.proofs.Math.Seq.{paste}
use Rattle.store.specs.declared.Store.{Store}
use Rattle.look.specs.declared.Located.{Located}
use Rattle.lists.specs.Test.{by-lt}
use Rattle.lists.specs.Part.{paste_same, paste_more}
use Rattle.ranges.specs.Range.{line}
use Rattle.book.specs.Work.{seen, page_of}
use Rattle.book.specs.Bytes.{reading}
use Rattle.book.specs.Book.{entry}
use Rattle.laws.specs.Turn.{in_page, turn_page, turn_place}
use Rattle.table.specs.Table.{Table}
use Rattle.pool.specs.Bytes.{frame_at}
use Rattle.pool.specs.Frames.{paste_other}
use Rattle.store.specs.Abs.{book_of}
use Rattle.store.specs.Spare.{work_of}
use Rattle.look.specs.Look.{located}
use Rattle.look.specs.Found.{page_is, page_located}
use Rattle.reads.specs.Reading.{page_bytes, page_length, reading_next}

-- no page of object o is in frame f
abbrev pub Away : Store → ℕ → ℕ → Type 0
Away s o f = (q : ℕ) → q < 262144 → (l : Located) → located s (line o q) ≡ Some l → l.frame ≡ f → ⊥

module _ (s : Store) (T : Table s.ranges s.count) (r : s.frames ≤ length s.places) (x : List ℕ) (pool : length x ≡ s.frames * 4096) (o : ℕ) where
  -- ---- the first page's part of m bytes from offset y

  module _ (y m : ℕ) where
    abbrev a : ℕ
    a = in_page 4096 y m

    abbrev g : ℕ
    g = line o (y / 4096)

    abbrev page : List ℕ
    page = drop (y % 4096) (page_bytes s x g)

    abbrev d : List ℕ
    d = reading o y m (work_of s x)

    -- all of it lies there
    part_length : length (take a page) ≡ a
    part_length = length-take-le a page (omega (arith, length-drop (y % 4096) (page_bytes s x g), page_length s T r x pool g))

    -- what is read is that part, then what is read from there on
    source_next : 0 < m → d ≡ take a page ++ reading o (y + a) (m - a) (work_of s x)
    unfolding work_of page_of entry book_of
    source_next h =
        let e : page_of g (work_of s x) ≡ page_is x (located s g) = page_located s T r o (y / 4096) x in
        reading_next o y m (work_of s x) (omega arith) h (ap (λ z. length (seen 4096 z)) e ∙ page_length s T r x pool g)
        ∙ ap (λ z. take a (drop (y % 4096) (seen 4096 z)) ++ reading o (y + a) (m - a) (work_of s x)) e

    -- the part itself
    first : take a page ≡ take a d
    first =
        by-lt 0 m
        (λ h. sym (ap (take a) (source_next h) ∙ take_at (take a page) (reading o (y + a) (m - a) (work_of s x)) a part_length))
        (λ h. let e : a ≡ 0 = omega arith in rw e)

    -- what is left
    behind : 0 < m → drop a d ≡ reading o (y + a) (m - a) (work_of s x)
    behind h = ap (drop a) (source_next h) ∙ drop_at (take a page) (reading o (y + a) (m - a) (work_of s x)) a part_length

    -- so many bytes are read
    enough : a ≤ length d
    enough = omega (arith, length-take a d, ap length first, part_length)

  -- ---- bytes stored in a frame that has none of its pages

  module _ (at : ℕ) (A : Away s o (at / 4096)) (d : List ℕ) (n : ℕ) (fits : at % 4096 + n ≤ 4096) (inside : at < length x) (long : n ≤ length d) where
    -- its pages stay as they are
    page_stays : (q : ℕ) → q < 262144 → page_bytes s (paste x at d n) (line o q) ≡ page_bytes s x (line o q)
    page_stays q hq = go (located s (line o q)) refl
      where
        e : at ≡ at / 4096 * 4096 + at % 4096
        e = omega arith

        go : (p : Option Located) → located s (line o q) ≡ p → seen 4096 (page_is (paste x at d n) p) ≡ seen 4096 (page_is x p)
        go None h = refl
        go (Some l) h =
            ap (λ z. frame_at 4096 (paste x z d n) l.frame) e
            ∙ paste_other 4096 x (at / 4096) (at % 4096) d n (omega (arith, pool)) fits long l.frame (A q hq l h)

  -- ---- both parts

  module _ (y m at : ℕ) (A : Away s o (at / 4096)) (ends : y + m ≤ 1073741824) (fits : at % 4096 + m ≤ 4096) (room : at + m ≤ length x) where
    -- the pool with the first part
    abbrev half : List ℕ
    half = paste x at (d y m) (a y m)

    -- the rest, if there is one, is read from the start of the next page
    rest : take (m - a y m) (drop 0 (page_bytes s half (suc (g y m)))) ≡ take (m - a y m) (drop (a y m) (d y m))
    rest = by-lt (a y m) m more (λ h. let e : m - a y m ≡ 0 = omega arith in rw e)
      where
        more : a y m < m → take (m - a y m) (drop 0 (page_bytes s half (suc (g y m)))) ≡ take (m - a y m) (drop (a y m) (d y m))
        more h =
            let i : ℕ = m - a y m in
            let p : (y + a y m) / 4096 ≡ suc (y / 4096) = turn_page 4096 y m (omega arith) h in
            let k : (y + a y m) % 4096 ≡ 0 = turn_place 4096 y m (omega arith) h in
            let l : suc (g y m) ≡ line o (suc (y / 4096)) = omega arith in
            let u : a (y + a y m) i ≡ i = omega arith in
            ap (λ z. take i (drop 0 (page_bytes s half z))) l
            ∙ ap (λ z. take i (drop 0 z)) (page_stays at A (d y m) (a y m) (omega arith) (omega arith) (enough y m) (suc (y / 4096)) (omega arith))
            ∙ ap₂ (λ v w. take i (drop v (page_bytes s x (line o w)))) (sym k) (sym p)
            ∙ rw u at (first (y + a y m) i)
            ∙ ap (take i) (sym (behind y m (omega arith)))

    -- BOTH PARTS STORED: what is read of the source. The first part is n bytes from place k of page h of the line
    pub both_moved : (k n h : ℕ) → k ≡ y % 4096 → n ≡ in_page 4096 y m → h ≡ line o (y / 4096) → (b c : List ℕ) → b ≡ paste x at (drop k (page_bytes s x h)) n
        → c ≡ paste b (at + n) (drop 0 (page_bytes s b (h + 1))) (m - n) → c ≡ paste x at (reading o y m (work_of s x)) m
    both_moved k n h ek en eh b c e f =
        let u : b ≡ half = rw (ek, en, eh) at e ∙ paste_same x at (page y m) (d y m) (a y m) (first y m) in
        let v : a y m + (m - a y m) ≡ m = omega arith in
        rw (en, eh, add-one, u) at f
        ∙ paste_same half (at + a y m) (drop 0 (page_bytes s half (suc (g y m)))) (drop (a y m) (d y m)) (m - a y m) rest
        ∙ paste_more x at (d y m) (a y m) (m - a y m) (omega arith) (enough y m)
        ∙ ap (λ z. paste x at (d y m) z) v
