-- The parts of a copy, as changes of files: bytes read and written, whole pages shared; for any page size.
use Rattle.std.specs.Prelude.{◌≡◌, refl, List, ℕ, ◌+◌, ◌-◌, ◌*◌, ◌/◌, ◌%◌, ◌≤◌, ◌<◌, length, get_or, Option, Some, None}
use Rattle.std.proofs.Common.{ap, sym, ◌∙◌, arith, add-mul, div-add-mod', mod-lt}
use Rattle.lists.specs.Test.{pick}
use Rattle.ranges.specs.Range.{Slot, line, slot_at}
use Rattle.book.specs.Page.{touched}
use Rattle.book.specs.Work.{Work, page_of, seen}
use Rattle.book.specs.Bytes.{byte_at, reading, writing}
use Rattle.book.specs.Pages.{sharing}
use Rattle.book.specs.Copy.{copy_bytes, shadowing}
use Rattle.book.specs.Need.{wanted}
use Rattle.book.specs.File.{is_none}
use Rattle.laws.specs.State.{Good}
use Rattle.laws.specs.Kept.{Kept, here, sharing_kept}
use Rattle.laws.specs.Rewrites.{Rewrites, page_from, rewrites_as, rewrites_cast, pages_rewrite, byte_from, at_place}
use Rattle.laws.specs.SharedPages.{from_source, sharing_in, sharing_out}
use Rattle.laws.specs.Reading.{reading_length, reading_byte, page_div}
use Rattle.laws.specs.Spans.{pages_in, object_in}
use Rattle.laws.specs.Writing.{writing_rewrites}

-- n bytes of object s from x, read in state w and written to object o at y in state u: the span becomes them
pub bytes_copied : (s x o y n : ℕ) (w u : Work) → Good w → 4096 ≤ w.size → Kept w u → y + n ≤ 1073741824
    → wanted (touched w.size y n) o (y / w.size) u ≤ length u.spare → Rewrites o y (y + n) (λ z. byte_at s (x + (z - y)) w) u (copy_bytes s x o y n w u)
bytes_copied s x o y n w u G hs L h enough =
    rewrites_as o y (y + n) (λ z. get_or d (z - y) 0) _ u (writing o y d u)
    (λ z l m. reading_byte w (omega arith) G.fits s x n (z - y) (omega arith))
    (rewrites_cast o y y (y + length d) (y + n) (λ z. get_or d (z - y) 0) u (writing o y d u) refl (omega (arith, long))
    (writing_rewrites o y d u L.good (rw L.size hs) (omega (arith, long)) (omega (arith, count, enough))))
  where
    d : List ℕ
    d = reading s x n w

    long : length d ≡ n
    long = reading_length w (omega arith) G.fits s x n

    count : wanted (touched u.size y (length d)) o (y / u.size) u ≡ wanted (touched w.size y n) o (y / w.size) u
    count = ap (λ m. wanted (touched m y (length d)) o (y / m) u) L.size ∙ ap (λ m. wanted (touched w.size y m) o (y / w.size) u) long

-- byte z of object o where byte c of object s is shared to it: that byte, or what it was if no range covers the page of c
abbrev pub shared_byte : Work → ℕ → ℕ → ℕ → ℕ → ℕ
shared_byte w s c o z = pick (is_none (slot_at (line s (c / w.size)) w.ranges)) (byte_at o z w) (byte_at s c w)

-- n whole pages of object s from page p shared with object o at page q
module _ (s p o q n : ℕ) (w : Work) (W : Good w) (hs : 4096 ≤ w.size) (other : s ≡ o → ⊥) (ps : p + n ≤ 262144) (qs : q + n ≤ 262144) where
  abbrev g : ℕ → Option (List ℕ)
  g j = from_source (slot_at (line s (p + j)) w.ranges) (page_of (line s (p + j)) w) (page_of (line o (q + j)) w)

  same_byte : (z : ℕ) → q * w.size ≤ z → get_or (seen w.size (g (z / w.size - q))) (z % w.size) 0 ≡ shared_byte w s (p * w.size + (z - q * w.size)) o z
  same_byte z l =
      rw page (go (slot_at (line s (p + j)) w.ranges))
    where
      pos : 0 < w.size
      pos = omega arith

      j : ℕ
      j = z / w.size - q

      r : ℕ
      r = z % w.size

      c : ℕ
      c = p * w.size + (z - q * w.size)

      at : c ≡ (p + j) * w.size + r
      at =
          let e : z / w.size ≡ q + j = omega (arith, page_from w.size q z pos l) in
          omega (arith, ap (λ m. m * w.size) e, add-mul q j w.size, add-mul p j w.size, div-add-mod' z w.size)

      page : c / w.size ≡ p + j
      page = ap (λ m. m / w.size) at ∙ page_div w.size (p + j) r (mod-lt z pos)

      go : (t : Option Slot) → get_or (seen w.size (from_source t (page_of (line s (p + j)) w) (page_of (line o (q + j)) w))) r 0 ≡ pick (is_none t) (byte_at o z w) (byte_at s c w)
      go None = sym (byte_from o q z w.size w refl pos l)
      go (Some t) = sym (ap (λ m. byte_at s m w) at ∙ at_place s (p + j) r w.size w refl (mod-lt z pos))

  pages_copied : Rewrites o (q * w.size) ((q + n) * w.size) (λ z. shared_byte w s (p * w.size + (z - q * w.size)) o z) w (sharing s p o q n w)
  pages_copied =
      rewrites_as o (q * w.size) ((q + n) * w.size) _ _ w (sharing s p o q n w) (λ z l m. same_byte z l)
      (pages_rewrite o q n g w (sharing s p o q n w) hs (sharing_kept s p o q n w w qs (here w W hs)).size qs
      (sharing_in s p o q n w W.whole other ps qs) (sharing_out s p o q n w W.whole other ps qs))

  -- from byte x, the first of page p, to byte y, the first of page q
  pub sharing_copied : (x y : ℕ) → p * w.size ≡ x → q * w.size ≡ y → Rewrites o y (y + n * w.size) (λ z. shared_byte w s (x + (z - y)) o z) w (sharing s p o q n w)
  sharing_copied x y e f =
      rewrites_as o y (y + n * w.size) _ _ w (sharing s p o q n w) (λ z l m. ap (λ c. shared_byte w s c o z) (omega arith))
      (rewrites_cast o (q * w.size) y ((q + n) * w.size) (y + n * w.size) _ w (sharing s p o q n w) f (omega (arith, add-mul q n w.size)) pages_copied)

-- A SHADOW COPY: whole pages of object s from byte x shared with object o at the page of byte y, wherever in it y lies
pub shadowing_copied : (s x o y n : ℕ) (w : Work) → Good w → 4096 ≤ w.size → (s ≡ o → ⊥) → x + n ≤ 1073741824 → y + n ≤ 1073741824 → x % w.size ≡ 0 → n % w.size ≡ 0
    → Rewrites o (y / w.size * w.size) (y / w.size * w.size + n) (λ z. shared_byte w s (x + (z - y / w.size * w.size)) o z) w (shadowing s x o y n w)
unfolding shadowing
shadowing_copied s x o y n w W hs other hx hy ex en =
    let q : ℕ = y / w.size * w.size in
    rewrites_cast o q q (q + n / w.size * w.size) (q + n) _ w (sharing s (x / w.size) o (y / w.size) (n / w.size) w) refl (omega (arith, div-add-mod' n w.size))
    (sharing_copied s (x / w.size) o (y / w.size) (n / w.size) w W hs other (pages_in w.size x n (omega arith) 262144 (object_in w.size x n hs hx)) (pages_in w.size y n (omega arith) 262144 (object_in w.size y n hs hy))
    x q (omega (arith, div-add-mod' x w.size)) refl)
