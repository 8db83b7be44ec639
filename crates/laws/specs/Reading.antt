-- READING: a read gives the bytes of the object's file, for any page size.
use Rattle.std.specs.Prelude.{◌≡◌, refl, drop, Option, Some, None}
use Rattle.std.proofs.Math.Path.{ap, sym}
use Rattle.std.proofs.Common.{◌∙◌, mod-eq_of_lt, length-take, length-drop, ne_eqb, eq-eqb}
use mathlib.Core.List.{List, ◌++◌}
use Prim.Native.Nat.{ℕ, zero, suc, ◌+◌, ◌-◌, ◌*◌, ◌/◌, ◌%◌, ◌≤◌, ◌<◌, min, zero-le}
use Rattle.std.proofs.Math.Nat.{zero-mul, suc-mul, mod-lt, div-eq_of_lt, add-mul-div_right, add-mul-mod_self_right, div-add-mod'}
use native.Mathlib.Omega.{arith}
use Rattle.std.proofs.Math.ListN.{length, get_or, take, length-append, get_or-append}
use Rattle.std.proofs.lemmas.List.{length-replicate}
use Rattle.std.proofs.Math.Seq.{get_or-take, get_or-drop, get_or-append-add}
use Rattle.lists.specs.Test.{by-lt, by-eq}
use Rattle.ranges.specs.Range.{Slot, line, slot_at}
use Rattle.book.specs.Cell.{bytes_at}
use Rattle.book.specs.Page.{touched}
use Rattle.book.specs.Work.{Work, seen, slot_bytes, page_of}
use Rattle.book.specs.Bytes.{byte_at, read_from, reading}
use Rattle.laws.specs.State.{Fits, fits_slot}

pub seen_length : (g : ℕ) (w : Work) → Fits w → length (seen w.size (page_of g w)) ≡ w.size
unfolding page_of
seen_length g w Z = go (slot_at g w.ranges)
  where
    inner : (s : Slot) (y : Option (List ℕ)) → bytes_at s w.cells ≡ y → length (seen w.size y) ≡ w.size
    inner s None e = length-replicate w.size 0
    inner s (Some x) e = fits_slot w Z s x e

    go : (t : Option Slot) → length (seen w.size (slot_bytes w.cells t)) ≡ w.size
    go None = length-replicate w.size 0
    go (Some s) = inner s (bytes_at s w.cells) refl

-- place r of page p
module _ (size p r : ℕ) (small : r < size) where
  turn : p * size + r ≡ r + p * size
  turn = omega arith

  pub page_div : (p * size + r) / size ≡ p
  page_div = ap (λ z. z / size) turn ∙ add-mul-div_right r p (omega arith) ∙ rw (div-eq_of_lt small) (omega arith)

  pub page_mod : (p * size + r) % size ≡ r
  page_mod = ap (λ z. z % size) turn ∙ add-mul-mod_self_right r p size ∙ mod-eq_of_lt small

pub byte_in : (o p r : ℕ) (w : Work) → r < w.size → byte_at o (p * w.size + r) w ≡ get_or (seen w.size (page_of (line o p) w)) r 0
unfolding byte_at
byte_in o p r w h = rw (page_div w.size p r h, page_mod w.size p r h)

-- the pages touched are enough
pub touched_enough : (size x n : ℕ) → 0 < size → 0 < n → x % size + n ≤ touched size x n * size
touched_enough size x n pos h =
    let a : ℕ = x % size + n + (size - 1) in
    rw (ne_eqb n 0 (λ e. omega arith)) (omega (arith, div-add-mod' (x % size + n + (size - 1)) size, mod-lt (x % size + n + (size - 1)) pos))

module _ (w : Work) (pos : 0 < w.size) (Z : Fits w) (o : ℕ) where
  first_length : (p k n : ℕ) → length (take n (drop k (seen w.size (page_of (line o p) w)))) ≡ min n (w.size - k)
  first_length p k n = simp (length-take, length-drop, seen_length (line o p) w Z)

  read_length : (i p k n : ℕ) → k ≤ w.size → k + n ≤ i * w.size → length (read_from w.size i o p k n w) ≡ n
  unfolding read_from
  read_length zero p k n hk h = omega (arith, zero-mul w.size)
  read_length (suc i) p k n hk h =
      let ih = read_length i (suc p) 0 (n - (w.size - k)) zero-le (omega (arith, suc-mul i w.size)) in
      simp length-append (omega (arith, first_length p k n, ih))

  read_byte : (i p k n j : ℕ) → k ≤ w.size → k + n ≤ i * w.size → j < n → get_or (read_from w.size i o p k n w) j 0 ≡ byte_at o (p * w.size + (k + j)) w
  unfolding read_from
  read_byte zero p k n j hk h l = absurd (omega (arith, zero-mul w.size))
  read_byte (suc i) p k n j hk h l =
      let S : List ℕ = seen w.size (page_of (line o p) w) in
      let F : List ℕ = take n (drop k S) in
      let R : List ℕ = read_from w.size i o (suc p) 0 (n - (w.size - k)) w in
      let f : length F ≡ min n (w.size - k) = first_length p k n in
      by-lt j (w.size - k)
      (λ u. get_or-append F R 0 j (omega arith) ∙ get_or-take n (drop k S) j 0 l ∙ get_or-drop k S j 0 ∙ sym (byte_in o p (k + j) w (omega arith)))
      (λ u. let t : ℕ = j - (w.size - k) in
      let e : j ≡ length F + t = omega arith in
      ap (λ z. get_or (F ++ R) z 0) e ∙ get_or-append-add F R t 0
      ∙ read_byte i (suc p) 0 (n - (w.size - k)) t zero-le (omega (arith, suc-mul i w.size)) (omega arith)
      ∙ ap (λ z. byte_at o z w) (omega (arith, suc-mul p w.size)))

  -- THE READ: as many bytes as asked for, and they are the file's
  pub reading_length : (x n : ℕ) → length (reading o x n w) ≡ n
  unfolding reading
  reading_length x n =
      by-eq n 0
      (λ e. unfold read_from in rw (eq-eqb n 0 e) (sym e))
      (λ e. read_length (touched w.size x n) (x / w.size) (x % w.size) n (omega (arith, mod-lt x pos)) (touched_enough w.size x n pos (omega arith)))

  pub reading_byte : (x n j : ℕ) → j < n → get_or (reading o x n w) j 0 ≡ byte_at o (x + j) w
  unfolding reading
  reading_byte x n j l =
      read_byte (touched w.size x n) (x / w.size) (x % w.size) n j (omega (arith, mod-lt x pos)) (touched_enough w.size x n pos (omega arith)) l
      ∙ ap (λ z. byte_at o z w) (omega (arith, div-add-mod' x w.size))
