-- Ranges keep to the pages of live objects and to the indexes that a backing has, through every part of a call.
use Rattle.std.specs.Prelude.{◌≡◌, refl, take, drop, Option, Some, None}
use Rattle.std.proofs.Math.Logic.{⊎_elim}
use mathlib.Core.List.Memᴰ
use mathlib.Core.List.{List, [], ◌∷◌, map, Memᴰ}
use Prim.Native.Nat.{ℕ, zero, suc, ◌+◌, ◌-◌, ◌*◌, ◌/◌, ◌%◌, ◌≤◌, ◌<◌, min, max}
use Rattle.std.proofs.Math.Nat.{mod-lt}
use Rattle.std.proofs.Common.{arith, eq-eqb, ne_eqb, eqb-true}
use Rattle.std.proofs.Math.ListN.{length, length-take}
use Rattle.lists.specs.Test.{by-test, by-eq, by-lt}
use Rattle.ranges.specs.Range.{Range, Slot, line, from, upto, slot_at, put}
use Rattle.ranges.specs.Table.{parts, moved}
use Rattle.ranges.specs.Piece.{Piece}
use Rattle.ranges.proofs.Over.{put_all_lem, carve_all}
use Rattle.ranges.specs.Parts.{part_some, part_none}
use Rattle.book.specs.Page.{Span, span_of, tail_at, touched, over}
use Rattle.book.specs.Work.{Work, page_of, settle, add_page, writable, edited, write_page}
use Rattle.book.specs.Bytes.{reading, write_from, writing, cleared, clear}
use Rattle.book.specs.Pages.{with_ranges, share, sharing, uncover}
use Rattle.book.specs.Copy.{equal_places, copy_bytes, copy_equal, copying, shadowing, zeroing}
use Rattle.laws.specs.State.{Good, Ordered}
use Rattle.laws.specs.Way.{Way, as_is, settled, add_page_way, writable_way}
use Rattle.laws.specs.Reading.{reading_length}
use Rattle.laws.specs.Spans.{touched_in, pages_in, span_sum, first_in, span_same, whole_in, head_fits}
use Rattle.laws.specs.Kept.{bytes_kept, clear_kept, here, Kept, sharing_kept, uncover_kept, page_kept, over_keeps}

-- `room o` is how many pages object o can have: none if it is not live. A range keeps to its object's pages and its backing's indexes.
pub record Housed (room : ℕ → ℕ) (r : Range) : Type 0 where
  pub ends : r.start + r.len ≤ room r.object
  pub indexes : r.offset + r.len ≤ 1048576
  pub numbered : 1 ≤ r.backing

abbrev pub Housing : (ℕ → ℕ) → List Range → Type 0
Housing room rs = (r : Range) → Memᴰ r rs → Housed room r

housed_piece : (room : ℕ → ℕ) (q r : Range) → Piece q r → Housed room r → Housed room q
housed_piece room q r P H = record {
  ends = rw P.object (omega (arith, H.ends, P.last));
  indexes = omega (arith, H.indexes, P.shift, P.last);
  numbered = rw P.backing H.numbered;
}

way_housed : (room : ℕ → ℕ) (o p : ℕ) (x : List ℕ) (w v : Work) → Way o p w x v → p < room o → Housing room w.ranges → Housing room v.ranges
unfolding settle
way_housed room o p x w v (as_is P e) h H r m = H r m
way_housed room o p x w v (settled n S) h H r m =
    put_all_lem (housed_piece room) n w.ranges
    (⊎_elim (λ (k : Memᴰ n w.ranges). H n k)
    (λ (k : (n.start + n.len ≡ suc p) × (n.offset + n.len ≤ 1048576)).
    record { ends = rw S.object (omega (arith, k.0)); indexes = k.1; numbered = S.numbered (λ q l. (H q l).numbered) })
    S.bounds)
    H r m

module _ (room : ℕ → ℕ) (small : (o : ℕ) → room o ≤ 262144) where
  -- ---- page steps

  pub add_housed : (o p : ℕ) (u : Work) → Ordered u → p < room o → Housing room u.ranges → Housing room (add_page o p u).ranges
  add_housed o p u W h H = way_housed room o p _ u _ (add_page_way o p u W (omega (arith, small o))) h H

  page_housed : (o p : ℕ) (f : List ℕ → List ℕ) (u : Work) → Ordered u → p < room o → Housing room u.ranges → Housing room (write_page o p f u).ranges
  unfolding write_page
  page_housed o p f u W h H =
      go (slot_at (line o p) (writable o p u).ranges) (way_housed room o p _ u _ (writable_way o p u W (omega (arith, small o))) h H)
    where
      go : (t : Option Slot) → Housing room (writable o p u).ranges → Housing room (edited t f (writable o p u)).ranges
      go None K r m = K r m
      go (Some s) K r m = K r m

  -- ---- bytes

  write_from_housed : (size i o p k : ℕ) (d : List ℕ) (w u : Work) → size ≡ w.size → k ≤ size → p + i ≤ room o → Kept w u → Housing room u.ranges
      → Housing room (write_from size i o p k d u).ranges
  unfolding write_from
  write_from_housed size zero o p k d w u e hk h K H r m = H r m
  write_from_housed size (suc i) o p k d w u e hk h K H r m =
      let f : List ℕ → List ℕ = over k (take (size - k) d) in
      let l : length (take (size - k) d) ≡ min (size - k) (length d) = length-take (size - k) d in
      write_from_housed size i o (suc p) 0 (drop (size - k) d) w (write_page o p f u) e (omega arith) (omega arith)
      (page_kept o p w u (omega (arith, small o)) K f (over_keeps w.size k (take (size - k) d) (omega arith)))
      (page_housed o p f u K.good.whole (omega arith) H) r m

  -- ---- whole pages

  pub uncover_housed : (o p n : ℕ) (u : Work) → Housing room u.ranges → Housing room (uncover o p n u).ranges
  unfolding uncover
  uncover_housed o p n u H =
      by-eq n 0
      (λ e. rw (eq-eqb n 0 e) H)
      (λ e. rw (ne_eqb n 0 e) (carve_all (housed_piece room) (line o p) (line o p + n) u.ranges H))

  share_housed : (ns : List Range) (u : Work) → Housing room ns → Housing room u.ranges → Housing room (share ns u).ranges
  unfolding share
  share_housed [] u N H r m = H r m
  share_housed (n ∷ ns) u N H r m =
      share_housed ns (with_ranges (put n u.ranges) u) (λ q k. N q (Memᴰ.tail k)) (put_all_lem (housed_piece room) n u.ranges (N n (Memᴰ.head refl)) H) r m

  parts_housed : (a o q e : ℕ) (src : List Range) → q + (e - a) ≤ room o → Housing room src → Housing room (map (moved a o q) (parts a e src))
  unfolding parts
  parts_housed a o q e [] h H n m = absurd (Memᴰ.not-nil m)
  parts_housed a o q e (r ∷ src) h H n m =
      by-lt (max a (from r)) (min e (upto r))
      (λ k. let m' = rw (part_some a e r k) at m in
      ⊎_elim
      (λ i. rw i (record {
        ends = omega arith;
        indexes = omega (arith, (H r (Memᴰ.head refl)).indexes);
        numbered = (H r (Memᴰ.head refl)).numbered;
      }))
      (λ t. parts_housed a o q e src h (λ x y. H x (Memᴰ.tail y)) n t)
      (Memᴰ.cases_cons m'))
      (λ k. parts_housed a o q e src h (λ x y. H x (Memᴰ.tail y)) n (rw (part_none a e r k) at m))

  sharing_housed : (s p o q n : ℕ) (u : Work) → q + n ≤ room o → Housing room u.ranges → Housing room (sharing s p o q n u).ranges
  unfolding sharing
  sharing_housed s p o q n u h H = share_housed _ u (parts_housed (line s p) o q (line s p + n) u.ranges (omega arith) H) H

  -- ---- a whole call's work, from its entry on

  module _ (w : Work) (G : Good w) (hs : 4096 ≤ w.size) where
    abbrev pos : 0 < w.size
    pos = omega arith

    pub writing_housed : (o x : ℕ) (d : List ℕ) (u : Work) → Kept w u → x + length d ≤ room o * w.size → Housing room u.ranges → Housing room (writing o x d u).ranges
    unfolding writing
    writing_housed o x d u K h H =
        let s : u.size ≡ w.size = K.size in
        write_from_housed u.size (touched u.size x (length d)) o (x / u.size) (x % u.size) d w u s (omega (arith, mod-lt x {m = u.size} (omega arith)))
        (rw s (touched_in w.size x (length d) pos (room o) h)) K H

    bytes_housed : (s x o y n : ℕ) (u : Work) → Kept w u → y + n ≤ room o * w.size → Housing room u.ranges → Housing room (copy_bytes s x o y n w u).ranges
    bytes_housed s x o y n u K h H =
        let l : length (reading s x n w) ≡ n = reading_length w pos G.fits s x n in
        writing_housed o y (reading s x n w) u K (omega arith) H

    clear_housed : (o x n : ℕ) (u : Work) → Kept w u → x + n ≤ room o * w.size → Housing room u.ranges → Housing room (clear o x n u).ranges
    unfolding clear
    clear_housed o x n u K h H =
        by-eq n 0
        (λ e. rw (eq-eqb n 0 e) H)
        (λ e. rw (ne_eqb n 0 e) (go (first_in w.size x n pos (room o) (omega arith) h) (page_of (line o (x / u.size)) u)))
      where
        go : x / w.size < room o → (y : Option (List ℕ)) → Housing room (cleared o (x / u.size) (x % u.size) n u y).ranges
        go hp None r m = H r m
        go hp (Some y) r m = page_housed o (x / u.size) _ u K.good.whole (rw K.size hp) H r m

    module _ (s x o y n : ℕ) (hy : y + n ≤ 1073741824) (h : y + n ≤ room o * w.size) (H : Housing room w.ranges) where
      equal_housed : x % w.size ≡ y % w.size → Housing room (copy_equal s x o y n w).ranges
      unfolding copy_equal
      equal_housed e =
          let P : Span = span_of w.size x n in
          let sum = span_sum w.size x n pos in
          let b : (y + P.head) / w.size + P.whole ≤ room o = rw (span_same w.size x y n e) (whole_in w.size y n pos (room o) h) in
          let KU = bytes_kept w G hs s x o y P.head w (here w G hs) (omega arith) in
          let KV = sharing_kept s ((x + P.head) / w.size) o ((y + P.head) / w.size) P.whole w _ (omega (arith, small o)) KU in
          bytes_housed s (x + tail_at w.size P) o (y + tail_at w.size P) P.tail _ KV (omega arith)
          (sharing_housed s ((x + P.head) / w.size) o ((y + P.head) / w.size) P.whole _ b
          (bytes_housed s x o y P.head w (here w G hs) (omega arith) H))

      pub copying_housed : Housing room (copying s x o y n w).ranges
      unfolding copying
      copying_housed =
          by-test (equal_places w.size x y)
          (λ t. rw t (equal_housed (eqb-true (x % w.size) (y % w.size) t)))
          (λ t. rw t (bytes_housed s x o y n w (here w G hs) h H))

      pub shadowing_housed : Housing room (shadowing s x o y n w).ranges
      unfolding shadowing
      shadowing_housed = sharing_housed s (x / w.size) o (y / w.size) (n / w.size) w (pages_in w.size y n pos (room o) h) H

    pub zeroing_housed : (o x n : ℕ) → x + n ≤ 1073741824 → x + n ≤ room o * w.size → Housing room w.ranges → Housing room (zeroing o x n w).ranges
    unfolding zeroing
    zeroing_housed o x n hx h H =
        let P : Span = span_of w.size x n in
        let sum = span_sum w.size x n pos in
        let KU = clear_kept w G hs o x P.head w (here w G hs) (head_fits w.size x n pos) (omega arith) in
        clear_housed o (x + tail_at w.size P) P.tail _ (uncover_kept o ((x + P.head) / w.size) P.whole w _ KU) (omega arith)
        (uncover_housed o ((x + P.head) / w.size) P.whole _ (clear_housed o x P.head w (here w G hs) (omega arith) H))
