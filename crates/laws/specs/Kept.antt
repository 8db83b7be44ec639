-- What every part of a call keeps: the state stays good, of the same page size and with as many frames.
use Rattle.std.specs.Prelude.{◌≡◌, ℕ, zero, suc, ◌+◌, ◌-◌, ◌/◌, ◌%◌, ◌≤◌, ◌<◌, min, max, take, drop, replicate, Option, Some, None}
use Rattle.std.proofs.Math.Path.{refl}
use Rattle.std.proofs.Common.{◌∙◌, arith, length-take, length-set, eq-eqb, ne_eqb, eqb-true}
use mathlib.Core.List.{List, [], ◌∷◌, map, Memᴰ}
use Rattle.std.proofs.Math.Nat.{mod-lt}
use Rattle.std.proofs.Math.ListN.{length, length-replicate, length-map}
use Rattle.lists.specs.Test.{by-test, by-eq, by-lt}
use Rattle.ranges.specs.Range.{Range, Slot, line, from, upto, slot_at, carve, put, Rising}
use Rattle.ranges.specs.Table.{parts, moved}
use Rattle.ranges.specs.Cut.{carve_rising}
use Rattle.ranges.specs.Over.{put_rising}
use Rattle.ranges.proofs.Over.{put_all_lem, carve_all}
use Rattle.ranges.specs.Parts.{part_some, part_none}
use Rattle.book.specs.Cell.{trim, vacate, edit}
use Rattle.book.specs.Page.{Span, span_of, tail_at, touched, over}
use Rattle.book.specs.Work.{Work, page_of, settle, blank, add_page, writable, edited, write_page}
use Rattle.book.specs.Bytes.{reading, write_from, writing, cleared, clear}
use Rattle.book.specs.Pages.{with_ranges, share, sharing, uncover}
use Rattle.book.specs.Copy.{equal_places, copy_bytes, copy_equal, copying, shadowing, zeroing}
use Rattle.laws.specs.Cells.{trim_at, trim_free}
use Rattle.laws.specs.State.{Tight, Fits, Apart, Good, spare_keep}
use Rattle.laws.specs.Way.{Way, as_is, settled, add_page_way, writable_way}
use Rattle.laws.specs.PageLaw.{Keeps, way_good, way_size, edited_good}
use Rattle.laws.specs.Over.{over_length}
use Rattle.laws.specs.Reading.{seen_length, reading_length}
use Rattle.laws.specs.Spans.{span_sum, span_same, head_fits, page_in, page_bound, object_in, whole_in, pages_in, tail_fits}

-- of the state v that a call which began with w has reached
pub record Kept (w v : Work) : Type 0 where
  pub good : Good v
  pub size : v.size ≡ w.size
  pub cells : length v.cells ≡ length w.cells

-- ---- page steps

way_cells : (o p : ℕ) (x : List ℕ) (w v : Work) → Way o p w x v → length v.cells ≡ length w.cells
unfolding settle vacate trim
way_cells o p x w v (as_is P e) = refl
way_cells o p x w v (settled n S) = simp (length-set, length-map)

way_kept : (o p : ℕ) (x : List ℕ) (w u v : Work) → Way o p u x v → length x ≡ u.size → Kept w u → Kept w v
way_kept o p x w u v way l K = record
    { good = way_good o p x u v way K.good l; size = way_size o p x u v way ∙ K.size; cells = way_cells o p x u v way ∙ K.cells }

-- data put over a page keeps its length
pub over_keeps : (n k : ℕ) (d : List ℕ) → k + length d ≤ n → Keeps n (over k d)
over_keeps n k d h x e = over_length k d x (omega arith) ∙ e

module _ (o p : ℕ) (w u : Work) (hp : p < 262144) (K : Kept w u) where
  pub add_kept : Kept w (add_page o p u)
  add_kept = way_kept o p (blank u) w u _ (add_page_way o p u K.good.whole hp) (length-replicate u.size 0) K

  pub made_kept : Kept w (writable o p u)
  made_kept = way_kept o p _ w u _ (writable_way o p u K.good.whole hp) (seen_length (line o p) u K.good.fits) K

  pub page_kept : (f : List ℕ → List ℕ) → Keeps w.size f → Kept w (write_page o p f u)
  unfolding write_page
  page_kept f h = record {
    good = edited_good f (writable o p u) (slot_at (line o p) (writable o p u).ranges) (rw made_kept.size h) made_kept.good;
    size = same_size (slot_at (line o p) (writable o p u).ranges) ∙ made_kept.size;
    cells = same_cells (slot_at (line o p) (writable o p u).ranges) ∙ made_kept.cells;
  }
    where
      same_size : (t : Option Slot) → (edited t f (writable o p u)).size ≡ (writable o p u).size
      same_size None = refl
      same_size (Some s) = refl

      same_cells : (t : Option Slot) → length (edited t f (writable o p u)).cells ≡ length (writable o p u).cells
      same_cells None = refl
      same_cells (Some s) = unfold edit in simp length-map

-- ---- bytes

pub write_from_kept : (size i o p k : ℕ) (d : List ℕ) (w u : Work) → size ≡ w.size → k ≤ size → p + i ≤ 262144 → Kept w u → Kept w (write_from size i o p k d u)
unfolding write_from
write_from_kept size zero o p k d w u e hk h K = K
write_from_kept size (suc i) o p k d w u e hk h K =
    let l : length (take (size - k) d) ≡ min (size - k) (length d) = length-take (size - k) d in
    write_from_kept size i o (suc p) 0 (drop (size - k) d) w _ e (omega arith) (omega arith)
    (page_kept o p w u (omega arith) K (over k (take (size - k) d)) (over_keeps w.size k (take (size - k) d) (omega arith)))

-- ---- whole pages

-- a table that rises and stays within the objects, and the cells trimmed by it
with_ranges_kept : (rs : List Range) (w u : Work) → Rising 0 rs → ((r : Range) → Memᴰ r rs → r.start + r.len ≤ 262144) → Kept w u → Kept w (with_ranges rs u)
unfolding Tight Fits Apart
with_ranges_kept rs w u R I K =
    let G : Good u = K.good in
    let l : length (trim rs u.cells) ≡ length u.cells = unfold trim in simp length-map in
    record {
      good = record {
        whole = record {
          rising = R;
          within = I;
          spare = rw l (spare_keep (length u.cells) u.cells (trim rs u.cells) u.spare (λ k _ e. trim_free rs u.cells k e) G.whole.spare);
        };
        tight = λ f b i x e. (trim_at rs u.cells f b i x e).1;
        fits = λ f b i x e. G.fits f b i x (trim_at rs u.cells f b i x e).0;
        apart = λ f g b i x y d e. G.apart f g b i x y (trim_at rs u.cells f b i x d).0 (trim_at rs u.cells g b i y e).0;
      };
      size = K.size;
      cells = l ∙ K.cells;
    }

-- ranges that can be put in one after another
unfoldable pub Proper : List Range → Type 0
Proper [] = Unit {0}
Proper (n ∷ ns) = (0 < n.len) × (n.start + n.len ≤ 262144) × Proper ns

pub put_kept : (n : Range) (w u : Work) → 0 < n.len → n.start + n.len ≤ 262144 → Kept w u → Kept w (with_ranges (put n u.ranges) u)
put_kept n w u l h K =
    with_ranges_kept (put n u.ranges) w u (put_rising n u.ranges l K.good.whole.rising)
    (put_all_lem (λ q r P k. omega (arith, P.last)) n u.ranges h K.good.whole.within) K

share_kept : (ns : List Range) (w u : Work) → Proper ns → Kept w u → Kept w (share ns u)
unfolding share Proper
share_kept [] w u P K = K
share_kept (n ∷ ns) w u P K = share_kept ns w (with_ranges (put n u.ranges) u) P.2 (put_kept n w u P.0 P.1 K)

pub parts_proper : (a o q e : ℕ) (src : List Range) → q + (e - a) ≤ 262144 → Proper (map (moved a o q) (parts a e src))
unfolding parts Proper
parts_proper a o q e [] h = tt
parts_proper a o q e (r ∷ src) h =
    by-lt (max a (from r)) (min e (upto r))
    (λ k. rw (part_some a e r k) (omega arith, omega arith, parts_proper a o q e src h))
    (λ k. rw (part_none a e r k) (parts_proper a o q e src h))

pub sharing_kept : (s p o q n : ℕ) (w u : Work) → q + n ≤ 262144 → Kept w u → Kept w (sharing s p o q n u)
unfolding sharing
sharing_kept s p o q n w u h K = share_kept _ w u (parts_proper (line s p) o q (line s p + n) u.ranges (omega arith)) K

pub uncover_kept : (o p n : ℕ) (w u : Work) → Kept w u → Kept w (uncover o p n u)
unfolding uncover
uncover_kept o p n w u K =
    by-eq n 0
    (λ e. rw (eq-eqb n 0 e) K)
    (λ e. rw (ne_eqb n 0 e)
    (with_ranges_kept (carve (line o p) (line o p + n) u.ranges) w u
    (carve_rising (line o p) (line o p + n) 0 u.ranges (omega arith) K.good.whole.rising)
    (carve_all (λ q r P k. omega (arith, P.last)) (line o p) (line o p + n) u.ranges K.good.whole.within) K))

-- ---- a call's work, from its entry on

module _ (w : Work) (G : Good w) (hs : 4096 ≤ w.size) where
  pub here : Kept w w
  here = record { good = G; size = refl; cells = refl }

  positive : 0 < w.size
  positive = omega arith

  pub writing_kept : (o x : ℕ) (d : List ℕ) (u : Work) → Kept w u → x + length d ≤ 1073741824 → Kept w (writing o x d u)
  unfolding writing
  writing_kept o x d u K h =
      let s : u.size ≡ w.size = K.size in
      write_from_kept u.size (touched u.size x (length d)) o (x / u.size) (x % u.size) d w u s (omega (arith, mod-lt x {m = u.size} (omega arith)))
      (page_bound u.size x (length d) (omega arith) h) K

  pub bytes_kept : (s x o y n : ℕ) (u : Work) → Kept w u → y + n ≤ 1073741824 → Kept w (copy_bytes s x o y n w u)
  bytes_kept s x o y n u K h =
      let l : length (reading s x n w) ≡ n = reading_length w positive G.fits s x n in
      writing_kept o y (reading s x n w) u K (omega arith)

  pub clear_kept : (o x n : ℕ) (u : Work) → Kept w u → x % w.size + n ≤ w.size → x + n ≤ 1073741824 → Kept w (clear o x n u)
  unfolding clear
  clear_kept o x n u K hn h =
      by-eq n 0
      (λ e. rw (eq-eqb n 0 e) K)
      (λ e. rw (ne_eqb n 0 e) (go (page_in w.size x n hs (omega arith) h) (page_of (line o (x / u.size)) u)))
    where
      go : x / w.size < 262144 → (y : Option (List ℕ)) → Kept w (cleared o (x / u.size) (x % u.size) n u y)
      go hp None = K
      go hp (Some y) =
          let l : length (replicate {A = ℕ} n 0) ≡ n = length-replicate n 0 in
          page_kept o (x / u.size) w u (rw K.size hp) K (over (x % u.size) (replicate n 0))
          (rw K.size (over_keeps w.size (x % w.size) (replicate n 0) (omega arith)))

  module _ (s x o y n : ℕ) (hy : y + n ≤ 1073741824) where
    equal_kept : x % w.size ≡ y % w.size → Kept w (copy_equal s x o y n w)
    unfolding copy_equal
    equal_kept e =
        let P : Span = span_of w.size x n in
        let sum = span_sum w.size x n positive in
        let b : (y + P.head) / w.size + P.whole ≤ 262144 = rw (span_same w.size x y n e) (whole_in w.size y n positive 262144 (object_in w.size y n hs hy)) in
        bytes_kept s (x + tail_at w.size P) o (y + tail_at w.size P) P.tail _
        (sharing_kept s ((x + P.head) / w.size) o ((y + P.head) / w.size) P.whole w _ b (bytes_kept s x o y P.head w here (omega arith)))
        (omega arith)

    pub copying_kept : Kept w (copying s x o y n w)
    unfolding copying
    copying_kept =
        by-test (equal_places w.size x y)
        (λ t. rw t (equal_kept (eqb-true (x % w.size) (y % w.size) t)))
        (λ t. rw t (bytes_kept s x o y n w here hy))

    pub shadowing_kept : Kept w (shadowing s x o y n w)
    unfolding shadowing
    shadowing_kept = sharing_kept s (x / w.size) o (y / w.size) (n / w.size) w w (pages_in w.size y n positive 262144 (object_in w.size y n hs hy)) here

  pub zeroing_kept : (o x n : ℕ) → x + n ≤ 1073741824 → Kept w (zeroing o x n w)
  unfolding zeroing
  zeroing_kept o x n h =
      let P : Span = span_of w.size x n in
      let sum = span_sum w.size x n positive in
      clear_kept o (x + tail_at w.size P) P.tail _
      (uncover_kept o ((x + P.head) / w.size) P.whole w _ (clear_kept o x P.head w here (head_fits w.size x n positive) (omega arith)))
      (tail_fits w.size x n positive) (omega arith)
