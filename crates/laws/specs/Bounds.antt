-- What a call takes, from "not refused" alone: at most 512 ranges are left, and the frames in use rise by at most the frames that it needs. So every
-- call leaves a sound book.
use Rattle.std.specs.Prelude.{◌≡◌, true, ℕ, ◌+◌, ◌-◌, ◌*◌, ◌/◌, ◌%◌, ◌≤◌, min}
use Rattle.std.proofs.Math.Path.{refl, ap}
use Rattle.std.proofs.Common.{◌∙◌, zero-le, le_refl, add-zero, eqb-true, eq-eqb, ne_eqb}
use mathlib.Core.List.{List, [], ◌∷◌, tail}
use Rattle.std.proofs.Math.Nat.{sub-zero, mod_self}
use native.Mathlib.Omega.{arith}
use Rattle.std.proofs.Math.ListN.{length}
use Rattle.lists.specs.Test.{pick, by-test, by-eq}
use Rattle.book.specs.Page.{Span, span_of, tail_at, touched}
use Rattle.book.specs.Work.{Work, add_page}
use Rattle.book.specs.Bytes.{reading, writing}
use Rattle.book.specs.Pages.{met}
use Rattle.book.specs.Copy.{copy_equal, copying, shadowing, zeroing, equal_places}
use Rattle.book.specs.Need.{needing, need_write, need_copy, need_shadow, need_zero, state_of, common, wants, wanted, counted, counted_parts, need_whole, partly}
use Rattle.book.specs.Book.{Book, Call, new_object, drop_object, add, look_up, show, read, write, copy, shadow, zero_out, counts, lowest, entry, leave, perform, table, in_use, step, after, created}
use Rattle.book.specs.Sound.{Sound}
use Rattle.book.specs.Needed.{needed}
use Rattle.laws.specs.State.{Good}
use Rattle.laws.specs.Cost.{Cost, sharing_cost, uncover_all, add_page_cost, writing_cost}
use Rattle.laws.specs.Accepted.{Accepted, accepted_step, Room, refused_step, add_rows, write_rows, copy_rows, shadow_rows, zero_rows}
use Rattle.laws.specs.Sound.{good, large, create_sound, perform_sound, pages_few}
use Rattle.laws.specs.Cap.{counted_is}
use Rattle.laws.specs.Copying.{equal_cost}
use Rattle.laws.specs.Reading.{reading_length}
use Rattle.laws.specs.Zeroing.{zeroing_cost, common_small}
use Rattle.laws.specs.Enough.{wants_small}
use Rattle.laws.specs.FileLaw.{all_frames}
use Rattle.laws.specs.Spans.{pages_in, object_in}

-- a span of whole pages has neither head nor tail
pub span_whole : (size x n : ℕ) → x % size ≡ 0 → span_of size x n ≡ record { head = 0; whole = n / size; tail = n % size }
unfolding span_of
span_whole size x n e =
    let z : (size - x % size) % size ≡ 0 = ap (λ m. (size - m) % size) e ∙ rw sub-zero (mod_self size) in
    let k : min n ((size - x % size) % size) ≡ 0 = omega arith in
    rw (k, sub-zero)

-- a partly touched page counts at most once
partly_once : (P : Span) (each : ℕ → ℕ) (page n : ℕ) → each page ≤ 1 → partly P each page n ≤ 1
partly_once P each page n h =
    by-eq n 0
    (λ e. rw (eq-eqb n 0 e) zero-le)
    (λ e. by-eq P.whole 0 (λ z. rw (ne_eqb n 0 e, eq-eqb P.whole 0 z) h) (λ z. rw (ne_eqb n 0 e, ne_eqb P.whole 0 z) (le_refl 1)))

-- AT MOST TWO pages are partly touched
pub counted_two : (each : ℕ → ℕ) (size x n : ℕ) → ((q : ℕ) → each q ≤ 1) → counted_parts each size x n ≤ 2
unfolding counted_parts
counted_two each size x n h =
    let P : Span = span_of size x n in
    omega (arith, partly_once P each (x / size) P.head (h (x / size)), partly_once P each ((x + tail_at size P) / size) P.tail (h ((x + tail_at size P) / size)))

-- a call's work takes book b to book c: no more than 512 ranges, and at most f frames more in use
pub record Bounded (f : ℕ) (b c : Book) : Type 0 where
  pub ranges : length c.ranges ≤ 512
  pub used : in_use c.cells ≤ in_use b.cells + f

module _ (b : Book) (S : Sound b) where
  abbrev w : Work
  w = entry b

  G : Good w
  G = good b S

  hs : 4096 ≤ w.size
  hs = large b S

  -- a call's work, with room for what it costs
  from_cost : (f m g : ℕ) (v : Work) → Cost f m w v → length w.ranges + m ≤ 512 → f ≤ g → Bounded g b (leave b v)
  unfolding entry
  from_cost f m g v C h l = record { ranges = omega (arith, C.ranges); used = omega (arith, C.used) }

  same : (f : ℕ) → Bounded f b b
  same f = record { ranges = S.count; used = omega arith }

  -- bytes written: the destination pages that were absent or shared
  bytes_bounded : (o x n : ℕ) (d : List ℕ) → length d ≡ n → x + n ≤ 1073741824 → Room b (need_write o x n w) → Bounded (wanted (touched w.size x n) o (x / w.size) w) b (leave b (writing o x d w))
  bytes_bounded o x n d e h R =
      let k : ℕ = wanted (touched w.size x n) o (x / w.size) w in
      let c : counted o x n w ≡ k = counted_is o x n w G.whole (all_frames b) R.frames in
      let r : length w.ranges + (2 * counted o x n w + 0) ≤ 512 = R.slots in
      from_cost k (2 * k) k (writing o x d w) (rw e at (writing_cost o x w G hs d (omega arith))) (omega (arith, c, r)) (le_refl k)

  zero_bounded : (o x n : ℕ) → x + n ≤ 1073741824 → Room b (need_zero o x n w) → Bounded (counted_parts (λ q. common (state_of o q w)) w.size x n) b (leave b (zeroing o x n w))
  zero_bounded o x n h R = from_cost _ _ _ (zeroing o x n w) (zeroing_cost o x n w G hs h) R.slots (le_refl _)

  equal_bounded : (s x o y n : ℕ) → (s ≡ o → ⊥) → x + n ≤ 1073741824 → y + n ≤ 1073741824 → x % w.size ≡ y % w.size
      → Room b (needing (counted_parts (λ q. wants o q w) w.size y n) (need_whole s x n w)) → Bounded (counted_parts (λ q. wants o q w) w.size y n) b (leave b (copy_equal s x o y n w))
  equal_bounded s x o y n ne hx hy e R = from_cost _ _ _ (copy_equal s x o y n w) (equal_cost s x o y n w G hs ne hx hy e) R.slots (le_refl _)

  copy_bounded : (s x o y n : ℕ) → (s ≡ o → ⊥) → x + n ≤ 1073741824 → y + n ≤ 1073741824 → Room b (need_copy s x o y n w)
      → Bounded (pick (equal_places w.size x y) (counted_parts (λ q. wants o q w) w.size y n) (wanted (touched w.size y n) o (y / w.size) w)) b (leave b (copying s x o y n w))
  unfolding copying
  copy_bounded s x o y n ne hx hy R =
      by-test (equal_places w.size x y)
      (λ t. rw t (equal_bounded s x o y n ne hx hy (eqb-true (x % w.size) (y % w.size) t) (rw t at R)))
      (λ t. rw t (bytes_bounded o y n (reading s x n w) (reading_length w (omega (arith, hs)) G.fits s x n) hy (rw t at R)))

  shadow_bounded : (s x o y n : ℕ) → y + n ≤ 1073741824 → x % w.size ≡ 0 → Room b (need_shadow s x n w) → Bounded 0 b (leave b (shadowing s x o y n w))
  unfolding shadowing need_whole
  shadow_bounded s x o y n hy e R =
      let P : span_of w.size x n ≡ record { head = 0; whole = n / w.size; tail = n % w.size } = span_whole w.size x n e in
      let r : length w.ranges + (2 * 0 + 2 * met s ((x + 0) / w.size) (n / w.size) w) ≤ 512 = rw P at R.slots in
      let z : met s ((x + 0) / w.size) (n / w.size) w ≡ met s (x / w.size) (n / w.size) w = ap (λ m. met s (m / w.size) (n / w.size) w) (add-zero x) in
      from_cost 0 (2 * met s (x / w.size) (n / w.size) w) 0 (shadowing s x o y n w)
      (sharing_cost s (x / w.size) o (y / w.size) (n / w.size) w (pages_in w.size y n (omega (arith, hs)) 262144 (object_in w.size y n hs hy)) G.whole.rising) (omega (arith, r, z)) (le_refl 0)

  perform_bounded : (c : Call) → Accepted b c → Bounded (needed b c) b (perform b c).book
  unfolding perform needed entry
  perform_bounded (new_object o) e = record { ranges = S.count; used = omega arith }
  perform_bounded (drop_object o) e =
      let C = uncover_all o w G.whole in
      record { ranges = omega (arith, C.ranges, S.count); used = omega (arith, C.used) }
  perform_bounded (add o p) e =
      let A = add_rows b o p e in
      from_cost 1 2 1 (add_page o p w) (add_page_cost o p w G.whole (omega (arith, A.ends, pages_few b S))) A.room.slots (le_refl 1)
  perform_bounded (look_up o p) e = same 0
  perform_bounded (show o p) e = same 0
  perform_bounded (read o x n) e = same 0
  perform_bounded (write o x d) e = let A = write_rows b o x d e in bytes_bounded o x (length d) d refl A.ends A.room
  perform_bounded (copy s x o y n) e = let A = copy_rows b s x o y n e in copy_bounded s x o y n A.other A.begins A.ends A.room
  perform_bounded (shadow s x o y n) e = let A = shadow_rows b s x o y n e in shadow_bounded s x o y n A.copied.ends A.first A.copied.room
  perform_bounded (zero_out o x n) e = let A = zero_rows b o x n e in zero_bounded o x n A.ends A.room
  perform_bounded counts e = same 0

  -- EVERY CALL, refused or not, leaves at most 512 ranges, and raises the frames in use by at most the frames that it needs: of a write and of a copy at
  -- unequal places "the destination pages touched that were absent or shared at its start"
  pub step_bounded : (c : Call) → Bounded (needed b c) b (step b c).book
  step_bounded c =
      by-eq (lowest (table b c)) 0
      (λ e. rw (accepted_step b c e) (perform_bounded c e))
      (λ e. rw (refused_step b c e) (same (needed b c)))

  -- EVERY CALL leaves a sound book
  pub step_sound : (c : Call) → Sound (step b c).book
  step_sound c =
      by-eq (lowest (table b c)) 0
      (λ e. rw (accepted_step b c e) (perform_sound b S c e (perform_bounded c e).ranges))
      (λ e. rw (refused_step b c e) S)

-- "An accepted copy at equal places in a page raises it by at most two, however long"; "zeroing by at most two"
pub copy_two : (b : Book) (s x o y n : ℕ) → equal_places b.size x y ≡ true → needed b (copy s x o y n) ≤ 2
unfolding needed
copy_two b s x o y n t = rw t (counted_two (λ q. wants o q (entry b)) b.size y n (λ q. wants_small o q (entry b)))

pub zero_two : (b : Book) (o x n : ℕ) → needed b (zero_out o x n) ≤ 2
unfolding needed
zero_two b o x n = counted_two (λ q. common (state_of o q (entry b))) b.size x n (λ q. common_small (state_of o q (entry b)))

pub after_sound : (b : Book) → Sound b → (cs : List Call) → Sound (after b cs)
unfolding after
after_sound b S [] = S
after_sound b S (c ∷ cs) = after_sound (step b c).book (step_sound b S c) cs

-- EVERY BOOK that a list of calls reaches from a store as created is sound
pub reached_sound : (frames pool : ℕ) (cs : List Call) → Sound (after (created frames pool) cs)
reached_sound frames pool cs = after_sound (created frames pool) (create_sound frames pool) cs
