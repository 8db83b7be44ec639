-- Every call leaves a sound book, and a new book is sound: so every book that a list of calls can reach is.
use Rattle.std.specs.Prelude.{◌≡◌, refl, Bool, ◌&&◌, ℕ, suc, ◌+◌, ◌*◌, ◌/◌, ◌≤◌, ◌<◌, leb, length, set, replicate}
use Rattle.std.proofs.Common.{ap, sym, ◌∙◌, ⊎_elim, zero-le, le_refl, add-zero, mul-le-mul_left, div-lt_iff_lt-mul, add-mul, arith, length-set, get_or-set_same, leb-true}
use Rattle.std.proofs.Math.Bool.{true, false}
use mathlib.Core.List.Memᴰ
use mathlib.Core.List.{List, [], ◌∷◌, Memᴰ}
use Rattle.std.proofs.Math.ListN.{get_or, get_or-eq_default}
use Rattle.std.proofs.lemmas.List.{length-replicate, get_or-replicate}
use Rattle.std.proofs.Math.Seq.{get_or-set_other}
use Rattle.lists.specs.Test.{pick, by-test, by-eq, and_left, and_right, by-lt}
use Rattle.ranges.specs.Range.{Range, line, from, upto, carve, Rising}
use Rattle.ranges.specs.Piece.{clear_mem, rising_mem}
use Rattle.ranges.specs.Put.{carve_clear}
use Rattle.book.specs.Cell.{Cell, free, holds, free_from}
use Rattle.book.specs.Page.{object_bytes}
use Rattle.book.specs.Work.{Work}
use Rattle.book.specs.Pages.{uncover}
use Rattle.book.specs.Book.{Book, Call, new_object, drop_object, add, look_up, show, read, write, copy, shadow, zero_out, counts, entry, leave, set_live, perform, empty, create}
use Rattle.book.specs.Sound.{Sound}
use Rattle.laws.specs.State.{Spare, Tight, Fits, Apart, Good, spare_weaken}
use Rattle.laws.specs.Accepted.{Accepted, Live, new_rows, add_rows, write_rows, copy_rows, shadow_rows, zero_rows}
use Rattle.laws.specs.Cells.{free_holds}
use Rattle.laws.specs.Housed.{Housing, uncover_housed, add_housed, writing_housed, copying_housed, shadowing_housed, zeroing_housed}
use Rattle.laws.specs.Kept.{Kept, uncover_kept, here, add_kept, writing_kept, copying_kept, shadowing_kept, zeroing_kept}

-- ---- the free frames of a book are spare

free_spare_from : (all : List Cell) (n : ℕ) (acc : List ℕ) (cs : List Cell) → Spare n all acc → ((j : ℕ) → get_or all (n + j) free ≡ get_or cs j free)
    → Spare (n + length cs) all (free_from n acc cs)
unfolding free_from Spare
free_spare_from all n acc [] S h = spare_weaken n (n + 0) all acc (omega arith) S
free_spare_from all n acc (free ∷ cs) S h =
    let m : suc n + length cs ≡ n + suc (length cs) = omega arith in
    rw m at (free_spare_from all (suc n) (n ∷ acc) cs (omega arith, ap (λ z. get_or all z free) (sym (add-zero n)) ∙ h 0, S)
    (λ j. ap (λ z. get_or all z free) (omega arith) ∙ h (suc j)))
free_spare_from all n acc (holds b i x ∷ cs) S h =
    let m : suc n + length cs ≡ n + suc (length cs) = omega arith in
    rw m at (free_spare_from all (suc n) acc cs (spare_weaken n (suc n) all acc (omega arith) S) (λ j. ap (λ z. get_or all z free) (omega arith) ∙ h (suc j)))

pub free_spare : (cs : List Cell) → Spare (length cs) cs (free_from 0 [] cs)
unfolding Spare
free_spare cs =
    let z : 0 + length cs ≡ length cs = omega arith in
    rw z at (free_spare_from cs 0 [] cs tt (λ j. ap (λ k. get_or cs k free) (omega arith)))

-- ---- into a call and out of it

-- how many pages an object can have: none if it is not live
abbrev pub room_of : Book → ℕ → ℕ
room_of b o = pick (get_or b.live o false) (object_bytes / b.size) 0

pub pages_few : (b : Book) → Sound b → object_bytes / b.size ≤ 262144
pages_few b S =
    let big : 262144 * 4096 ≤ 262144 * b.size = mul-le-mul_left 262144 S.large in
    let ps : 0 < b.size = omega (arith, S.large) in
    let q : object_bytes / b.size < 262144 + 1 = (div-lt_iff_lt-mul ps).1 (omega (arith, add-mul 262144 1 b.size)) in
    omega arith

pub room_few : (b : Book) → Sound b → (o : ℕ) → room_of b o ≤ 262144
room_few b S o = by-test (get_or b.live o false) (λ t. rw t (pages_few b S)) (λ t. rw t (omega arith))

module _ (b : Book) (S : Sound b) where
  -- a sound book is good to enter a call with
  pub good : Good (entry b)
  unfolding entry Tight Fits Apart
  good = record {
    whole = record { rising = S.order; within = λ r m. omega (arith, S.ends r m, pages_few b S); spare = free_spare b.cells };
    tight = S.windows;
    fits = S.pages;
    apart = S.apart;
  }

  pub large : 4096 ≤ (entry b).size
  large = unfold entry in S.large

  pub housed : Housing (room_of b) (entry b).ranges
  unfolding entry
  housed r m = record { ends = rw (S.owned r m) (S.ends r m); indexes = S.indexes r m; numbered = S.numbered r m }

  -- what a call's work leaves is a sound book, if its ranges are not too many
  leave_sound : (w : Work) → Kept (entry b) w → Housing (room_of b) w.ranges → length w.ranges ≤ 512 → Sound (leave b w)
  unfolding entry Tight Fits Apart
  leave_sound w K H c = record {
    large = S.large;
    divides = S.divides;
    least = S.least;
    most = S.most;
    cells = K.cells ∙ S.cells;
    names = S.names;
    count = c;
    owned = λ r m. live r (rising_mem 0 r w.ranges K.good.whole.rising m) (H r m).ends;
    order = K.good.whole.rising;
    ends = λ r m. last r (H r m).ends;
    indexes = λ r m. (H r m).indexes;
    numbered = λ r m. (H r m).numbered;
    windows = K.good.tight;
    apart = K.good.apart;
    pages = λ f k i x e. K.good.fits f k i x e ∙ K.size;
  }
    where
      live : (r : Range) → 0 < r.len → r.start + r.len ≤ room_of b r.object → get_or b.live r.object false ≡ true
      live r l h = by-test (get_or b.live r.object false) (λ t. t) (λ t. absurd (let z : r.start + r.len ≤ 0 = rw t at h in omega arith))

      last : (r : Range) → r.start + r.len ≤ room_of b r.object → r.start + r.len ≤ object_bytes / b.size
      last r h = by-test (get_or b.live r.object false) (λ t. rw t at h) (λ t. let z : r.start + r.len ≤ 0 = rw t at h in omega arith)

  -- a name set live or not, while no range is of an object that is not
  set_live_sound : (o : ℕ) (t : Bool) → ((r : Range) → Memᴰ r b.ranges → get_or (set b.live o t) r.object false ≡ true) → Sound (set_live o t b)
  set_live_sound o t h = record {
    large = S.large;
    divides = S.divides;
    least = S.least;
    most = S.most;
    cells = S.cells;
    names = length-set b.live o t ∙ S.names;
    count = S.count;
    owned = h;
    order = S.order;
    ends = S.ends;
    indexes = S.indexes;
    numbered = S.numbered;
    windows = S.windows;
    apart = S.apart;
    pages = S.pages;
  }

-- ---- each call

module _ (b : Book) (S : Sound b) where
  -- a live object has its bytes
  live_bytes : (o x n : ℕ) → Live b o → x + n ≤ object_bytes → x + n ≤ room_of b o * (entry b).size
  unfolding entry
  live_bytes o x n L h = rw L.is (omega (arith, S.divides))

  abbrev w : Work
  w = entry b

  abbrev rm : (o : ℕ) → room_of b o ≤ 262144
  rm o = room_few b S o

  abbrev K : Kept (entry b) (entry b)
  K = here (entry b) (good b S) (large b S)

  -- no range is left of an object dropped
  dropped : (o : ℕ) (r : Range) → Memᴰ r (carve (line o 0) (line o 0 + 262144) b.ranges) → r.start + r.len ≤ 262144 → 0 < r.len → r.object ≡ o → ⊥
  dropped o r m h l e =
      ⊎_elim (λ (u : upto r ≤ line o 0). omega arith) (λ (u : line o 0 + 262144 ≤ from r). omega arith)
      (clear_mem (line o 0) (line o 0 + 262144) r _ (carve_clear (line o 0) (line o 0 + 262144) b.ranges (omega arith)) m)

  -- an accepted call leaves a sound book, if its ranges are not too many
  pub perform_sound : (c : Call) → Accepted b c → length (perform b c).book.ranges ≤ 512 → Sound (perform b c).book
  unfolding perform
  perform_sound (new_object o) e k =
      let r = new_rows b o e in
      set_live_sound b S o true (λ q m. by-eq q.object o
      (λ z. rw z (get_or-set_same b.live o true false (omega (arith, r.0, S.names))))
      (λ z. get_or-set_other b.live o q.object true false z ∙ S.owned q m))
  perform_sound (drop_object o) e k =
      let v : Work = uncover o 0 262144 w in
      let B : Sound (leave b v) = leave_sound b S v (uncover_kept o 0 262144 w w K) (uncover_housed (room_of b) rm o 0 262144 w (housed b S)) k in
      set_live_sound (leave b v) B o false (λ q m.
      let ne : q.object ≡ o → ⊥ = dropped o q (unfold uncover entry in m) (omega (arith, B.ends q m, pages_few b S)) (rising_mem 0 q v.ranges B.order m) in
      get_or-set_other b.live o q.object false false ne ∙ B.owned q m)
  perform_sound (add o p) e k =
      let A = add_rows b o p e in
      let h : p < room_of b o = rw A.live.is A.ends in
      leave_sound b S _ (add_kept o p w w (omega (arith, rm o)) K) (add_housed (room_of b) rm o p w (good b S).whole h (housed b S)) k
  perform_sound (look_up o p) e k = S
  perform_sound (show o p) e k = S
  perform_sound (read o x n) e k = S
  perform_sound (write o x d) e k =
      let A = write_rows b o x d e in
      leave_sound b S _ (writing_kept w (good b S) (large b S) o x d w K A.ends)
      (writing_housed (room_of b) rm w (good b S) (large b S) o x d w K (live_bytes o x (length d) A.live A.ends) (housed b S)) k
  perform_sound (copy s x o y n) e k =
      let A = copy_rows b s x o y n e in
      leave_sound b S _ (copying_kept w (good b S) (large b S) s x o y n A.ends)
      (copying_housed (room_of b) rm w (good b S) (large b S) s x o y n A.ends (live_bytes o y n A.live A.ends) (housed b S)) k
  perform_sound (shadow s x o y n) e k =
      let A = (shadow_rows b s x o y n e).copied in
      leave_sound b S _ (shadowing_kept w (good b S) (large b S) s x o y n A.ends)
      (shadowing_housed (room_of b) rm w (good b S) (large b S) s x o y n A.ends (live_bytes o y n A.live A.ends) (housed b S)) k
  perform_sound (zero_out o x n) e k =
      let A = zero_rows b o x n e in
      leave_sound b S _ (zeroing_kept w (good b S) (large b S) o x n A.ends)
      (zeroing_housed (room_of b) rm w (good b S) (large b S) o x n A.ends (live_bytes o x n A.live A.ends) (housed b S)) k
  perform_sound counts e k = S

-- ---- a new book

no_cell : (n f k i : ℕ) (x : List ℕ) → get_or (replicate n free) f free ≡ holds k i x → ⊥
no_cell n f k i x e =
    by-lt f n
    (λ l. free_holds k i x (sym (get_or-replicate n f free free l) ∙ e))
    (λ l. free_holds k i x (sym (get_or-eq_default (replicate n free) free (rw (length-replicate n free) l)) ∙ e))

pub empty_sound : (size frames pool : ℕ) → 4096 ≤ size → object_bytes / size * size ≡ object_bytes → 1 ≤ frames → frames ≤ 1024 → Sound (empty size frames pool)
unfolding empty Rising
empty_sound size frames pool large divides least most = record {
  large = large;
  divides = divides;
  least = least;
  most = most;
  cells = length-replicate frames free;
  names = length-replicate 32 false;
  count = zero-le;
  owned = λ r m. absurd (Memᴰ.not-nil m);
  order = tt;
  ends = λ r m. absurd (Memᴰ.not-nil m);
  indexes = λ r m. absurd (Memᴰ.not-nil m);
  numbered = λ r m. absurd (Memᴰ.not-nil m);
  windows = λ f k i x e. absurd (no_cell frames f k i x e);
  apart = λ f g k i x y d e. absurd (no_cell frames f k i x d);
  pages = λ f k i x e. absurd (no_cell frames f k i x e);
}

pub create_sound : (frames pool : ℕ) → Sound (create frames pool).book
unfolding create
create_sound frames pool =
    by-test (leb 1 frames && leb frames 1024)
    (λ t. rw t (empty_sound 4096 frames pool (le_refl 4096) refl (leb-true 1 frames (and_left _ _ t)) (leb-true frames 1024 (and_right (leb 1 frames) _ t))))
    (λ t. rw t (empty_sound 4096 1 pool (le_refl 4096) refl (le_refl 1) (omega arith)))
