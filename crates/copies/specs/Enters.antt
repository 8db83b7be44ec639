-- What a copy or a zeroing that is not refused has, and what it has done once its work is the book's.
use Rattle.std.specs.Prelude.{◌≡◌, List, length}
use Rattle.std.proofs.Math.Path.{refl, ap}
use Rattle.std.proofs.Common.{◌∙◌}
use Rattle.std.proofs.Math.Bool.{true, false}
use Prim.Native.Nat.{ℕ, ◌+◌, ◌*◌, ◌/◌, ◌%◌, ◌≤◌, min}
use Rattle.std.proofs.Math.Nat.{le_refl, add-zero}
use native.Mathlib.Omega.{arith}
use borrow.Author.Tests.{eq-eqb, ne_eqb}
use Rattle.store.specs.declared.Store.{Store}
use Rattle.book.specs.Page.{span_of}
use Rattle.ranges.specs.Range.{line}
use Rattle.book.specs.Work.{Work}
use Rattle.book.specs.Bytes.{reading}
use Rattle.book.specs.Pages.{sharing, met}
use Rattle.book.specs.Copy.{equal_places, copy_equal, copying, shadowing, zeroing}
use Rattle.book.specs.Need.{state_of, common, wants, counted, counted_parts, need_whole, need_zero, need_copy, need_shadow}
use Rattle.book.specs.Book.{Call, copy, shadow, zero_out, done, table, entry, leave, perform}
use Rattle.laws.specs.Bounds.{span_whole}
use Rattle.laws.specs.Accepted.{zero_rows, copy_rows, shadow_rows}
use Rattle.places.specs.Places.{FreeMap}
use Rattle.store.specs.Abs.{book_of}
use Rattle.store.specs.Sound.{Sized}
use Rattle.store.specs.Spare.{work_of, entry_work}
use Rattle.refusals.specs.Refuse.{refusal}
use Rattle.calls.specs.Kept.{with_sound, with_accepted}
use Rattle.calls.specs.With.{DidWith}
use Rattle.pages.specs.Inside.{Inside}
use Rattle.pages.specs.Any.{zeros}
use Rattle.pages.specs.Enter.{enter, closed}
use Rattle.shares.specs.Reranged.{Reranged}
use Rattle.copies.specs.Parts.{reranged_part}
use Rattle.pages.specs.Any.{inside_zeros}
use Rattle.writes.specs.Written as writes
use Rattle.writes.specs.Parts.{written_part}
use Rattle.access.specs.Enters.{spare_count, range_count, want_count}
use Rattle.access.specs.Finish.{finish, pool_length, goes_pool}
use Rattle.copies.specs.Room.{ZeroRoom, EqualRoom, Worked}

module _ (s : Store) (x : List ℕ) (Z : Sized s) where
  -- a call whose work is done
  worked_done : (c : Call) → 0 ≡ refusal s x c → length x ≡ s.frames * 4096 → (f : Work → Work)
      → perform (book_of s x) c ≡ record { answer = done; book = leave (book_of s x) (f (entry (book_of s x))) }
      → (t : Store) (y : List ℕ) → Worked s x (f (work_of s x)) t y → (m : List ℕ) → FreeMap t.frames t.places m → DidWith c s x 0 done (closed t m) y
  worked_done c r l f e t y W m M =
      let P = W.part in
      let q : perform (book_of s x) c ≡ record { answer = done; book = leave (book_of s x) (f (work_of s x)) } =
      e ∙ ap (λ u. record { answer = done; book = leave (book_of s x) (f u) }) (entry_work s Z (with_sound c s x r) x) in
      finish c s x Z r l done (f (work_of s x)) q t y P.work P.inside P.frames P.live m M
      (goes_pool s x Z W.first W.past t y P.goes P.inside P.frames l)

  module _ (o off n : ℕ) (r : 0 ≡ refusal s x (zero_out o off n)) where
    zero_length : length x ≡ s.frames * 4096
    unfolding table
    zero_length = pool_length (zero_out o off n) s x r _ refl

    -- zeroing has room
    pub zero_enters : ZeroRoom s x o off n
    unfolding work_of
    zero_enters =
        let S = with_sound (zero_out o off n) s x r in
        let A = zero_rows (book_of s x) o off n (with_accepted (zero_out o off n) s x r) in
        let f : (need_zero o off n (entry (book_of s x))).frames ≡ counted_parts (λ q. common (state_of o q (work_of s x))) 4096 off n =
        ap (λ (w : Work). (need_zero o off n w).frames) (entry_work s Z S x) in
        let k : (need_zero o off n (entry (book_of s x))).slots ≡ 2 * counted_parts (λ q. common (state_of o q (work_of s x))) 4096 off n + min 1 (span_of 4096 off n).whole =
        ap (λ (w : Work). (need_zero o off n w).slots) (entry_work s Z S x) in
        record {
          inside = enter s Z S x zero_length;
          ends = A.ends;
          frames = omega (arith, f, spare_count s x Z S, A.room.frames);
          slots = omega (arith, k, range_count s x Z S, A.room.slots);
        }

    pub zero_done : (t : Store) (y : List ℕ) → Worked s x (zeroing o off n (work_of s x)) t y → (m : List ℕ) → FreeMap t.frames t.places m
        → DidWith (zero_out o off n) s x 0 done (closed t m) y
    unfolding perform
    zero_done t y W m M = worked_done (zero_out o off n) r zero_length (zeroing o off n) refl t y W m M

  module _ (src xo o yo n : ℕ) (r : 0 ≡ refusal s x (copy src xo o yo n)) where
    copy_length : length x ≡ s.frames * 4096
    unfolding table
    copy_length = pool_length (copy src xo o yo n) s x r _ refl

    -- a copy at equal places has room
    pub equal_enters : xo % 4096 ≡ yo % 4096 → EqualRoom s x src xo o yo n
    unfolding work_of need_whole
    equal_enters even =
        let S = with_sound (copy src xo o yo n) s x r in
        let A = copy_rows (book_of s x) src xo o yo n (with_accepted (copy src xo o yo n) s x r) in
        let z : equal_places 4096 xo yo ≡ true = eq-eqb (xo % 4096) (yo % 4096) even in
        let f : (need_copy src xo o yo n (entry (book_of s x))).frames ≡ counted_parts (λ q. wants o q (work_of s x)) 4096 yo n =
        ap (λ (w : Work). (need_copy src xo o yo n w).frames) (entry_work s Z S x) ∙ rw z in
        let k : (need_copy src xo o yo n (entry (book_of s x))).slots
        ≡ 2 * counted_parts (λ q. wants o q (work_of s x)) 4096 yo n + 2 * met src ((xo + (span_of 4096 xo n).head) / 4096) (span_of 4096 xo n).whole (work_of s x) =
        ap (λ (w : Work). (need_copy src xo o yo n w).slots) (entry_work s Z S x) ∙ rw z in
        record {
          inside = enter s Z S x copy_length;
          begins = A.begins;
          ends = A.ends;
          other = A.other;
          even = even;
          frames = omega (arith, f, spare_count s x Z S, A.room.frames);
          slots = omega (arith, k, range_count s x Z S, A.room.slots);
        }

    -- and so has one at unequal places, as a write
    pub bytes_enters : (xo % 4096 ≡ yo % 4096 → ⊥) → writes.Room s x o yo n × (src ≡ o → ⊥) × (xo + n ≤ 1073741824)
    unfolding work_of
    bytes_enters uneven =
        let S = with_sound (copy src xo o yo n) s x r in
        let A = copy_rows (book_of s x) src xo o yo n (with_accepted (copy src xo o yo n) s x r) in
        let z : equal_places 4096 xo yo ≡ false = ne_eqb (xo % 4096) (yo % 4096) uneven in
        let f : (need_copy src xo o yo n (entry (book_of s x))).frames ≡ counted o yo n (work_of s x) =
        ap (λ (w : Work). (need_copy src xo o yo n w).frames) (entry_work s Z S x) ∙ rw z in
        let k : (need_copy src xo o yo n (entry (book_of s x))).slots ≡ 2 * counted o yo n (work_of s x) + 0 =
        ap (λ (w : Work). (need_copy src xo o yo n w).slots) (entry_work s Z S x) ∙ rw z in
        let g : counted o yo n (entry (book_of s x)) ≡ counted o yo n (work_of s x) = ap (λ (w : Work). counted o yo n w) (entry_work s Z S x) in
        let e = want_count s x Z o yo n S copy_length (omega (arith, A.room.frames)) in (
          record {
            inside = enter s Z S x copy_length;
            ends = A.ends;
            spare = omega (arith, spare_count s x Z S, A.room.frames);
            slots = omega (arith, range_count s x Z S, A.room.slots);
          },
          A.other,
          A.begins,
        )

    pub copy_done : (t : Store) (y : List ℕ) → Worked s x (copying src xo o yo n (work_of s x)) t y → (m : List ℕ) → FreeMap t.frames t.places m
        → DidWith (copy src xo o yo n) s x 0 done (closed t m) y
    unfolding perform
    copy_done t y W m M = worked_done (copy src xo o yo n) r copy_length (copying src xo o yo n) refl t y W m M

-- a copy is one or the other
module _ (s : Store) (x : List ℕ) (src xo o yo n : ℕ) where
  pub copy_even : xo % 4096 ≡ yo % 4096 → (t : Store) (y : List ℕ) → Worked s x (copy_equal src xo o yo n (work_of s x)) t y → Worked s x (copying src xo o yo n (work_of s x)) t y
  unfolding copying work_of
  copy_even e t y W = rw (eq-eqb (xo % 4096) (yo % 4096) e) W

  pub copy_uneven : (xo % 4096 ≡ yo % 4096 → ⊥) → (t : Store) (y : List ℕ) → writes.Written s x o yo (reading src xo n (work_of s x)) t y
      → Worked s x (copying src xo o yo n (work_of s x)) t y
  unfolding copying work_of
  copy_uneven e t y W =
      rw (ne_eqb (xo % 4096) (yo % 4096) e)
      (record { first = line o (yo / 4096); past = _; part = written_part s t x y o yo (reading src xo n (work_of s x)) W (line o (yo / 4096)) (λ k. le_refl _) })

-- ---- a shadow copy

module _ (s : Store) (x : List ℕ) (Z : Sized s) (src xo o yo n : ℕ) (r : 0 ≡ refusal s x (shadow src xo o yo n)) where
  shadow_length : length x ≡ s.frames * 4096
  unfolding table
  shadow_length = pool_length (shadow src xo o yo n) s x r _ refl

  shadow_inside : Inside s x
  shadow_inside = enter s Z (with_sound (shadow src xo o yo n) s x r) x shadow_length

  -- its whole pages are the span's
  whole_met : xo % 4096 ≡ 0 → need_whole src xo n (work_of s x) ≡ 2 * met src (xo / 4096) (n / 4096) (work_of s x)
  unfolding need_whole work_of
  whole_met e = rw (span_whole 4096 xo n e, add-zero xo)

  -- it has room
  pub shadow_enters : Inside s (zeros s) × (src ≡ o → ⊥) × (xo / 4096 + n / 4096 ≤ 262144) × (yo / 4096 + n / 4096 ≤ 262144)
      × (s.count + 2 * met src (xo / 4096) (n / 4096) (work_of s (zeros s)) ≤ 512)
  unfolding work_of book_of
  shadow_enters =
      let S = with_sound (shadow src xo o yo n) s x r in
      let A = shadow_rows (book_of s x) src xo o yo n (with_accepted (shadow src xo o yo n) s x r) in
      let C = A.copied in
      let k : (need_shadow src xo n (entry (book_of s x))).slots ≡ need_whole src xo n (work_of s x) = ap (λ (w : Work). (need_shadow src xo n w).slots) (entry_work s Z S x) ∙ omega arith in
      let f : xo % 4096 ≡ 0 = A.first in
      let g : met src (xo / 4096) (n / 4096) (work_of s (zeros s)) ≡ met src (xo / 4096) (n / 4096) (work_of s x) = unfold met in refl in (
        inside_zeros s x shadow_inside,
        C.other,
        omega (arith, C.begins),
        omega (arith, C.ends),
        omega (arith, k, whole_met f, g, range_count s x Z S, C.room.slots),
      )

  pub shadow_done : (t : Store) → ((y : List ℕ) → Inside s y → Reranged s y (sharing src (xo / 4096) o (yo / 4096) (n / 4096) (work_of s y)) (line o (yo / 4096)) t)
      → (m : List ℕ) → FreeMap t.frames t.places m → DidWith (shadow src xo o yo n) s x 0 done (closed t m) x
  unfolding perform shadowing work_of
  shadow_done t U m M =
      worked_done s x Z (shadow src xo o yo n) r shadow_length (shadowing src xo o yo n) refl t x
      (record { first = line o (yo / 4096); past = line o (yo / 4096); part = reranged_part s t x _ (line o (yo / 4096)) (line o (yo / 4096)) (le_refl _) (U x shadow_inside) }) m M
