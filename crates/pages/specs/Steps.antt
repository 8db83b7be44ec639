-- THE PAGE STEPS: what the code does to store and pool is the book's step.
use Rattle.std.specs.Prelude.{◌≡◌, true, false, List, take, replicate, Some, None}
use Rattle.std.proofs.Math.Path.{refl, ap, sym}
use Rattle.std.proofs.Common.{subst, ◌∙◌, le_refl, arith, take_all}
use Prim.Native.Nat.{ℕ, ◌+◌, ◌*◌, ◌/◌, ◌%◌, ◌≤◌, ◌<◌}
use Rattle.std.proofs.Math.ListN.{length}
use Rattle.std.proofs.lemmas.List.{length-replicate}
use Rattle.std.proofs.Math.Seq.{length-take-le, paste, take-length}
use Rattle.store.specs.declared.Store.{Store}
use Rattle.pages.specs.declared.Spot.{Spot}
use Rattle.ranges.specs.Range.{line, slot_at}
use Rattle.book.specs.Page.{over}
use Rattle.book.specs.Work.{Work, is_shared, settle, own, page_of, add_page, writable, edited, write_page}
use Rattle.laws.specs.State.{Good, Apart}
use Rattle.laws.specs.Kept.{here, add_kept, made_kept, page_kept, over_keeps}
use Rattle.table.specs.Table.{range_of, ranges_of}
use Rattle.frames.specs.Free.{highest_below, spare_of}
use Rattle.places.specs.Places.{place_at}
use Rattle.pool.specs.Bytes.{frame_at, filled, frame_zeroed, frame_copied}
use Rattle.pool.specs.Frames.{frames_apart, zeroed_frame, zeroed_other, zeroed_length, copied_frame, copied_other, copied_length, paste_other, paste_length}
use Rattle.store.specs.Abs.{used}
use Rattle.store.specs.Edits.{slot, write_edit}
use Rattle.store.specs.Located.{only_apart}
use Rattle.store.specs.Spare.{work_of}
use Rattle.pages.specs.Any.{inside_any}
use Rattle.pages.specs.Inside.{Inside, Stepped, Wrote, inside_table}
use Rattle.pages.specs.Spot.{own_spot, spot_of}
use Rattle.pages.specs.Settling.{Placed, Lodged, frame_below, settled_work, settled_inside, settled_has}
use Rattle.pages.specs.Added.{own_lodged, spot_lodged, spot_adds}
use Rattle.pages.specs.Present.{Present, absent_added, shared_copied, private_stays}

-- a frame of the store lies in the pool
pub frame_inside : (s : Store) (x : List ℕ) → Inside s x → (f : ℕ) → f < s.frames → f * 4096 + 4096 ≤ length x
frame_inside s x I f l = omega (arith, frames_apart 4096 f s.frames l, I.pool)

-- the work's pages are of 4,096 bytes
pub size_is : (s : Store) (x : List ℕ) → 4096 ≤ (work_of s x).size
unfolding work_of
size_is s x = le_refl 4096

module _ (s : Store) (x : List ℕ) (I : Inside s x) (o p : ℕ) (hp : p < 262144) where
  abbrev w : Work
  w = work_of s x

  -- the book's work stays good
  added_good : Good (add_page o p w)
  added_good = (add_kept o p w w hp (here w I.good (size_is s x))).good

  made_good : Good (writable o p w)
  made_good = (made_kept o p w w hp (here w I.good (size_is s x))).good

  -- a page settled at a spot, with the bytes z
  settled_stepped : (q : Spot) → Lodged s o p q → (f : ℕ) → highest_below s.free 1024 ≡ Some f → (t : Store) → Placed s q f t → (y z : List ℕ) → length y ≡ length x
      → ((k : ℕ) → (k ≡ f → ⊥) → frame_at 4096 y k ≡ frame_at 4096 x k) → frame_at 4096 y f ≡ z
      → (v : Work) → settle (range_of q.range) q.index z w ≡ v → Good v → Stepped s x o p v t y f
  settled_stepped q L f hf t P y z l e h v c G =
      let k : work_of t y ≡ v = settled_work s x I f hf o p q L t P y z e h ∙ c in
      record {
        work = k;
        inside = settled_inside s x I f hf o p q L t P y l (subst (λ (u : Work). Good u) (sym k) G);
        frames = P.frames;
        live = P.live;
        has = settled_has s x I f hf o p q L t P;
        others = e;
      }

  module _ (f : ℕ) (hf : highest_below s.free 1024 ≡ Some f) (t : Store) (y : List ℕ) where
    inside : f * 4096 + 4096 ≤ length x
    inside = frame_inside s x I f (frame_below s x I f hf)

    -- A PAGE ADDED
    pub add_stepped : Placed s (spot_of s o p) f t → y ≡ frame_zeroed 4096 x f → Stepped s x o p (add_page o p w) t y f
    unfolding work_of
    add_stepped P e =
        settled_stepped (spot_of s o p) (spot_lodged s x I o p hp) f hf t P y (replicate 4096 0)
        (ap length e ∙ zeroed_length 4096 x f inside)
        (λ k ne. ap (λ u. frame_at 4096 u k) e ∙ zeroed_other 4096 x f inside k ne)
        (ap (λ u. frame_at 4096 u f) e ∙ zeroed_frame 4096 x f inside)
        (add_page o p w) (sym (spot_adds s o p w refl (inside_table s x I))) added_good

    -- A SHARED PAGE COPIED
    pub copy_stepped : (g : ℕ) → Present s x o p g → is_shared (place_at s.places g).backing (ranges_of (used s)) ≡ true → Placed s (own_spot s o p) f t
        → y ≡ frame_copied 4096 x f g → Stepped s x o p (writable o p w) t y f
    unfolding work_of own
    copy_stepped g H h P e =
        let source = frame_inside s x I g H.has.below in
        let c = shared_copied o p w (slot (place_at s.places g).backing (place_at s.places g).index) (frame_at 4096 x g) H.has.slot H.page h in
        settled_stepped (own_spot s o p) (own_lodged s x I o p hp) f hf t P y (frame_at 4096 x g)
        (ap length e ∙ copied_length 4096 x f g inside source)
        (λ k ne. ap (λ u. frame_at 4096 u k) e ∙ copied_other 4096 x f g inside source k ne)
        (ap (λ u. frame_at 4096 u f) e ∙ copied_frame 4096 x f g inside source)
        (writable o p w) (sym c.0) made_good

  -- AN ABSENT PAGE made writable is added
  pub absent_stepped : page_of (line o p) w ≡ None → (t : Store) (y : List ℕ) (f : ℕ) → Stepped s x o p (add_page o p w) t y f → Stepped s x o p (writable o p w) t y f
  absent_stepped e t y f S = subst (λ (v : Work). Stepped s x o p v t y f) (sym (absent_added o p w e).0) S

  -- A PRIVATE PAGE stays as it is
  pub stay_stepped : (f : ℕ) → Present s x o p f → is_shared (place_at s.places f).backing (ranges_of (used s)) ≡ false → Stepped s x o p (writable o p w) s x f
  unfolding work_of
  stay_stepped f H h = record {
    work = sym (private_stays o p w (slot (place_at s.places f).backing (place_at s.places f).index) (frame_at 4096 x f) H.has.slot H.page h);
    inside = I;
    frames = refl;
    live = refl;
    has = H.has;
    others = λ k ne. refl;
  }

  -- ---- bytes written to the page

  module _ (t : Store) (y : List ℕ) (f : ℕ) (S : Stepped s x o p (writable o p w) t y f) (k : ℕ) (d : List ℕ) (m : ℕ) (fits : k + m ≤ 4096) (enough : m ≤ length d) where
    abbrev z : List ℕ
    z = paste y (f * 4096 + k) d m

    within : f * 4096 + 4096 ≤ length y
    within = frame_inside t y S.inside f S.has.below

    cells_edited : work_of t z ≡ edited (slot_at (line o p) (work_of t y).ranges) (over k (take m d)) (work_of t y)
    unfolding work_of Apart
    cells_edited =
        let b : ℕ = (place_at t.places f).backing in
        let i : ℕ = (place_at t.places f).index in
        let O = only_apart 4096 t.frames t.places y f b i S.inside.good.apart S.has.below S.has.held refl refl in
        rw S.has.slot
        (ap (λ c. record { size = 4096; ranges = ranges_of (used t); cells = c; spare = spare_of t.free 1024 })
        (write_edit 4096 t.frames t.places y f k d m within fits enough b i O))

    written : work_of t z ≡ write_page o p (over k (take m d)) w
    unfolding write_page
    written = cells_edited ∙ ap (λ v. edited (slot_at (line o p) v.ranges) (over k (take m d)) v) S.work

    written_good : Good (write_page o p (over k (take m d)) w)
    unfolding work_of
    written_good =
        let l : length (take m d) ≡ m = length-take-le m d enough in
        (page_kept o p w w hp (here w I.good (size_is s x)) (over k (take m d)) (over_keeps 4096 k (take m d) (omega arith))).good

    -- A PAGE WRITTEN
    pub write_stepped : Stepped s x o p (write_page o p (over k (take m d)) w) t z f
    write_stepped = record {
      work = written;
      inside = record {
        sized = S.inside.sized;
        few_frames = S.inside.few_frames;
        few_ranges = S.inside.few_ranges;
        pool = paste_length 4096 y f k d m within fits enough ∙ S.inside.pool;
        good = subst (λ (u : Work). Good u) (sym written) written_good;
        kinds = S.inside.kinds;
        agree = S.inside.agree;
        rest_ranges = S.inside.rest_ranges;
        rest_places = S.inside.rest_places;
      };
      frames = S.frames;
      live = S.live;
      has = S.has;
      others = λ j ne. paste_other 4096 y f k d m within fits enough j ne ∙ S.others j ne;
    }

-- between the two halves of a step, the store changed and the pool not yet, it is inside the call too: the bytes do not matter
pub added_inside : (s : Store) (x : List ℕ) → Inside s x → (o p : ℕ) → p < 262144 → (f : ℕ) → highest_below s.free 1024 ≡ Some f → (t : Store) → Placed s (spot_of s o p) f t
    → Inside t x
added_inside s x I o p hp f hf t P =
    let S = add_stepped s x I o p hp f hf t (frame_zeroed 4096 x f) P refl in
    inside_any t (frame_zeroed 4096 x f) S.inside x (sym (zeroed_length 4096 x f (frame_inside s x I f (frame_below s x I f hf))))

pub copied_inside : (s : Store) (x : List ℕ) → Inside s x → (o p : ℕ) → p < 262144 → (f : ℕ) → highest_below s.free 1024 ≡ Some f → (t : Store) → (g : ℕ) → Present s x o p g
    → is_shared (place_at s.places g).backing (ranges_of (used s)) ≡ true → Placed s (own_spot s o p) f t → Inside t x
copied_inside s x I o p hp f hf t g H h P =
    let S = copy_stepped s x I o p hp f hf t (frame_copied 4096 x f g) g H h P refl in
    inside_any t (frame_copied 4096 x f g) S.inside x (sym (copied_length 4096 x f g (frame_inside s x I f (frame_below s x I f hf)) (frame_inside s x I g H.has.below)))

-- bytes written to a page from place k of it on
pub bytes_wrote : (s : Store) (x : List ℕ) → Inside s x → (o p : ℕ) → p < 262144 → (t : Store) (y : List ℕ) (f : ℕ) → Stepped s x o p (writable o p (work_of s x)) t y f
    → (k : ℕ) (d : List ℕ) → k + length d ≤ 4096 → (z : List ℕ) → z ≡ paste y (f * 4096 + k) d (length d) → Wrote s x o p (over k d) t z
bytes_wrote s x I o p hp t y f S k d fits z q =
    let A : Stepped s x o p (write_page o p (over k (take (length d) d)) (work_of s x)) t (paste y (f * 4096 + k) d (length d)) f =
    write_stepped s x I o p hp t y f S k d (length d) fits (le_refl (length d)) in
    let B = subst (λ (u : List ℕ). Stepped s x o p (write_page o p (over k u) (work_of s x)) t (paste y (f * 4096 + k) d (length d)) f) (take-length d) A in
    record { frame = f; step = subst (λ (u : List ℕ). Stepped s x o p (write_page o p (over k d) (work_of s x)) t u f) (sym q) B }

-- bytes written to the page that an offset lies in
pub write_wrote : (s : Store) (x : List ℕ) → Inside s x → (o off : ℕ) → off < 1073741824 → (p k : ℕ) → p ≡ off / 4096 → k ≡ off % 4096 → (t : Store) (y : List ℕ) (f : ℕ)
    → Stepped s x o p (writable o p (work_of s x)) t y f → (d : List ℕ) (m : ℕ) → off % 4096 + m ≤ 4096 → m ≤ length d → (z : List ℕ) → z ≡ paste y (f * 4096 + k) d m
    → Wrote s x o (off / 4096) (over (off % 4096) (take m d)) t z
write_wrote s x I o off h p k e g t y f S d m fits enough z q =
    let R : Stepped s x o (off / 4096) (writable o (off / 4096) (work_of s x)) t y f = subst (λ j. Stepped s x o j (writable o j (work_of s x)) t y f) e S in
    let r : z ≡ paste y (f * 4096 + off % 4096) d m = q ∙ ap (λ j. paste y (f * 4096 + j) d m) g in
    record {
      frame = f;
      step = rw r (write_stepped s x I o (off / 4096) (omega arith) t y f R (off % 4096) d m fits enough);
    }

-- and zeros
pub clear_wrote : (s : Store) (x : List ℕ) → Inside s x → (o off : ℕ) → off < 1073741824 → (p k : ℕ) → p ≡ off / 4096 → k ≡ off % 4096 → (t : Store) (y : List ℕ) (f : ℕ)
    → Stepped s x o p (writable o p (work_of s x)) t y f → (n : ℕ) → off % 4096 + n ≤ 4096 → (z : List ℕ) → z ≡ filled y (f * 4096 + k) n 0
    → Wrote s x o (off / 4096) (over (off % 4096) (replicate n 0)) t z
unfolding filled
clear_wrote s x I o off h p k e g t y f S n fits z q =
    let l : length (replicate {A = ℕ} n 0) ≡ n = length-replicate n 0 in
    rw (take_all {A = ℕ} n (replicate n 0) (omega arith)) at (write_wrote s x I o off h p k e g t y f S (replicate n 0) n fits (omega arith) z q)
