-- THE FILE LAW: every call that is not refused makes of the files what File.antt says, and no other byte of any object changes.
use Rattle.std.specs.Prelude.{◌≡◌, true, false, ◌⊎◌, List, [], get_or, Option, Some, None}
use Rattle.std.proofs.Math.Path.{refl, ap}
use Rattle.std.proofs.Common.{sym, ◌∙◌, arith, eqb-true, mod-lt, zero-mul}
use Rattle.std.proofs.lemmas.Bool.{false≢true}
use Prim.Native.Nat.{ℕ, suc, ◌+◌, ◌-◌, ◌*◌, ◌/◌, ◌%◌, ◌≤◌, ◌<◌, zero-le}
use Rattle.std.proofs.Math.ListN.{length}
use Rattle.std.proofs.lemmas.List.{get_or-replicate}
use Rattle.std.proofs.Math.Nat.{mul-le-mul_left}
use Rattle.lists.specs.Test.{by-test, by-eq}
use Rattle.ranges.specs.Range.{Slot, line, slot_at}
use Rattle.ranges.specs.Find.{Found, found}
use Rattle.book.specs.Page.{object_bytes}
use Rattle.book.specs.Work.{Work, page_of, seen, add_page}
use Rattle.book.specs.Bytes.{byte_at, reading, writing}
use Rattle.book.specs.Pages.{uncover}
use Rattle.book.specs.Copy.{copying, shadowing, zeroing, equal_places}
use Rattle.book.specs.Need.{counted}
use Rattle.book.specs.Book.{Book, Call, Answer, new_object, drop_object, add, look_up, show, read, write, copy, shadow, zero_out, counts, bytes, lowest, entry, leave, set_live, perform, table, in_use, step, shown}
use Rattle.book.specs.File.{file_at, Effect, effect, file_after, skipped}
use Rattle.book.specs.Sound.{Sound}
use Rattle.laws.specs.State.{Good}
use Rattle.laws.specs.Kept.{here, copying_kept, shadowing_kept, writing_kept, zeroing_kept, add_kept}
use Rattle.laws.specs.Accepted.{Accepted, accepted_step, add_rows, new_rows, refused_step, shadow_rows, write_rows, zero_rows, copy_rows}
use Rattle.laws.specs.Sound.{good, large, pages_few}
use Rattle.laws.specs.Cap.{free_count_lem, counted_is}
use Rattle.laws.specs.Reading.{reading_length, reading_byte}
use Rattle.laws.specs.Rewrites.{Rewrites, rewrites_none, rewritten, rewrites_top, rewrites_cast}
use Rattle.laws.specs.Spans.{page_in}
use Rattle.laws.specs.Copying.{copied_byte, equal_copied}
use Rattle.laws.specs.Zeroed.{uncover_size, add_zeros, uncover_zeros}
use Rattle.laws.specs.Copied.{bytes_copied, shadowing_copied}
use Rattle.laws.specs.Writing.{writing_rewrites}
use Rattle.laws.specs.Zeroing.{zeroing_zeros}

-- ---- what a call's work leaves, as a book

-- it reads as the work's state does
leave_file : (b : Book) (w : Work) → w.size ≡ b.size → (o x : ℕ) → file_at (leave b w) o x ≡ byte_at o x w
unfolding byte_at entry page_of
leave_file b w e o x = ap (λ z. get_or (seen z (page_of (line o (x / z)) w)) (x % z) 0) (sym e)

leave_rewrites : (b : Book) (o a e : ℕ) (f : ℕ → ℕ) (v : Work) → v.size ≡ (entry b).size → Rewrites o a e f (entry b) v → Rewrites o a e f (entry b) (entry (leave b v))
unfolding entry
leave_rewrites b o a e f v s A = record {
  within = λ y l m. leave_file b v s o y ∙ A.within y l m;
  outside = λ o' y h c. leave_file b v s o' y ∙ A.outside o' y h c;
}

-- frames free and in use are all frames
pub all_frames : (b : Book) → length (entry b).spare + in_use (entry b).cells ≡ length (entry b).cells
unfolding entry
all_frames b = omega (arith, free_count_lem 0 [] b.cells)

-- from the book before a call to a state v, the files change as File.antt says of the call
abbrev pub Effects : Book → Call → Work → Type 0
Effects b c v = let e : Effect = effect b c in Rewrites e.object e.first e.past e.value (entry b) v

-- n bytes from x of object o, as an answer
pub record Read (b : Book) (o x n : ℕ) (a : Answer) : Type 0 where
  pub got : List ℕ
  pub is : a ≡ bytes got
  pub long : length got ≡ n
  pub byte : (j : ℕ) → j < n → get_or got j 0 ≡ file_at b o (x + j)

-- ---- each call, as a change of files

module _ (b : Book) (S : Sound b) where
  abbrev w : Work
  w = entry b

  G : Good w
  G = good b S

  hs : 4096 ≤ w.size
  hs = large b S

  -- an object that is not live has no ranges
  pub bare : (o p : ℕ) → get_or b.live o false ≡ false → p < 262144 → slot_at (line o p) b.ranges ≡ None
  bare o p e h = go (slot_at (line o p) b.ranges) refl
    where
      go : (t : Option Slot) → slot_at (line o p) b.ranges ≡ t → t ≡ None
      go None k = refl
      go (Some s) k =
          let F : Found (line o p) b.ranges s = found (line o p) b.ranges s k in
          let l : F.r.start + F.r.len ≤ 262144 = omega (arith, S.ends F.r F.mem, pages_few b S) in
          let z : F.r.object ≡ o = omega (arith, F.low, F.high) in
          absurd (false≢true (sym e ∙ ap (λ m. get_or b.live m false) (sym z) ∙ S.owned F.r F.mem))

  -- and reads as zeros
  bare_zeros : (o : ℕ) → get_or b.live o false ≡ false → (y : ℕ) → y < object_bytes → byte_at o y w ≡ 0
  unfolding byte_at entry page_of
  bare_zeros o e y h =
      rw (bare o (y / b.size) e (page_in b.size y 1 S.large (omega arith) (omega arith)))
      (get_or-replicate b.size (y % b.size) 0 0 (mod-lt y {m = b.size} (omega (arith, S.large))))

  new_effects : (o : ℕ) → Accepted b (new_object o) → Effects b (new_object o) (entry (set_live o true b))
  unfolding effect entry
  new_effects o e = record { within = λ y l m. bare_zeros o (new_rows b o e).1 y m; outside = λ o' y h c. refl }

  drop_effects : (o : ℕ) → Effects b (drop_object o) (entry (set_live o false (leave b (uncover o 0 262144 w))))
  unfolding effect
  drop_effects o =
      let big : 262144 * 4096 ≤ 262144 * w.size = mul-le-mul_left 262144 hs in
      unfold entry in leave_rewrites b o 0 object_bytes (λ _. 0) (uncover o 0 262144 w) (uncover_size o 0 262144 w)
      (rewrites_top o 0 ((0 + 262144) * w.size) (λ _. 0) w (uncover o 0 262144 w) (omega arith)
      (rewrites_cast o (0 * w.size) 0 ((0 + 262144) * w.size) ((0 + 262144) * w.size) (λ _. 0) w (uncover o 0 262144 w) (zero-mul w.size) refl
      (uncover_zeros o 0 262144 w hs (omega arith))))

  add_effects : (o p : ℕ) → Accepted b (add o p) → Effects b (add o p) (entry (leave b (add_page o p w)))
  unfolding effect
  add_effects o p e =
      let A = add_rows b o p e in
      let hp : p < 262144 = omega (arith, A.ends, pages_few b S) in
      leave_rewrites b o (p * b.size) (suc p * b.size) (λ _. 0) (add_page o p w) (add_kept o p w w hp (here w G hs)).size
      (unfold entry in add_zeros o p w G hs hp A.room.frames)

  write_effects : (o x : ℕ) (d : List ℕ) → Accepted b (write o x d) → Effects b (write o x d) (entry (leave b (writing o x d w)))
  unfolding effect
  write_effects o x d e =
      let A = write_rows b o x d e in
      let c : counted o x (length d) w ≤ length w.spare = A.room.frames in
      leave_rewrites b o x (x + length d) _ (writing o x d w) (writing_kept w G hs o x d w (here w G hs) A.ends).size
      (writing_rewrites o x d w G hs A.ends (rw (counted_is o x (length d) w G.whole (all_frames b) c) at c))

  zero_effects : (o x n : ℕ) → Accepted b (zero_out o x n) → Effects b (zero_out o x n) (entry (leave b (zeroing o x n w)))
  unfolding effect
  zero_effects o x n e =
      let A = zero_rows b o x n e in
      leave_rewrites b o x (x + n) (λ _. 0) (zeroing o x n w) (zeroing_kept w G hs o x n A.ends).size (zeroing_zeros o x n w G hs A.ends A.room.frames)

  module _ (s x o y n : ℕ) (e : Accepted b (copy s x o y n)) where
    -- at equal places, and at unequal ones
    equal_effects : equal_places w.size x y ≡ true → Rewrites o y (y + n) (λ z. copied_byte w s x o y n z) w (copying s x o y n w)
    unfolding copying
    equal_effects t =
        let A = copy_rows b s x o y n e in
        rw t (equal_copied s x o y n w G hs A.other A.begins A.ends (eqb-true (x % w.size) (y % w.size) t) (rw t at A.room.frames))

    unequal_effects : equal_places w.size x y ≡ false → Rewrites o y (y + n) (λ z. byte_at s (x + (z - y)) w) w (copying s x o y n w)
    unfolding copying
    unequal_effects t =
        let A = copy_rows b s x o y n e in
        let c : counted o y n w ≤ length w.spare = rw t at A.room.frames in
        rw t (bytes_copied s x o y n w w G hs (here w G hs) A.ends (rw (counted_is o y n w G.whole (all_frames b) c) at c))

    copy_effects : Effects b (copy s x o y n) (entry (leave b (copying s x o y n w)))
    unfolding effect entry skipped
    copy_effects =
        leave_rewrites b o y (y + n) _ (copying s x o y n w) (copying_kept w G hs s x o y n (copy_rows b s x o y n e).ends).size
        (by-test (equal_places w.size x y) (λ t. rw t (equal_effects t)) (λ t. rw t (unequal_effects t)))

  shadow_effects : (s x o y n : ℕ) → Accepted b (shadow s x o y n) → Effects b (shadow s x o y n) (entry (leave b (shadowing s x o y n w)))
  unfolding effect entry
  shadow_effects s x o y n e =
      let A = shadow_rows b s x o y n e in
      let C = A.copied in
      leave_rewrites b o _ _ _ (shadowing s x o y n w) (shadowing_kept w G hs s x o y n C.ends).size
      (shadowing_copied s x o y n w G hs C.other C.begins C.ends A.first A.whole)

  performs : (c : Call) → Accepted b c → Effects b c (entry (perform b c).book)
  unfolding perform
  performs (new_object o) e = new_effects o e
  performs (drop_object o) e = drop_effects o
  performs (add o p) e = add_effects o p e
  performs (look_up o p) e = unfold effect in rewrites_none 0 0 0 (λ _. 0) w w zero-le refl
  performs (show o p) e = unfold effect in rewrites_none 0 0 0 (λ _. 0) w w zero-le refl
  performs (read o x n) e = unfold effect in rewrites_none 0 0 0 (λ _. 0) w w zero-le refl
  performs (write o x d) e = write_effects o x d e
  performs (copy s x o y n) e = copy_effects s x o y n e
  performs (shadow s x o y n) e = shadow_effects s x o y n e
  performs (zero_out o x n) e = zero_effects o x n e
  performs counts e = unfold effect in rewrites_none 0 0 0 (λ _. 0) w w zero-le refl

  effects : (c : Call) → Accepted b c → Effects b c (entry (step b c).book)
  effects c e = rw (accepted_step b c e) (performs c e)

  -- THE FILE LAW: after a call that is not refused every byte of every object is what File.antt says
  pub file_law : (c : Call) → Accepted b c → (o y : ℕ) → y < object_bytes → file_at (step b c).book o y ≡ file_after b c o y
  unfolding file_after
  file_law c e o y h =
      let f : Effect = effect b c in
      rewritten f.object f.first f.past f.value w (entry (step b c).book) (effects c e) o y h

  -- every byte outside the span that the call changes stays
  pub untouched : (c : Call) → Accepted b c → (o y : ℕ) → y < object_bytes → (o ≡ (effect b c).object → (y < (effect b c).first) ⊎ ((effect b c).past ≤ y))
      → file_at (step b c).book o y ≡ file_at b o y
  untouched c e o y h d = (effects c e).outside o y h d

  -- ISOLATION: a call, refused or not, changes no byte of any object but the one that it works on (of a copy, its destination)
  pub isolation : (c : Call) (o y : ℕ) → (o ≡ (effect b c).object → ⊥) → y < object_bytes → file_at (step b c).book o y ≡ file_at b o y
  isolation c o y ne h =
      by-eq (lowest (table b c)) 0
      (λ e. untouched c e o y h (λ z. absurd (ne z)))
      (λ e. ap (λ d. file_at d.book o y) (refused_step b c e))

  -- A READ that is not refused answers as many bytes as asked for, and they are the file's
  pub read_law : (o x n : ℕ) → Accepted b (read o x n) → Read b o x n (step b (read o x n)).answer
  unfolding perform
  read_law o x n e = record {
    got = reading o x n w;
    is = ap (λ d. d.answer) (accepted_step b (read o x n) e);
    long = reading_length w (omega (arith, hs)) G.fits o x n;
    byte = λ j l. reading_byte w (omega (arith, hs)) G.fits o x n j l;
  }

  -- A PAGE SHOWN is its bytes, or the empty part if it is absent; and it is shown where the page is present
  pub show_law : (o p : ℕ) → Accepted b (show o p) → (step b (show o p)).answer ≡ bytes (shown (page_of (line o p) w))
  unfolding perform
  show_law o p e = ap (λ d. d.answer) (accepted_step b (show o p) e)
