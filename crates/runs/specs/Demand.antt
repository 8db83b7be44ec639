-- DEMAND 3, as one claim about every list of calls. Every beginning of a run is a run, so the claim holds after each call of the list.
use Rattle.std.specs.Prelude.{◌≡◌, refl, true, List, ℕ, ◌+◌, ◌/◌, ◌≤◌, ◌<◌, length}
use Rattle.std.proofs.Common.{ap, sym, ◌∙◌, arith}
use Rattle.std.proofs.Math.Path.{subst}
use Rattle.std.proofs.Math.Bool.{false}
use Rattle.store.specs.declared.Store.{Store}
use Rattle.book.specs.Page.{touched}
use Rattle.book.specs.Copy.{equal_places}
use Rattle.book.specs.Need.{state_of, wanted}
use Rattle.book.specs.Book.{Book, Call, write, copy, zero_out, counts, Answer, refused, numbers, entry, in_use, lowest, table, perform, step, answers, after, created, frame_of, free_frames, pools}
use Rattle.book.specs.File.{file_at}
use Rattle.book.specs.Needed.{needed}
use Rattle.book.specs.Sound as book
use Rattle.laws.specs.Bounds.{step_bounded, copy_two, zero_two, reached_sound}
use Rattle.laws.specs.NoFrame.{below, no_frame_answer}
use Rattle.laws.specs.Used.{Frames, frames as frames-law}
use Rattle.frames.specs.Free.{spare_of}
use Rattle.table.specs.Table.{ranges_of}
use Rattle.store.specs.Abs.{used, live_of, book_of}
use Rattle.store.specs.Sound.{sound?}
use Rattle.store.specs.Iff.{sound_says}
use Rattle.store.specs.Spare.{sound_spare}
use Rattle.runs.specs.Called.{Started, begun}
use Rattle.runs.specs.Runs.{Ran, AsBook, list_law}

-- the call raises the number of frames in use by at most k
abbrev pub RaisesBy : Book → Call → ℕ → Type 0
RaisesBy b c k = in_use (step b c).book.cells ≤ in_use b.cells + k

-- 01's rule for "no frame": no lower number of the table applies, and fewer frames are free than the call needs
abbrev pub TooFew : Book → Call → Type 0
TooFew b c = (lowest (below 8 (table b c)) ≡ 0) × (length (free_frames b) < needed b c)

-- The frames asked for, the pool's bytes when the store was created, and the calls.
module _ (frames : ℕ) (x : List ℕ) (cs : List Call) where
  -- 01's run book after the calls: "kept from the frames asked for .., the pool's length and the calls' arguments and own buffers, never from the store"
  abbrev pub B : Book
  B = after (created frames (length x)) cs

  -- The answers given, the store and the pool left.
  pub record Demand (ans : List Answer) (u : Store) (z : List ℕ) : Type 0 where
    -- "Its answer, the store in it aside, .. equal those of 01's run book"
    pub answered : ans ≡ answers (created frames (length x)) cs
    -- ".. and every byte of every live record": as the store's tables find it in the pool
    pub bytes : (o y : ℕ) → file_at (book_of u z) o y ≡ file_at B o y
    -- "Live names, .. range edges, each page's frame and sharing, and free frames are the book's too."
    pub live : live_of u.live ≡ B.live
    pub ranges : ranges_of (used u) ≡ B.ranges
    pub page_frame : (o p : ℕ) → frame_of (book_of u z) o p ≡ frame_of B o p
    pub sharing : (o p : ℕ) → state_of o p (entry (book_of u z)) ≡ state_of o p (entry B)
    pub free : spare_of u.free 1024 ≡ free_frames B
    -- "Pool bytes that a call neither writes nor hands out stay"
    pub pool : z ≡ pools (created frames (length x)) cs x
    -- so no call of the list is refused as spoiled
    pub sound : sound? u ≡ true
    -- "The number of frames in use, as counts gives it, is the number of distinct frames that the book's covered pages name; all others are free."
    pub in_use_is : (step B counts).answer ≡ numbers (in_use B.cells) (length B.ranges)
    pub named : Frames B
    -- Of whatever call comes next: "An accepted copy at equal places in a page raises it by at most two, however long"
    pub equal_copy : (s a o b m : ℕ) → equal_places 4096 a b ≡ true → RaisesBy B (copy s a o b m) 2
    -- "a write, or a copy at unequal places, by at most the destination pages touched that were absent or shared at its start"
    pub writing : (o a : ℕ) (d : List ℕ) → RaisesBy B (write o a d) (wanted (touched 4096 a (length d)) o (a / 4096) (entry B))
    pub unequal_copy : (s a o b m : ℕ) → equal_places 4096 a b ≡ false → RaisesBy B (copy s a o b m) (wanted (touched 4096 b m) o (b / 4096) (entry B))
    -- "zeroing by at most two"
    pub zeroing : (o a m : ℕ) → RaisesBy B (zero_out o a m) 2
    -- ""No frame" comes exactly when 01's rule says so."
    pub no_frame : (c : Call) → ((step B c).answer ≡ refused 8 → TooFew B c) × (TooFew B c → (step B c).answer ≡ refused 8)

-- ---- the laws of a book with pages of 4,096 bytes, of whatever call comes next

module _ (b : Book) (S : book.Sound b) (e : b.size ≡ 4096) where
  equal_two : (s x o y n : ℕ) → equal_places 4096 x y ≡ true → RaisesBy b (copy s x o y n) 2
  equal_two s x o y n t = omega (arith, (step_bounded b S (copy s x o y n)).used, copy_two b s x o y n (rw e t))

  written : (o x : ℕ) (d : List ℕ) → RaisesBy b (write o x d) (wanted (touched 4096 x (length d)) o (x / 4096) (entry b))
  unfolding needed
  written o x d = subst (λ k. RaisesBy b (write o x d) (wanted (touched k x (length d)) o (x / k) (entry b))) e (step_bounded b S (write o x d)).used

  unequal : (s x o y n : ℕ) → equal_places 4096 x y ≡ false → RaisesBy b (copy s x o y n) (wanted (touched 4096 y n) o (y / 4096) (entry b))
  unfolding needed
  unequal s x o y n t =
      let f : equal_places b.size x y ≡ false = rw e t in
      subst (λ k. RaisesBy b (copy s x o y n) (wanted (touched k y n) o (y / k) (entry b))) e (rw f at (step_bounded b S (copy s x o y n)).used)

  zeroed_two : (o x n : ℕ) → RaisesBy b (zero_out o x n) 2
  zeroed_two o x n = omega (arith, (step_bounded b S (zero_out o x n)).used, zero_two b o x n)

-- THE THEOREM: demand 3 of every list of calls, from any store as created, with whatever arguments, buffers and pool
pub demand : (frames : ℕ) (x : List ℕ) (s : Store) (cs : List Call) (ans : List Answer) (u : Store) (z : List ℕ)
    → Started frames x s → Ran s x cs ans u z → Demand frames x cs ans u z
unfolding book_of
demand frames x s cs ans u z i r =
    let I = begun i in
    let R : AsBook s x cs ans u z = list_law s x cs ans u z r I.1 I.2 in
    let b : Book = after (created frames (length x)) cs in
    let S : book.Sound b = reached_sound frames (length x) cs in
    let e : book_of u z ≡ b = R.left ∙ ap (λ v. after v cs) I.0 in
    let q : b.size ≡ 4096 = ap (λ v. v.size) (sym e) in
    record {
      answered = R.answered ∙ ap (λ v. answers v cs) I.0;
      bytes = λ o y. ap (λ v. file_at v o y) e;
      live = ap (λ v. v.live) e;
      ranges = ap (λ v. v.ranges) e;
      page_frame = λ o p. ap (λ v. frame_of v o p) e;
      sharing = λ o p. ap (λ v. state_of o p (entry v)) e;
      free = sym (sound_spare u R.sized (sound_says u R.sound) 4096 z) ∙ ap (λ v. free_frames v) e;
      pool = R.pool ∙ ap (λ v. pools v cs x) I.0;
      sound = R.sound;
      in_use_is = unfold step table lowest perform in refl;
      named = frames-law b S;
      equal_copy = equal_two b S q;
      writing = written b S q;
      unequal_copy = unequal b S q;
      zeroing = zeroed_two b S q;
      no_frame = no_frame_answer b S;
    }
