-- THE LOOP OF A WRITE: what holds when the first `done` bytes of the data are written, and that each page's turn keeps it.
use Rattle.std.specs.Prelude.{◌≡◌, refl, List, ℕ, suc, ◌+◌, ◌-◌, ◌*◌, ◌/◌, ◌%◌, ◌≤◌, ◌<◌, length, take, drop}
use Rattle.std.proofs.Common.{sym, ◌∙◌, add-zero, le_refl, arith, length-drop, drop-drop, take_all}
use Rattle.std.proofs.Math.Nat.{sub-zero}
use Rattle.pages.specs.Present as pagesPresent
use Rattle.store.specs.declared.Store.{Store}
use Rattle.ranges.specs.Range.{line}
use Rattle.book.specs.Page.{over, touched}
use Rattle.book.specs.Work.{Work}
use Rattle.book.specs.Bytes.{write_from, writing}
use Rattle.book.specs.Need.{wants}
use Rattle.laws.specs.Cost.{Pages, write_page_cost}
use Rattle.laws.specs.Turn.{in_page, turn_page, turn_touched}
use Rattle.frames.specs.Free.{spare_of}
use Rattle.store.specs.Spare.{work_of}
use Rattle.pages.specs.Inside.{Inside, Wrote, spare_words, ranges_count}
use Rattle.pages.specs.Changed.{Goes, changed_step}
use Rattle.writes.specs.Turn.{write_at, want_at, none_left, write_turn, want_turn, want_first}
use Rattle.writes.specs.Written.{Room, Written}

-- from store s and pool x, the first `done` bytes of the data are written, which has made them t and y
pub record Going (s : Store) (x : List ℕ) (o off : ℕ) (d : List ℕ) (done : ℕ) (t : Store) (y : List ℕ) : Type 0 where
  pub few : done ≤ length d
  -- what is left to write makes of it what the whole write makes of s and x
  pub rest : write_at o (off + done) (length d - done) (drop done d) (work_of t y) ≡ writing o off d (work_of s x)
  pub inside : Inside t y
  pub frames : t.frames ≡ s.frames
  pub live : t.live ≡ s.live
  -- the pages done end where the next one begins
  pub upto : ℕ
  pub low : line o (off / 4096) ≤ upto
  pub edge : done < length d → upto ≡ line o ((off + done) / 4096)
  pub top : upto + touched 4096 (off + done) (length d - done) ≤ line o (off / 4096) + touched 4096 off (length d)
  pub changed : Goes (line o (off / 4096)) upto s x t y
  -- there is room for what is left
  pub spare : want_at o (off + done) (length d - done) (work_of t y) ≤ length (spare_of t.free 1024)
  pub slots : t.count + 2 * want_at o (off + done) (length d - done) (work_of t y) ≤ 512

-- ---- the beginning

-- nothing is written yet
pub going_start : (s : Store) (x : List ℕ) (o off : ℕ) (d : List ℕ) → Room s x o off (length d) → Going s x o off d 0 s x
unfolding writing work_of
going_start s x o off d R = record {
  few = omega arith;
  rest = rw (add-zero off, sub-zero (length d));
  inside = R.inside;
  frames = refl;
  live = refl;
  upto = line o (off / 4096);
  low = omega arith;
  edge = λ h. omega arith;
  top = rw (add-zero off, sub-zero (length d)) (le_refl _);
  changed = λ a x₀ l C. C;
  spare = rw (add-zero off, sub-zero (length d)) R.spare;
  slots = rw (add-zero off, sub-zero (length d)) R.slots;
}

-- ---- a turn

module _ (s : Store) (x : List ℕ) (o off : ℕ) (d : List ℕ) (done : ℕ) (t : Store) (y : List ℕ) (G : Going s x o off d done t y) (h : done < length d) where
  abbrev p : ℕ
  p = (off + done) / 4096

  abbrev left : ℕ
  left = length d - done

  -- there is room for the next page
  pub going_room : pagesPresent.Room t y o p
  going_room = let l = want_first o (off + done) left (omega arith) (work_of t y) in record { frames = omega (arith, G.spare); slots = omega (arith, G.slots) }

  module _ (top : off + length d ≤ 1073741824) (m : ℕ) (e : m ≡ in_page 4096 (off + done) left) (t' : Store) (y' : List ℕ)
      (S : Wrote t y o p (over ((off + done) % 4096) (take m (drop done d))) t' y') where
    abbrev w : Work
    w = work_of t y

    abbrev v : Work
    v = work_of t' y'

    -- the page written with the first c bytes of those left
    abbrev by : ℕ → List ℕ → List ℕ
    by c = over ((off + done) % 4096) (take c (drop done d))

    -- the page lies in the object
    low_page : p < 262144
    low_page = omega arith

    -- the offset reached, and the bytes left
    reached : off + done + m ≡ off + (done + m)
    reached = omega arith

    fewer : left - m ≡ length d - (done + m)
    fewer = omega arith

    -- what is left after the page
    turn_rest : write_at o (off + (done + m)) (length d - (done + m)) (drop (done + m) d) v ≡ writing o off d (work_of s x)
    turn_rest =
        rw (S.step.work, ← drop-drop m done d, ← reached, ← fewer, e)
        (sym (write_turn o (off + done) left (omega arith) (drop done d) w (length-drop done d)) ∙ G.rest)

    -- the next page, if there is one, begins where this one ends
    turn_edge : done + m < length d → suc (line o p) ≡ line o ((off + (done + m)) / 4096)
    turn_edge l =
        let q : (off + done + m) / 4096 ≡ suc p = rw e (turn_page 4096 (off + done) left (omega arith) (omega arith)) in
        omega arith

    -- this page's frame is the only other one changed
    turn_changed : Goes (line o (off / 4096)) (suc (line o p)) s x t' y'
    turn_changed a x₀ l C =
        changed_step a o p (by m) t t' x₀ y y' S.frame (rw (← G.edge h) (G.changed a x₀ l C)) (omega (arith, G.low, G.edge h)) G.inside low_page S.step

    turn_top : suc (line o p) + touched 4096 (off + (done + m)) (length d - (done + m)) ≤ line o (off / 4096) + touched 4096 off (length d)
    turn_top =
        let k : touched 4096 (off + done) left ≡ suc (touched 4096 (off + (done + m)) (length d - (done + m))) =
        rw (← reached, ← fewer, e) (turn_touched 4096 (off + done) left (omega arith) (omega arith)) in
        omega (arith, G.top, G.edge h, k)

    -- what this page wanted, and those left want now, was counted before
    turn_want : wants o p w + want_at o (off + (done + m)) (length d - (done + m)) v ≤ want_at o (off + done) left w
    turn_want =
        rw (S.step.work, ← reached, ← fewer, e)
        (want_turn o (off + done) left (omega arith) (by (in_page 4096 (off + done) left)) w G.inside.good.whole G.inside.good.tight low_page)

    -- the page took no more than it wanted
    turn_cost : Pages (wants o p w) w v
    turn_cost = rw S.step.work (write_page_cost o p w G.inside.good.whole low_page (by m))

    -- so there is room for those left
    turn_spare : want_at o (off + (done + m)) (length d - (done + m)) v ≤ length (spare_of t'.free 1024)
    turn_spare = omega (arith, turn_want, turn_cost.spare, G.spare, spare_words t y, spare_words t' y')

    turn_slots : t'.count + 2 * want_at o (off + (done + m)) (length d - (done + m)) v ≤ 512
    turn_slots = omega (arith, turn_want, turn_cost.ranges, G.slots, ranges_count t y G.inside, ranges_count t' y' S.step.inside)

    -- A PAGE'S TURN keeps all of it
    pub going_turn : Going s x o off d (done + m) t' y'
    going_turn = record {
      few = omega arith;
      rest = turn_rest;
      inside = S.step.inside;
      frames = S.step.frames ∙ G.frames;
      live = S.step.live ∙ G.live;
      upto = suc (line o p);
      low = omega (arith, G.low, G.edge h);
      edge = turn_edge;
      top = turn_top;
      changed = turn_changed;
      spare = turn_spare;
      slots = turn_slots;
    }

-- ---- the end

-- nothing is left: the data is written
pub going_end : (s : Store) (x : List ℕ) (o off : ℕ) (d : List ℕ) (t : Store) (y : List ℕ) → Going s x o off d (length d) t y → Written s x o off d t y
unfolding write_from
going_end s x o off d t y G = record {
  work = rw (none_left (off + length d) (length d - length d) (omega arith)) at G.rest;
  inside = G.inside;
  frames = G.frames;
  live = G.live;
  upto = G.upto;
  low = G.low;
  top = omega (arith, G.top);
  changed = G.changed;
}

-- ---- what is left, as a write of its own: where the store is as it was
module _ (s : Store) (x : List ℕ) (o off : ℕ) (d : List ℕ) (done : ℕ) (y : List ℕ) (G : Going s x o off d done s y) (h : done < length d) where
  abbrev pub rest : List ℕ
  rest = take (length d - done) (drop done d)

  all_left : rest ≡ drop done d
  all_left = take_all {A = ℕ} (length d - done) (drop done d) (omega (arith, length-drop done d))

  pub rest_room : off + length d ≤ 1073741824 → Room s y o (off + done) (length rest)
  rest_room ends =
      rw all_left
      (record {
        inside = G.inside;
        ends = omega (arith, length-drop done d);
        spare = rw (length-drop done d) G.spare;
        slots = rw (length-drop done d) G.slots;
      })

  pub rest_written : (t : Store) (z : List ℕ) → Written s y o (off + done) rest t z → Written s x o off d t z
  unfolding writing work_of
  rest_written t z U = joined (rw all_left at U)
    where
      joined : Written s y o (off + done) (drop done d) t z → Written s x o off d t z
      joined W = record {
        work = W.work ∙ (rw (length-drop done d) G.rest);
        inside = W.inside;
        frames = W.frames;
        live = W.live;
        upto = W.upto;
        low = omega (arith, W.low, G.low, G.edge h);
        top = let e = rw (length-drop done d) at W.top in omega (arith, e, G.top, G.edge h);
        changed = λ a x₀ l C. W.changed a x₀ (omega (arith, l, G.low, G.edge h)) (rw (← G.edge h) (G.changed a x₀ l C));
      }
