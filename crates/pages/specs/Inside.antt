-- A STORE AND A POOL INSIDE A CALL: what every page step relies on and keeps. The free words are the book's spare frames: those free at entry that the
-- call has not taken yet.
use Rattle.std.specs.Prelude.{◌≡◌, refl, List, ℕ, ◌*◌, ◌≤◌, ◌<◌, length, drop, get_or, Some}
use Rattle.std.proofs.Common.{arith, length-take-le, get_or-take}
use Rattle.table.specs.declared.PageRange.{PageRange}
use Rattle.store.specs.declared.Store.{Store}
use Rattle.lists.specs.Every.{All}
use Rattle.ranges.specs.Range.{line, slot_at}
use Rattle.book.specs.Work.{Work, write_page}
use Rattle.laws.specs.State.{Good}
use Rattle.table.specs.Table.{Table, Small, range_of, ranges_of, zero_range}
use Rattle.table.specs.Holding.{ranges_length}
use Rattle.frames.specs.Free.{spare_of}
use Rattle.places.specs.Places.{place_at}
use Rattle.pool.specs.Bytes.{frame_at}
use Rattle.store.specs.Abs.{used}
use Rattle.store.specs.Sound.{Kind, Sized}
use Rattle.store.specs.Members.{all_of, range_mem}
use Rattle.store.specs.Good.{kind_small, rising_ranged, mem_at}
use Rattle.store.specs.Edits.{slot}
use Rattle.store.specs.Kinds.{Agreed}
use Rattle.store.specs.Idle.{Idle}
use Rattle.store.specs.Spare.{work_of}

pub record Inside (s : Store) (x : List ℕ) : Type 0 where
  pub sized : Sized s
  pub few_frames : s.frames ≤ 1024
  pub few_ranges : s.count ≤ 512
  pub pool : length x ≡ s.frames * 4096
  pub good : Good (work_of s x)
  pub kinds : All (λ r. Kind s.frames s.places r r.backing) (used s)
  pub agree : Agreed (used s)
  pub rest_ranges : All (λ r. r ≡ zero_range) (drop s.count s.ranges)
  pub rest_places : Idle s.frames s.places

-- frame f of the store has page p of object o
pub record Has (s : Store) (o p f : ℕ) : Type 0 where
  pub below : f < s.frames
  pub held : 0 < (place_at s.places f).backing
  pub slot : slot_at (line o p) (ranges_of (used s)) ≡ Some (slot (place_at s.places f).backing (place_at s.places f).index)

-- A PAGE STEP on page p of object o, from store s and pool x to store t and pool y, in which the page has frame f: the work is the book's w, and no other
-- frame's bytes change.
pub record Stepped (s : Store) (x : List ℕ) (o p : ℕ) (w : Work) (t : Store) (y : List ℕ) (f : ℕ) : Type 0 where
  pub work : work_of t y ≡ w
  pub inside : Inside t y
  pub frames : t.frames ≡ s.frames
  pub live : t.live ≡ s.live
  pub has : Has t o p f
  pub others : (k : ℕ) → (k ≡ f → ⊥) → frame_at 4096 y k ≡ frame_at 4096 x k

-- A PAGE WRITTEN: page p of object o, its bytes changed by g
pub record Wrote (s : Store) (x : List ℕ) (o p : ℕ) (g : List ℕ → List ℕ) (t : Store) (y : List ℕ) : Type 0 where
  pub frame : ℕ
  pub step : Stepped s x o p (write_page o p g (work_of s x)) t y frame

-- there is a place for each frame
pub inside_room : (s : Store) (x : List ℕ) → Inside s x → s.frames ≤ length s.places
inside_room s x I = omega (arith, I.few_frames, I.sized.places)

-- the table of a store inside a call
pub inside_table : (s : Store) (x : List ℕ) → Inside s x → Table s.ranges s.count
unfolding work_of
inside_table s x I = record {
  full = I.sized.ranges;
  few = I.few_ranges;
  small = small;
  rising = rising_ranged (used s) I.good.whole.rising;
}
  where
    small : (i : ℕ) → i < s.count → Small (get_or s.ranges i zero_range)
    small i h =
        let l : length (used s) ≡ s.count = length-take-le s.count s.ranges (omega (arith, I.sized.ranges, I.few_ranges)) in
        let r : PageRange = get_or (used s) i zero_range in
        let m = mem_at (used s) i (omega arith) in
        let k = kind_small s.frames s.places r r.backing (all_of (λ r. Kind s.frames s.places r r.backing) (used s) I.kinds r m) in
        let g : Small r = record { ends = I.good.whole.within (range_of r) (range_mem (used s) r m); indexes = k.1 } in
        rw (get_or-take s.count s.ranges i zero_range h) at g

-- the book's spare frames are the free words', and its ranges those of the table
pub spare_words : (s : Store) (x : List ℕ) → length (work_of s x).spare ≡ length (spare_of s.free 1024)
unfolding work_of
spare_words s x = refl

pub ranges_count : (s : Store) (x : List ℕ) → Inside s x → length (work_of s x).ranges ≡ s.count
unfolding work_of
ranges_count s x I = ranges_length s.ranges s.count (omega (arith, I.sized.ranges, I.few_ranges))
