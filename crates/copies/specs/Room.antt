-- What copying and zeroing ask of the state inside a call: the frames and slots that are counted at entry.
use Rattle.std.specs.Prelude.{◌≡◌, List, ℕ, ◌+◌, ◌*◌, ◌/◌, ◌%◌, ◌≤◌, min, length}
use Rattle.store.specs.declared.Store.{Store}
use Rattle.book.specs.Page.{span_of}
use Rattle.book.specs.Pages.{met}
use Rattle.book.specs.Work.{Work}
use Rattle.book.specs.Need.{state_of, common, wants, counted_parts}
use Rattle.frames.specs.Free.{spare_of}
use Rattle.store.specs.Spare.{work_of}
use Rattle.pages.specs.Inside.{Inside}
use Rattle.pages.specs.Part.{Part}
use Rattle.writes.specs.Written as writes

-- n bytes from offset off of object o can be zeroed
pub record ZeroRoom (s : Store) (x : List ℕ) (o off n : ℕ) : Type 0 where
  pub inside : Inside s x
  pub ends : off + n ≤ 1073741824
  pub frames : counted_parts (λ q. common (state_of o q (work_of s x))) 4096 off n ≤ length (spare_of s.free 1024)
  pub slots : s.count + (2 * counted_parts (λ q. common (state_of o q (work_of s x))) 4096 off n + min 1 (span_of 4096 off n).whole) ≤ 512

-- n bytes of object src from offset xo can be copied to object o at yo, the same place within a page
pub record EqualRoom (s : Store) (x : List ℕ) (src xo o yo n : ℕ) : Type 0 where
  pub inside : Inside s x
  pub begins : xo + n ≤ 1073741824
  pub ends : yo + n ≤ 1073741824
  pub other : src ≡ o → ⊥
  pub even : xo % 4096 ≡ yo % 4096
  pub frames : counted_parts (λ q. wants o q (work_of s x)) 4096 yo n ≤ length (spare_of s.free 1024)
  pub slots : s.count + (2 * counted_parts (λ q. wants o q (work_of s x)) 4096 yo n + 2 * met src ((xo + (span_of 4096 xo n).head) / 4096) (span_of 4096 xo n).whole (work_of s x)) ≤ 512

-- from store s and pool x to t and y the book's work w is done, on pages of the line from `first` up to `past`
pub record Worked (s : Store) (x : List ℕ) (w : Work) (t : Store) (y : List ℕ) : Type 0 where
  pub first : ℕ
  pub past : ℕ
  pub part : Part s x w first past t y

-- or at unequal ones, as a write
pub record CopyRoom (s : Store) (x : List ℕ) (src xo o yo n : ℕ) : Type 0 where
  pub equal : xo % 4096 ≡ yo % 4096 → EqualRoom s x src xo o yo n
  pub bytes : (xo % 4096 ≡ yo % 4096 → ⊥) → writes.Room s x o yo n × (src ≡ o → ⊥) × (xo + n ≤ 1073741824)
