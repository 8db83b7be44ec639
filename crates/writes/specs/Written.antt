-- A WRITE OVER MANY PAGES, as a contract: what the state inside a call has to offer, and what it is afterwards.
use Rattle.std.specs.Prelude.{◌≡◌, List, ℕ, ◌+◌, ◌*◌, ◌/◌, ◌≤◌, length}
use Rattle.store.specs.declared.Store.{Store}
use Rattle.ranges.specs.Range.{line}
use Rattle.book.specs.Page.{touched}
use Rattle.book.specs.Bytes.{writing}
use Rattle.frames.specs.Free.{spare_of}
use Rattle.store.specs.Spare.{work_of}
use Rattle.pages.specs.Inside.{Inside}
use Rattle.pages.specs.Changed.{Goes}
use Rattle.writes.specs.Turn.{want_at}

-- there is room for n bytes from offset off of object o: "Each counted page needs one frame and two slots."
pub record Room (s : Store) (x : List ℕ) (o off n : ℕ) : Type 0 where
  pub inside : Inside s x
  pub ends : off + n ≤ 1073741824
  pub spare : want_at o off n (work_of s x) ≤ length (spare_of s.free 1024)
  pub slots : s.count + 2 * want_at o off n (work_of s x) ≤ 512

-- the data d is written from offset off of object o, and no other frame's bytes are changed than those of the pages that it touches, which end at `upto`
pub record Written (s : Store) (x : List ℕ) (o off : ℕ) (d : List ℕ) (t : Store) (y : List ℕ) : Type 0 where
  pub work : work_of t y ≡ writing o off d (work_of s x)
  pub inside : Inside t y
  pub frames : t.frames ≡ s.frames
  pub live : t.live ≡ s.live
  pub upto : ℕ
  pub low : line o (off / 4096) ≤ upto
  pub top : upto ≤ line o (off / 4096) + touched 4096 off (length d)
  pub changed : Goes (line o (off / 4096)) upto s x t y
