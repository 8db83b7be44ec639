-- The bytes of the lent pool, by frames. The page size is a parameter of every definition; the contracts have 4,096. Sentences quoted are document 01's.
use Rattle.std.specs.Prelude.{List, [], ℕ, ◌+◌, ◌*◌, Option, Some, None, leb, length, take, drop, replicate}
use Rattle.std.proofs.Math.Seq.{paste}
use Rattle.lists.specs.Test.{pick}

-- Bytes stored are `paste d at s n` of lib.Seq: d with the first n bytes of s from index at, and every other byte as it was
-- ("Pool bytes that a call neither writes nor hands out stay").

-- "frame f being the 4,096 bytes from f × 4,096": frame f of the pool d
unfoldable pub frame_at : ℕ → List ℕ → ℕ → List ℕ
frame_at size d f = take size (drop (f * size) d)

-- d with the n bytes from index at set to b ("clears bytes in present partial pages": b is 0)
unfoldable pub filled : List ℕ → ℕ → ℕ → ℕ → List ℕ
filled d at n b = paste d at (replicate n b) n

-- "A fresh frame is filled with zeros.": d with frame f all zeros
unfoldable pub frame_zeroed : ℕ → List ℕ → ℕ → List ℕ
frame_zeroed size d f = filled d (f * size) size 0

-- "it starts with a copy of its bytes" (a page cut out): d with the bytes of frame `from` in frame `to`
unfoldable pub frame_copied : ℕ → List ℕ → ℕ → ℕ → List ℕ
frame_copied size d to from = paste d (to * size) (frame_at size d from) size

-- "A present page can be shown as that very part of the pool; an absent page or a refused call (1, 2, 3, 6) shows an empty part": a frame is shown
-- where there is one and it lies in the pool; the bytes of the part shown ("4,096 bytes from the frame's start, or empty")
unfoldable pub shown : ℕ → List ℕ → Option ℕ → List ℕ
shown size d None = []
shown size d (Some f) = pick (leb (f * size + size) (length d)) (frame_at size d f) []

-- where in the pool the part shown begins; an empty part begins at 0
unfoldable pub shown_from : ℕ → List ℕ → Option ℕ → ℕ
shown_from size d None = 0
shown_from size d (Some f) = pick (leb (f * size + size) (length d)) (f * size) 0

-- the address of byte i of a lent slice that begins at p: a part of the slice that begins there is "that very part", and no copy
abbrev pub address : ℕ × ℕ → ℕ → ℕ × ℕ
address p i = (p.0, p.1 + i)
