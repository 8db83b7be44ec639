-- The worked example of document 01, one list of calls for each of the ten differences, and one for the order of refusals: theorems by computation.
-- The answers are written by hand from document 01.
use Rattle.std.specs.Prelude.{◌≡◌, refl, true, false, List, [], ◌∷◌, ℕ, replicate, Option, Some}
use Rattle.ranges.specs.Range.{Range}
use Rattle.book.specs.Cell.{free, holds}
use Rattle.book.specs.Need.{absent, private, shared}
use Rattle.book.specs.Book.{new_object, drop_object, add, look_up, show, read, write, copy, shadow, zero_out, counts, refused, done, added, state, bytes, numbers, answers, after, created, frame_of, Book}
use Rattle.book.specs.Compute.{computing}

-- "Input and whole output"
example : answers (created 16 65536)
    (new_object 0
    ∷ new_object 1
    ∷ write 0 4094 (170 ∷ 187 ∷ 204 ∷ 221 ∷ [])
    ∷ copy 0 0 1 0 8192
    ∷ write 1 0 (17 ∷ [])
    ∷ counts
    ∷ read 0 4094 4
    ∷ look_up 1 1
    ∷ drop_object 0
    ∷ counts ∷ [])
    ≡ done ∷ done ∷ done ∷ done ∷ done ∷ numbers 3 3 ∷ bytes (170 ∷ 187 ∷ 204 ∷ 221 ∷ []) ∷ state shared ∷ done ∷ numbers 2 2 ∷ []
unfolding computing
example = refl

-- l pages from page s of object o, in backing b from index f on
abbrev pages : ℕ → ℕ → ℕ → ℕ → ℕ → Range
pages o s l f b = record { object = o; start = s; len = l; offset = f; backing = b }

-- the frames of pages 0, 1 and 2 of an object
abbrev frames : Book → ℕ → List (Option ℕ)
frames b o = frame_of b o 0 ∷ frame_of b o 1 ∷ frame_of b o 2 ∷ []

-- 1: "A span inside one page with both ends off the page's edges": "only the named bytes change; length 0 changes nothing"
difference_1 : answers (created 16 65536)
    (new_object 0
    ∷ new_object 1
    ∷ write 0 0 (1 ∷ 2 ∷ 3 ∷ 4 ∷ [])
    ∷ write 0 4096 (5 ∷ 6 ∷ 7 ∷ [])
    ∷ write 1 0 (9 ∷ 9 ∷ 9 ∷ 9 ∷ [])
    ∷ copy 0 1 1 1 2
    ∷ zero_out 0 1 2
    ∷ copy 0 1 1 1 0
    ∷ zero_out 0 3 0
    ∷ read 1 0 5
    ∷ read 1 4096 3
    ∷ read 0 0 5
    ∷ read 0 4096 3
    ∷ counts ∷ [])
    ≡ done ∷ done ∷ done ∷ done ∷ done ∷ done ∷ done ∷ done ∷ done
    ∷ bytes (9 ∷ 2 ∷ 3 ∷ 9 ∷ 0 ∷ []) ∷ bytes (0 ∷ 0 ∷ 0 ∷ []) ∷ bytes (1 ∷ 0 ∷ 0 ∷ 4 ∷ 0 ∷ []) ∷ bytes (5 ∷ 6 ∷ 7 ∷ []) ∷ numbers 3 2 ∷ []
unfolding computing
difference_1 = refl

-- 2: "`zero_ranges` loses the front of the last range it meets when that is the only one. The front stays."
difference_2 : (after (created 16 65536) (new_object 0 ∷ add 0 0 ∷ add 0 1 ∷ add 0 2 ∷ zero_out 0 4096 4096 ∷ [])).ranges
    ≡ pages 0 0 1 0 1 ∷ pages 0 2 1 2 1 ∷ []
unfolding computing
difference_2 = refl

-- 3: "`zero_single` on a shared page asserts. It gets a private copy."
difference_3 : answers (created 16 65536)
    (new_object 0
    ∷ new_object 1
    ∷ write 0 0 (1 ∷ 2 ∷ 3 ∷ [])
    ∷ copy 0 0 1 0 4096
    ∷ look_up 1 0
    ∷ zero_out 1 1 1
    ∷ look_up 1 0
    ∷ read 1 0 3
    ∷ read 0 0 3
    ∷ counts ∷ [])
    ≡ done ∷ done ∷ done ∷ done ∷ state shared ∷ done ∷ state private ∷ bytes (1 ∷ 0 ∷ 3 ∷ []) ∷ bytes (1 ∷ 2 ∷ 3 ∷ []) ∷ numbers 2 2 ∷ []
unfolding computing
difference_3 = refl

-- 4: "`copy_ranges` asserts when trailing whole source pages are uncovered. They are skipped."
difference_4 : answers (created 16 65536)
    (new_object 0
    ∷ new_object 1
    ∷ write 0 0 (1 ∷ [])
    ∷ write 1 4096 (2 ∷ [])
    ∷ copy 0 0 1 0 8193
    ∷ read 1 0 1
    ∷ read 1 4096 1
    ∷ look_up 1 2 ∷ [])
    ≡ done ∷ done ∷ done ∷ done ∷ done ∷ bytes (1 ∷ []) ∷ bytes (2 ∷ []) ∷ state private ∷ []
unfolding computing
difference_4 = refl

-- 5: "`copy_bytes` fills zeros past the end of an absent source page. Each source page is judged separately."
difference_5 : answers (created 16 65536)
    (new_object 0
    ∷ new_object 1
    ∷ write 0 4096 (7 ∷ 7 ∷ [])
    ∷ copy 0 4094 1 0 4
    ∷ read 1 0 4 ∷ [])
    ≡ done ∷ done ∷ done ∷ done ∷ bytes (0 ∷ 0 ∷ 7 ∷ 7 ∷ []) ∷ []
unfolding computing
difference_5 = refl

-- 6: "A page added inside a shared range keeps the old offset, and the next lookup asserts. The offset becomes 0."
difference_6 : (after (created 16 65536) (new_object 0 ∷ new_object 1 ∷ add 0 0 ∷ add 0 1 ∷ add 0 2 ∷ copy 0 0 1 0 12288 ∷ add 1 1 ∷ [])).ranges
    ≡ pages 0 0 3 0 1 ∷ pages 1 0 1 0 1 ∷ pages 1 1 1 0 2 ∷ pages 1 2 1 2 1 ∷ []
unfolding computing
difference_6 = refl

-- 7: "erased pages return when a range is extended. Entries in no holder's window go at once, .. and their frames become free."
difference_7 : answers (created 16 65536)
    (new_object 0
    ∷ write 0 0 (1 ∷ [])
    ∷ write 0 4096 (2 ∷ [])
    ∷ zero_out 0 4096 4096
    ∷ counts
    ∷ add 0 2
    ∷ look_up 0 1
    ∷ read 0 4096 1
    ∷ counts ∷ [])
    ≡ done ∷ done ∷ done ∷ done ∷ numbers 1 1 ∷ added 14 ∷ state absent ∷ bytes (0 ∷ []) ∷ numbers 2 1 ∷ []
unfolding computing
difference_7 = refl

-- 8: "A lack of frames stops the Rust halfway, unseen. Here limits are checked before any change."
difference_8 : answers (created 1 4096)
    (new_object 0
    ∷ write 0 4095 (1 ∷ 2 ∷ [])
    ∷ counts
    ∷ read 0 4095 2
    ∷ write 0 4095 (1 ∷ [])
    ∷ write 0 4095 (3 ∷ 4 ∷ [])
    ∷ read 0 4095 2 ∷ [])
    ≡ done ∷ refused 8 ∷ numbers 0 0 ∷ bytes (0 ∷ 0 ∷ []) ∷ done ∷ refused 8 ∷ bytes (1 ∷ 0 ∷ []) ∷ []
unfolding computing
difference_8 = refl

-- 9: "No range is extended past offset + length 1,048,576; a new one starts."
difference_9 : (x : List ℕ)
    → (after (record {
      size = 4096;
      frames = 3;
      pool = 12288;
      live = true ∷ replicate 31 false;
      ranges = pages 0 0 1 1048574 1 ∷ [];
      cells = holds 1 1048574 x ∷ free ∷ free ∷ [];
    }) (add 0 1 ∷ add 0 2 ∷ [])).ranges
    ≡ pages 0 0 2 1048574 1 ∷ pages 0 2 1 0 2 ∷ []
unfolding computing
difference_9 x = refl

-- 10: "A private copy always has the page's bytes", also where the frame was zeroed and then written
difference_10 : answers (created 16 65536)
    (new_object 0
    ∷ new_object 1
    ∷ add 0 0
    ∷ write 0 0 (1 ∷ [])
    ∷ copy 0 0 1 0 4096
    ∷ write 1 1 (2 ∷ [])
    ∷ read 1 0 2
    ∷ read 0 0 2 ∷ [])
    ≡ done ∷ done ∷ added 15 ∷ done ∷ done ∷ done ∷ bytes (1 ∷ 2 ∷ []) ∷ bytes (1 ∷ 0 ∷ []) ∷ []
unfolding computing
difference_10 = refl

-- 7 again: "at once, before any range is extended". Backing 1 has index 1 at page 0 of object 1 and index 0 at page 2. The copy of absent pages cuts page 0
-- out, so index 1 is in no window; then page 4 joins the range of page 2, whose window takes index 1 in again: page 3 is absent.
trimmed_at_once : answers (created 16 65536)
    (new_object 0
    ∷ new_object 1
    ∷ new_object 2
    ∷ write 0 16384 (1 ∷ [])
    ∷ write 0 20480 (2 ∷ [])
    ∷ shadow 0 20480 1 0 4096
    ∷ shadow 0 16384 1 8192 4096
    ∷ drop_object 0
    ∷ copy 2 1 1 1 16384
    ∷ look_up 1 2
    ∷ look_up 1 3
    ∷ look_up 1 4
    ∷ read 1 12288 1
    ∷ counts ∷ [])
    ≡ done ∷ done ∷ done ∷ done ∷ done ∷ done ∷ done ∷ done ∷ done ∷ state private ∷ state absent ∷ state private ∷ bytes (0 ∷ []) ∷ numbers 3 2 ∷ []
unfolding computing
trimmed_at_once = refl

-- "each partly touched page counts: always if there are whole pages too": page 0 is private, and one frame is asked for all the same
always : answers (created 1 4096)
    (new_object 0 ∷ new_object 1 ∷ write 1 0 (1 ∷ []) ∷ copy 0 1 1 1 8191 ∷ zero_out 1 1 8191 ∷ copy 0 1 1 1 4095 ∷ zero_out 1 1 4095 ∷ read 1 0 1 ∷ [])
    ≡ done ∷ done ∷ done ∷ refused 8 ∷ refused 8 ∷ done ∷ done ∷ bytes (1 ∷ []) ∷ []
unfolding computing
always = refl

-- "Frames come from those free at entry, in page order": the write cuts page 0 out, which releases frame 15, and page 1 takes frame 12
free_at_entry : frames (after (created 16 65536) (new_object 0 ∷ add 0 0 ∷ add 0 1 ∷ add 0 2 ∷ zero_out 0 4096 4096 ∷ write 0 4095 (1 ∷ 2 ∷ []) ∷ [])) 0
    ≡ Some 14 ∷ Some 12 ∷ Some 13 ∷ []
unfolding computing
free_at_entry = refl

-- "The lowest number that applies is given, and never otherwise": 3 before 4, 5, 6; 5 before 6; 6 before 7, 8; 7 before 8; 8 before 9
refusals : answers (created 2 8192)
    (new_object 32
    ∷ drop_object 0
    ∷ new_object 0
    ∷ new_object 0
    ∷ new_object 31
    ∷ copy 32 0 32 0 1073741825
    ∷ copy 1 0 0 0 1
    ∷ copy 0 1073741825 0 0 0
    ∷ copy 0 1073741824 31 1073741824 0
    ∷ copy 0 1073741824 31 0 1
    ∷ copy 0 0 31 1073741824 1
    ∷ copy 0 0 31 1 1073741823
    ∷ shadow 0 1 31 1073741824 1
    ∷ shadow 0 1 31 0 4096
    ∷ shadow 0 0 31 0 4095
    ∷ shadow 0 0 31 4095 1073737728
    ∷ add 0 262144
    ∷ look_up 0 262144
    ∷ look_up 1 262144
    ∷ show 0 262144
    ∷ add 0 262143
    ∷ zero_out 0 1 1073741823
    ∷ zero_out 0 1 1073741824
    ∷ write 0 1073741824 (1 ∷ [])
    ∷ write 0 1073741824 []
    ∷ write 0 18446744073709551615 []
    ∷ write 0 4095 (1 ∷ 2 ∷ 3 ∷ [])
    ∷ read 31 18446744073709551615 1 ∷ [])
    ≡ refused 3 ∷ refused 3 ∷ done ∷ refused 4 ∷ done ∷ refused 3 ∷ refused 3 ∷ refused 5 ∷ done ∷ refused 6 ∷ refused 6 ∷ refused 8
    ∷ refused 6 ∷ refused 7 ∷ refused 7 ∷ done ∷ refused 6 ∷ refused 6 ∷ refused 3 ∷ bytes [] ∷ added 1
    ∷ done ∷ refused 6 ∷ refused 6 ∷ done ∷ refused 6 ∷ done ∷ refused 6 ∷ []
unfolding computing
refusals = refl

-- 2: "a lent pool's length differs from frames × 4,096"; "A new store, a new object, a drop, counts and a lookup lend no pool"
wrong_pool : answers (created 2 8191)
    (new_object 0 ∷ add 32 0 ∷ show 0 0 ∷ read 0 0 0 ∷ write 0 0 [] ∷ copy 0 0 0 0 0 ∷ shadow 0 0 0 0 0 ∷ zero_out 0 0 0 ∷ look_up 0 0 ∷ counts ∷ drop_object 0 ∷ [])
    ≡ done ∷ refused 2 ∷ bytes [] ∷ refused 2 ∷ refused 2 ∷ refused 2 ∷ refused 2 ∷ refused 2 ∷ state absent ∷ numbers 0 0 ∷ done ∷ []
unfolding computing
wrong_pool = refl

-- 9: a copy at unequal places to 257 absent pages needs 257 frames, which are there, and 514 slots, which are not; 256 pages need 512
no_slot : answers (created 1024 4194304) (new_object 0 ∷ new_object 1 ∷ copy 0 1 1 0 1048577 ∷ copy 0 1 1 4096 1 ∷ counts ∷ [])
    ≡ done ∷ done ∷ refused 9 ∷ done ∷ numbers 1 1 ∷ []
unfolding computing
no_slot = refl
