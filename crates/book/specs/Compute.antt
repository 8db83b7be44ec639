-- `unfolding computing` opens all that the book computes by: for proofs by refl about given lists of calls.
use mathlib.Core.List.{head_d}
use Rattle.std.specs.Prelude.{ℕ}
use Rattle.ranges.specs.Range.{front, back, carve, insert, slot_at, put}
use Rattle.ranges.specs.Table.{named, holders, fresh_from, fresh, previous, part, parts}
use Rattle.book.specs.Cell.{bytes_at, frame_at, trim, vacate, edit, free_from}
use Rattle.book.specs.Page.{span_of}
use Rattle.book.specs.Work.{page_of, settle, own, add_in, add_page, writable, write_page}
use Rattle.book.specs.Bytes.{byte_at, read_from, reading, write_from, writing, clear}
use Rattle.book.specs.Pages.{share, sharing, met, uncover}
use Rattle.book.specs.Copy.{copy_equal, copying, shadowing, zeroing}
use Rattle.book.specs.Need.{state_of, wants, wanted, counted, counted_parts, need_whole}
use Rattle.book.specs.Book.{entry, in_use, perform, lowest, table, step, answers, after, empty, create, frame_of, pool_after}

unfoldable pub computing : ℕ
unfolding front back carve insert slot_at bytes_at frame_at named trim vacate edit holders fresh_from free_from span_of put page_of settle fresh own previous add_in add_page writable write_page byte_at read_from reading write_from writing clear part parts share sharing met uncover copy_equal copying shadowing zeroing state_of wants wanted counted counted_parts need_whole entry in_use perform lowest table step answers after empty create frame_of pool_after head_d
computing = 0
