-- TRIMMED ONCE, AT THE END. Parts of the source's ranges are put into the table one after another. What a part names, the source's range names all along, so
-- that trimming after each part and trimming once after the last leave the same places.
use Rattle.std.specs.Prelude.{◌≡◌, refl, true, ℕ, ◌+◌, ◌-◌, ◌*◌, ◌≤◌, ◌<◌, length}
use Rattle.std.proofs.Common.{ap₂, sym, ◌∙◌, arith}
use mathlib.Core.List.{List, Memᴰ}
use Rattle.table.specs.declared.PageRange.{PageRange}
use Rattle.edit.specs.declared.RangeTable.{RangeTable}
use Rattle.store.specs.declared.Store.{Store}
use Rattle.ranges.specs.Range.{line}
use Rattle.ranges.specs.Table.{named}
use Rattle.book.specs.Pages.{met}
use Rattle.table.specs.Table.{range_of, ranges_of, Small}
use Rattle.edit.specs.Edit.{put_table}
use Rattle.store.specs.Abs.{used, table_of}
use Rattle.store.specs.Members.{range_mem}
use Rattle.store.specs.Edits.{trimmed}
use Rattle.store.specs.Ranges.{put_ranges}
use Rattle.store.specs.Spare.{work_of}
use Rattle.pages.specs.Inside.{Inside}
use Rattle.pages.specs.Any.{zeros}
use Rattle.pages.specs.Trimming.{put_names, trimmed_all, trimmed_twice}
use Rattle.pages.specs.Leaving.{inside_kept}
use Rattle.shares.specs.Retabled.{Retabled}
use Rattle.shares.specs.Moved.{begins, ends, moved_range}
use Rattle.shares.specs.Together.{Together, together_one}
use Rattle.shares.specs.Sharing.{Sharing, sharing_start}

-- the store with its places trimmed by its table
abbrev pub tidied : Store → Store
tidied t = record {
  frames = t.frames;
  live = t.live;
  count = t.count;
  ranges = t.ranges;
  places = trimmed t.frames (ranges_of (used t)) t.places;
  free = t.free;
}

-- what the code has done to the store: it has the table u, and is else as it was
pub record Tabled (s : Store) (u : RangeTable) (t : Store) : Type 0 where
  pub frames : t.frames ≡ s.frames
  pub live : t.live ≡ s.live
  pub free : t.free ≡ s.free
  pub table : table_of t ≡ u
  pub few : t.count ≤ 512
  pub full : length t.ranges ≡ 512
  pub places : t.places ≡ s.places

-- a store inside a call has nothing to trim
pub tidied_same : (s : Store) (x : List ℕ) → Inside s x → tidied s ≡ s
tidied_same s x I = λ j. record {
  frames = s.frames;
  live = s.live;
  count = s.count;
  ranges = s.ranges;
  places = trimmed_all s.frames (ranges_of (used s)) (ranges_of (used s)) s.places (inside_kept s x I) (λ b i t. t) j;
  free = s.free;
}

-- A PART PUT IN, and nothing trimmed: once trimmed, the store is the one that is trimmed before and after
module _ (s : Store) (a e o q : ℕ) (r : PageRange) (h : begins a r < ends e r) (m : Memᴰ r (used s)) (t : Store)
    (T : Tabled s (put_table s.ranges s.count (moved_range a e o q r)) t) where
  -- it names nothing new
  names : (b i : ℕ) → named b i (ranges_of (used t)) ≡ true → named b i (ranges_of (used s)) ≡ true
  names =
      rw (put_ranges s.ranges s.count (moved_range a e o q r) (table_of t) T.table)
      (put_names (range_of (moved_range a e o q r)) (range_of r) (ranges_of (used s)) (range_mem (used s) r m) refl (omega arith) (omega arith))

  pub tidied_put : Retabled (tidied s) (put_table s.ranges s.count (moved_range a e o q r)) (tidied t)
  tidied_put = record {
    frames = T.frames;
    live = T.live;
    free = T.free;
    table = T.table;
    few = T.few;
    full = T.full;
    places = ap₂ (λ n ps. trimmed n (ranges_of (used t)) ps) T.frames T.places
        ∙ sym (trimmed_twice s.frames (ranges_of (used s)) (ranges_of (used t)) s.places names);
  }

  -- the part is shared
  pub tidied_one : Inside (tidied s) (zeros s) → Small r → q + (e - a) ≤ 262144 → Together (tidied s) a e o q r (tidied t)
  tidied_one I S l = together_one (tidied s) a e o q r I S l h m (tidied t) tidied_put

-- nothing is shared yet
pub tidied_start : (s : Store) (src p o q n : ℕ) → Inside s (zeros s) → s.count + 2 * met src p n (work_of s (zeros s)) ≤ 512
    → Sharing s (line src p) (line src p + n) o q 0 (tidied s)
tidied_start s src p o q n I l = rw (tidied_same s (zeros s) I) (sharing_start s src p o q n l)
