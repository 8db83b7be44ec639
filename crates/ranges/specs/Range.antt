-- A range of pages, its cuts, and a table of ranges.
use Rattle.std.specs.Prelude.{Bool, ◌&&◌, ◌⊎◌, List, [], ◌∷◌, ◌++◌, ℕ, suc, ◌+◌, ◌-◌, ◌*◌, ◌≤◌, ◌<◌, min, ltb, leb, Option, Some, None}
use Rattle.lists.specs.Test.{pick}

-- the pages from `start` on of an object, `len` of them; the backing that has their bytes, and the index in it of the first page
pub record Ranged (B : Type 0) : Type 0 where
  pub object : ℕ
  pub start : ℕ
  pub len : ℕ
  pub offset : ℕ
  pub backing : B

-- of the book: a backing is a number
abbrev pub Range : Type 0
Range = Ranged ℕ

-- All pages of all objects stand on one line, 262,144 of them for each object ("an object has 262,144 pages"): page p of object o is at `line o p`.
abbrev pub line : ℕ → ℕ → ℕ
line o p = o * 262144 + p

-- where a range begins on the line, and where it ends ("Ends are exclusive.")
abbrev pub from : {B : Type 0} → Ranged B → ℕ
from r = line r.object r.start

abbrev pub upto : {B : Type 0} → Ranged B → ℕ
upto r = from r + r.len

-- "Shortening a range": "start, length and offset move, the backing stays". The range without its first k pages
abbrev pub skip : {B : Type 0} → ℕ → Ranged B → Ranged B
skip k r = record { object = r.object; start = r.start + k; len = r.len - k; offset = r.offset + k; backing = r.backing }

-- and the range made k pages long
abbrev pub keep : {B : Type 0} → ℕ → Ranged B → Ranged B
keep k r = record { object = r.object; start = r.start; len = k; offset = r.offset; backing = r.backing }

-- "cuts keep backing and indexes": the part of a range below the line's page a, if any, and the part from e on, if any
unfoldable pub front : {B : Type 0} → ℕ → Ranged B → List (Ranged B)
front a r = pick (ltb (from r) a) (keep (min r.len (a - from r)) r ∷ []) []

unfoldable pub back : {B : Type 0} → ℕ → Ranged B → List (Ranged B)
back e r = pick (ltb e (upto r)) (skip (e - from r) r ∷ []) []

-- `split_range`: a range cut by the pages from a up to e
abbrev pub split_range : {B : Type 0} → ℕ → ℕ → Ranged B → List (Ranged B)
split_range a e r = front a r ++ back e r

-- `split_at`: the part before the line's page g, the page itself, and the part after it
abbrev pub split_at : {B : Type 0} → ℕ → Ranged B → List (Ranged B)
split_at g r = front g r ++ (keep 1 (skip (g - from r) r) ∷ []) ++ back (suc g) r

-- every range of a table cut by the pages from a up to e
unfoldable pub carve : {B : Type 0} → ℕ → ℕ → List (Ranged B) → List (Ranged B)
carve a e [] = []
carve a e (r ∷ rs) = split_range a e r ++ carve a e rs

-- a range put into its place in a table
unfoldable pub insert : {B : Type 0} → Ranged B → List (Ranged B) → List (Ranged B)
insert n [] = n ∷ []
insert n (r ∷ rs) = pick (ltb (from n) (from r)) (n ∷ r ∷ rs) (r ∷ insert n rs)

-- one range over its span, whatever was there
unfoldable pub put : {B : Type 0} → Ranged B → List (Ranged B) → List (Ranged B)
put n rs = insert n (carve (from n) (upto n) rs)

-- "A page is covered if a range contains it."
abbrev pub covers : {B : Type 0} → ℕ → Ranged B → Bool
covers g r = leb (from r) g && ltb g (upto r)

-- Where a page's bytes are kept: a backing and an index in it. "Page p of a range is the vector's entry at offset + (p − start)"
pub record Slot : Type 0 where
  pub inside : ℕ
  pub index : ℕ

abbrev pub slot_in : ℕ → Range → Slot
slot_in g r = record { inside = r.backing; index = r.offset + (g - from r) }

unfoldable pub slot_at : ℕ → List Range → Option Slot
slot_at g [] = None
slot_at g (r ∷ rs) = pick (covers g r) (Some (slot_in g r)) (slot_at g rs)

-- "has length at least 1", "overlaps no other of its object", "by object, then start": each range begins at or after the end of the one before
-- it, the first at or after the line's page `low`
unfoldable pub Rising : {B : Type 0} → ℕ → List (Ranged B) → Type 0
Rising low [] = Unit {0}
Rising low (r ∷ rs) = (low ≤ from r) × (0 < r.len) × Rising (upto r) rs

-- no page from a up to e is in a range
unfoldable pub Clear : {B : Type 0} → ℕ → ℕ → List (Ranged B) → Type 0
Clear a e [] = Unit {0}
Clear a e (r ∷ rs) = ((upto r ≤ a) ⊎ (e ≤ from r)) × Clear a e rs
