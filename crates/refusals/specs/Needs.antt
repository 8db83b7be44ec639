-- What a call needs, counted on the store: the pages that are absent or shared, the free frames, the free slots.
use Rattle.std.specs.Prelude.{◌≡◌, Bool, List, [], ◌∷◌, ℕ, suc, ◌+◌, ◌-◌, ◌*◌, ◌/◌, ◌≤◌, ◌<◌, min, ltb, length}
use Rattle.std.proofs.Common.{ap, arith, eq-eqb, ne_eqb, lt-ltb}
use Rattle.std.specs.Int.{from_bool}
use Rattle.store.specs.declared.Store.{Store}
use Rattle.lists.specs.Test.{by-eq, by-lt}
use Rattle.ranges.specs.Range.{line}
use Rattle.book.specs.Work.{Work}
use Rattle.book.specs.Page.{touched}
use Rattle.book.specs.Need.{State, state_of, lacks, wants, wanted, counted, needing}
use Rattle.book.specs.Book.{entry, lacking, lowest}
use Rattle.frames.specs.Free.{Counted}
use Rattle.table.specs.Table.{Table}
use Rattle.store.specs.Abs.{book_of}
use Rattle.store.specs.Sound.{Sized, Sound}
use Rattle.store.specs.Edits.{length_cells}
use Rattle.store.specs.Good.{book_count}
use Rattle.store.specs.Spare.{sound_count, entry_work, work_of}
use Rattle.look.specs.declared.State as look
use Rattle.look.specs.Look.{located, seen}
use Rattle.look.specs.Found.{state_is, state_located}
use Rattle.refusals.specs.Refuse.{Row, decides}

-- a test of a page's state, with the answers `post`, says whether the page wants a frame, as `each` counts it
abbrev pub Counts : (look.State → Bool → Type 0) → (State → ℕ) → Type 0
Counts post each = (t : look.State) (b : Bool) → post t b → from_bool b ≡ each (state_is t)

-- the frames that page g of the line wants, as the store has it
abbrev pub frames_at : (State → ℕ) → Store → ℕ → ℕ
frames_at each s g = each (state_is (seen s (located s g)))

-- A count that stops as soon as it is above a limit: r is the whole count, or both are above the limit.
pub record Upto (limit all r : ℕ) : Type 0 where
  pub exact : r ≤ limit → r ≡ all
  pub above : limit < r → limit < all

-- what is counted is above it, whatever is left; or nothing is left
pub upto_above : (limit all r rest : ℕ) → limit < r → r + rest ≡ all → Upto limit all r
upto_above limit all r rest l e = record { exact = λ h. absurd (omega arith); above = λ h. omega arith }

pub upto_all : (limit all r : ℕ) → r ≡ all → Upto limit all r
upto_all limit all r e = record { exact = λ h. e; above = λ h. omega arith }

-- the next page, of those left, is counted
pub wanted_next : (n i o p : ℕ) (w : Work) → i < n → wanted (n - i) o (p + i) w ≡ wants o (p + i) w + wanted (n - (i + 1)) o (p + (i + 1)) w
unfolding wanted
wanted_next n i o p w h =
    let e : n - i ≡ suc (n - (i + 1)) = omega arith in
    let f : suc (p + i) ≡ p + (i + 1) = omega arith in
    rw (e, ← f)

-- the pages that a span touches are pages of the object
pub touched_inside : (y m : ℕ) → y + m ≤ 1073741824 → y / 4096 + touched 4096 y m ≤ 262144
touched_inside y m h = by-eq m 0 (λ e. rw (eq-eqb m 0 e) (omega arith)) (λ e. rw (ne_eqb m 0 e) (omega arith))

module _ (s : Store) where
  -- a page counts on the store as it does in the book
  pub frames_seen : Table s.ranges s.count → s.frames ≤ length s.places → (each : State → ℕ) (o p : ℕ) (x : List ℕ) → frames_at each s (line o p) ≡ each (state_of o p (entry (book_of s x)))
  frames_seen T n each o p x = ap each (state_located s T n o p x)

  -- and one that is written
  pub wants_seen : Table s.ranges s.count → s.frames ≤ length s.places → (o p : ℕ) (x : List ℕ) → frames_at lacks s (line o p) ≡ wants o p (entry (book_of s x))
  unfolding wants
  wants_seen T n o p x = frames_seen T n lacks o p x

  -- a write's count is that of its first pages, at most one more than there are frames
  pub counted_first : (o y m k : ℕ) → k ≡ min (touched 4096 y m) (suc s.frames) → (x : List ℕ)
      → wanted k o (y / 4096) (entry (book_of s x)) ≡ counted o y m (entry (book_of s x))
  unfolding counted entry book_of
  counted_first o y m k e x = rw (e, length_cells 4096 s.frames s.places x)

  module _ (Z : Sized s) (S : Sound s) where
    -- the count of set bits is the number of the book's free frames
    pub spare_count : (n : ℕ) → Counted s.free n → (x : List ℕ) → n ≡ length (entry (book_of s x)).spare
    unfolding work_of
    spare_count n C x = rw (entry_work s Z S x) C.frames

    -- there are no more than frames
    pub spare_few : (n : ℕ) → Counted s.free n → n ≤ s.frames
    spare_few n C = omega (arith, C.frames, sound_count s Z S)

    -- rows 8 and 9, with n free frames
    pub lacking_number : (f m n k : ℕ) → ((x : List ℕ) → n ≡ length (entry (book_of s x)).spare) → Row ((ltb n f, 8) ∷ (ltb 512 (s.count + (2 * f + m)), 9) ∷ []) k
        → (x : List ℕ) → k ≡ lowest (lacking (entry (book_of s x)) (needing f m))
    unfolding entry book_of
    lacking_number f m n k e r x = rw (← e x, book_count s S Z) (decides _ k r)

-- a count that stops above the free frames gives the same number
pub lacking_upto : (w : Work) (f g m : ℕ) → Upto (length w.spare) g f → lowest (lacking w (needing f m)) ≡ lowest (lacking w (needing g m))
unfolding lowest
lacking_upto w f g m U =
    by-lt (length w.spare) f
    (λ l. rw (lt-ltb (length w.spare) f l, lt-ltb (length w.spare) g (U.above l)))
    (λ l. ap (λ k. lowest (lacking w (needing k m))) (U.exact l))
