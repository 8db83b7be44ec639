-- WHICH BYTES OF THE POOL A CALL HAS CHANGED, page by page along the line: no frame's but those that the pages done have. So the pool left is the book's.
use Rattle.std.specs.Prelude.{◌≡◌, refl, ◌⊎◌, List, ℕ, suc, ◌*◌, ◌≤◌, ◌<◌, length, get_or, Some}
use Rattle.std.proofs.Common.{ap, ap₂, sym, ◌∙◌, inl, inr, ⊎_elim, arith}
use Rattle.store.specs.declared.Store.{Store}
use Rattle.lists.specs.Test.{by-eq}
use Rattle.ranges.specs.Range.{Slot, line, slot_at}
use Rattle.book.specs.Cell.{free, holds}
use Rattle.book.specs.Work.{Work, write_page}
use Rattle.book.specs.Book.{pool_after}
use Rattle.laws.specs.Frames.{write_slot, write_frame}
use Rattle.table.specs.Table.{ranges_of}
use Rattle.places.specs.Places.{place_at}
use Rattle.pool.specs.Bytes.{frame_at}
use Rattle.store.specs.Abs.{used, cells_of}
use Rattle.store.specs.Edits.{slot, cell_at, cell_holds}
use Rattle.store.specs.Good.{Standing, standing}
use Rattle.store.specs.Spare.{work_of}
use Rattle.store.specs.Pool.{pool_left}
use Rattle.pages.specs.Inside.{Inside, Stepped}

-- where frame f stands
abbrev pub spot : Store → ℕ → Slot
spot s f = slot (place_at s.places f).backing (place_at s.places f).index

-- frame f has a page of the line from a up to e
pub record Among (a e : ℕ) (s : Store) (f : ℕ) : Type 0 where
  pub page : ℕ
  pub low : a ≤ page
  pub high : page < e
  pub held : 0 < (place_at s.places f).backing
  pub slot : slot_at page (ranges_of (used s)) ≡ Some (spot s f)

-- each frame's bytes are those of the pool x₀, or the frame has a page of the line from a up to e
unfoldable pub Changed : ℕ → ℕ → Store → List ℕ → List ℕ → Type 0
Changed a e s x₀ x = (f : ℕ) → f < s.frames → (frame_at 4096 x f ≡ frame_at 4096 x₀ f) ⊎ Among a e s f

-- no page is done: no byte is changed
pub changed_none : (a : ℕ) (s : Store) (x : List ℕ) → Changed a a s x x
unfolding Changed
changed_none a s x f l = inl refl

-- more pages are done
pub changed_more : (a e e' : ℕ) (s : Store) (x₀ x : List ℕ) → e ≤ e' → Changed a e s x₀ x → Changed a e' s x₀ x
unfolding Changed
changed_more a e e' s x₀ x h C f l =
    ⊎_elim (λ (q : frame_at 4096 x f ≡ frame_at 4096 x₀ f). inl q)
    (λ (A : Among a e s f). inr (record { page = A.page; low = A.low; high = omega (arith, A.high); held = A.held; slot = A.slot })) (C f l)

-- A PART OF A CALL, from store s and pool x to t and y: where the pages done ended at e before it, they end at e' after it
abbrev pub Goes : ℕ → ℕ → Store → List ℕ → Store → List ℕ → Type 0
Goes e e' s x t y = (a : ℕ) (x₀ : List ℕ) → a ≤ e → Changed a e s x₀ x → Changed a e' t x₀ y

-- ---- a page written

-- a frame in use has its cell of the state inside the call
held_cell : (s : Store) (x : List ℕ) (f : ℕ) → f < s.frames → 0 < (place_at s.places f).backing
    → get_or (work_of s x).cells f free ≡ holds (spot s f).inside (spot s f).index (frame_at 4096 x f)
unfolding work_of
held_cell s x f l h = cell_at 4096 s.frames s.places x f l ∙ cell_holds (place_at s.places f) (frame_at 4096 x f) (λ e. omega arith)

-- and a cell says where its frame stands
cell_standing : (s : Store) (x : List ℕ) (f b i : ℕ) (z : List ℕ) → get_or (work_of s x).cells f free ≡ holds b i z → Standing 4096 s.frames s.places x f b i z
unfolding work_of
cell_standing s x f b i z e = standing 4096 s.frames s.places x f b i z e

-- a frame still has its page, where the page is at its slot and the frame's cell is there
among_as : (a e e' : ℕ) (s t : Store) (y z : List ℕ) (f : ℕ) (A : Among a e s f) → A.page < e' → slot_at A.page (work_of t y).ranges ≡ Some (spot s f)
    → get_or (work_of t y).cells f free ≡ holds (spot s f).inside (spot s f).index z → Among a e' t f
unfolding work_of
among_as a e e' s t y z f A h k c =
    let T = cell_standing t y f (spot s f).inside (spot s f).index z c in
    record { page = A.page; low = A.low; high = h; held = omega (arith, T.held); slot = k ∙ ap₂ (λ b i. Some (slot b i)) (sym T.backing) (sym T.index) }

-- a frame that has a page before it still has that page
among_stays : (a o p : ℕ) (g : List ℕ → List ℕ) (s t : Store) (x y : List ℕ) (h : ℕ) → Inside s x → p < 262144 → Stepped s x o p (write_page o p g (work_of s x)) t y h
    → (f : ℕ) → f < s.frames → Among a (line o p) s f → Among a (suc (line o p)) t f
unfolding work_of
among_stays a o p g s t x y h I hp S f l A =
    let ne : A.page ≡ line o p → ⊥ = λ q. omega (arith, A.high) in
    let w : Work = work_of s x in
    among_as a (line o p) (suc (line o p)) s t y (frame_at 4096 x f) f A (omega (arith, A.high))
    (ap (λ v. slot_at A.page v.ranges) S.work ∙ write_slot o p g w I.good.whole hp A.page ne (spot s f) A.slot)
    (ap (λ v. get_or v.cells f free) S.work
    ∙ write_frame o p g w I.good.whole hp A.page ne (spot s f) A.slot f (frame_at 4096 x f) (held_cell s x f l A.held))

-- nothing is done, and no frame's bytes change
pub still_goes : (s t : Store) (x y : List ℕ) (e : ℕ) → t.frames ≡ s.frames → work_of t y ≡ work_of s x → ((f : ℕ) → f < s.frames → frame_at 4096 y f ≡ frame_at 4096 x f) → Goes e e s x t y
unfolding Changed work_of
still_goes s t x y e n w same a x₀ l C f u =
    let m : f < s.frames = omega arith in
    ⊎_elim (λ (q : frame_at 4096 x f ≡ frame_at 4096 x₀ f). inl (same f m ∙ q))
    (λ (A : Among a e s f). inr (among_as a e e s t y (frame_at 4096 x f) f A A.high
    (ap (λ (v : Work). slot_at A.page v.ranges) w ∙ A.slot)
    (ap (λ (v : Work). get_or v.cells f free) w ∙ held_cell s x f m A.held)))
    (C f m)

-- the page's own frame is the only other one whose bytes change
pub changed_step : (a o p : ℕ) (g : List ℕ → List ℕ) (s t : Store) (x₀ x y : List ℕ) (h : ℕ) → Changed a (line o p) s x₀ x → a ≤ line o p → Inside s x → p < 262144
    → Stepped s x o p (write_page o p g (work_of s x)) t y h → Changed a (suc (line o p)) t x₀ y
unfolding Changed
changed_step a o p g s t x₀ x y h C l I hp S f u =
    by-eq f h
    (λ e. rw e (inr (record { page = line o p; low = l; high = omega arith; held = S.has.held; slot = S.has.slot })))
    (λ ne. let m : f < s.frames = omega (arith, S.frames) in
    ⊎_elim (λ (q : frame_at 4096 x f ≡ frame_at 4096 x₀ f). inl (S.others f ne ∙ q))
    (λ (A : Among a (line o p) s f). inr (among_stays a o p g s t x y h I hp S f m A)) (C f m))

-- ---- the pool that a call leaves

-- a free frame has no page, so it keeps its bytes
pub changed_pool : (a e : ℕ) (s : Store) (x₀ x : List ℕ) → Changed a e s x₀ x → length x ≡ length x₀ → s.frames * 4096 ≡ length x₀
    → pool_after 4096 (cells_of 4096 s.frames s.places x) x₀ ≡ x
unfolding Changed
changed_pool a e s x₀ x C l n =
    pool_left 4096 s.frames s.places x₀ x l n
    (λ f u z. ⊎_elim (λ (q : frame_at 4096 x f ≡ frame_at 4096 x₀ f). q) (λ (A : Among a e s f). absurd (omega (arith, A.held))) (C f u))
