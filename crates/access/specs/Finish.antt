-- What a call that works on pages has done, once its work is the book's.
use Rattle.std.specs.Prelude.{◌≡◌, List, ◌∷◌, ℕ, ◌*◌, length}
use Rattle.std.proofs.Math.Path.{refl, ap}
use Rattle.std.proofs.Common.{subst, sym, ◌∙◌, le_refl, arith}
use Rattle.book.specs.Sound as book
use Rattle.store.specs.declared.Store.{Store}
use Rattle.lists.specs.Test.{by-eq}
use Rattle.book.specs.Work.{Work, next, add_page}
use Rattle.book.specs.Bytes.{reading, writing}
use Rattle.book.specs.Book.{Call, add, read, write, Answer, added, bytes, done, Table, table, no_pool, entry, leave, perform, pool_after}
use Rattle.laws.specs.Accepted.{pool_row}
use Rattle.places.specs.Places.{FreeMap}
use Rattle.store.specs.Abs.{cells_of, book_of}
use Rattle.store.specs.Sound.{Sized}
use Rattle.store.specs.Iff.{says_sound}
use Rattle.store.specs.Spare.{work_of, entry_work}
use Rattle.store.specs.Back.{store_sound, sound_besides}
use Rattle.store.specs.Pool.{pool_same, pool_left}
use Rattle.refusals.specs.Refuse.{refusal}
use Rattle.calls.specs.Calls.{zero_sound}
use Rattle.calls.specs.Kept.{with_sound, with_accepted, with_left}
use Rattle.calls.specs.With.{DidWith, with_done}
use Rattle.pages.specs.Inside.{Inside, Stepped}
use Rattle.pages.specs.Changed.{Goes, changed_none, changed_pool}
use Rattle.writes.specs.Written.{Written}
use Rattle.pages.specs.Enter.{closed, closed_besides, closed_book}

-- a call whose work is the book's leaves a sound store and does what the book does
pub finish : (c : Call) (s : Store) (x : List ℕ) → Sized s → 0 ≡ refusal s x c → length x ≡ s.frames * 4096
    → (a : Answer) (w : Work) → perform (book_of s x) c ≡ record { answer = a; book = leave (book_of s x) w }
    → (t : Store) (y : List ℕ) → work_of t y ≡ w → Inside t y → t.frames ≡ s.frames → t.live ≡ s.live → (d : List ℕ) → FreeMap t.frames t.places d
    → pool_after 4096 (cells_of 4096 t.frames t.places y) x ≡ y → DidWith c s x 0 a (closed t d) y
finish c s x Z r l a w e t y v I f g d m p =
    let n : length y ≡ length x = omega (arith, I.pool) in
    let b : leave (book_of s x) w ≡ book_of (closed t d) y = ap (λ z. leave (book_of s x) z) (sym v) ∙ sym (closed_book s t x y d f g n) in
    let q : perform (book_of s x) c ≡ record { answer = a; book = book_of (closed t d) y } = e ∙ ap (λ z. record { answer = a; book = z }) b in
    let B : book.Sound (book_of (closed t d) y) = subst (λ z. book.Sound z.book) q (with_left c s x r Z (omega arith)) in
    with_done c s x a (closed t d) y r (says_sound (closed t d) (store_sound (closed t d) y B (closed_besides t y d I m)))
    (λ _. record { ranges = I.sized.ranges; places = I.sized.places; free = m.long }) q (sym p)

-- a call that asks for a pool and is not refused has one of the right length
pub pool_length : (c : Call) (s : Store) (x : List ℕ) → 0 ≡ refusal s x c → (rs : Table) → table (book_of s x) c ≡ (no_pool (book_of s x), 2) ∷ rs
    → length x ≡ s.frames * 4096
pool_length c s x r rs e = unfold book_of in pool_row (book_of s x) rs (rw e at (with_accepted c s x r))

module _ (s : Store) (x : List ℕ) (Z : Sized s) where
  -- the frame that holds an added page is the only one whose bytes change
  add_pool : (o p : ℕ) (w : Work) (t : Store) (y : List ℕ) (f : ℕ) → Stepped s x o p w t y f → length x ≡ s.frames * 4096
      → pool_after 4096 (cells_of 4096 t.frames t.places y) x ≡ y
  add_pool o p w t y f S l =
      pool_left 4096 t.frames t.places x y (omega (arith, S.inside.pool, S.frames)) (omega (arith, S.frames))
      (λ k u z. by-eq k f (λ e. absurd (let h = rw e at z in omega (arith, S.has.held))) (λ ne. S.others k ne))

  -- A PAGE ADDED, with the frame f
  pub add_done : (o p : ℕ) → 0 ≡ refusal s x (add o p) → (t : Store) (y : List ℕ) (f : ℕ) → Stepped s x o p (add_page o p (work_of s x)) t y f → f ≡ next (work_of s x)
      → (d : List ℕ) → FreeMap t.frames t.places d → DidWith (add o p) s x 0 (added f) (closed t d) y
  unfolding perform table
  add_done o p r t y f S e d m =
      let l = pool_length (add o p) s x r _ refl in
      let w : Work = add_page o p (work_of s x) in
      let q : perform (book_of s x) (add o p) ≡ record { answer = added f; book = leave (book_of s x) w } =
      ap (λ v. record { answer = added (next v); book = leave (book_of s x) (add_page o p v) }) (entry_work s Z (with_sound (add o p) s x r) x)
      ∙ ap (λ k. record { answer = added k; book = leave (book_of s x) w }) (sym e) in
      finish (add o p) s x Z r l (added f) w q t y S.work S.inside S.frames S.live d m (add_pool o p w t y f S l)

  -- the pool that is left by work on pages that began where no page was done
  pub goes_pool : (e e' : ℕ) (t : Store) (y : List ℕ) → Goes e e' s x t y → Inside t y → t.frames ≡ s.frames → length x ≡ s.frames * 4096
      → pool_after 4096 (cells_of 4096 t.frames t.places y) x ≡ y
  goes_pool e e' t y C I f l = changed_pool e e' t x y (C e x (le_refl e) (changed_none e s x)) (omega (arith, I.pool)) (omega arith)

  -- BYTES WRITTEN
  pub write_done : (o off : ℕ) (d : List ℕ) → 0 ≡ refusal s x (write o off d) → (t : Store) (y : List ℕ) → Written s x o off d t y → (m : List ℕ) → FreeMap t.frames t.places m
      → DidWith (write o off d) s x 0 done (closed t m) y
  unfolding perform table
  write_done o off d r t y W m M =
      let l = pool_length (write o off d) s x r _ refl in
      let w : Work = writing o off d (work_of s x) in
      let q : perform (book_of s x) (write o off d) ≡ record { answer = done; book = leave (book_of s x) w } =
      ap (λ u. record { answer = done; book = leave (book_of s x) (writing o off d u) }) (entry_work s Z (with_sound (write o off d) s x r) x) in
      finish (write o off d) s x Z r l done w q t y W.work W.inside W.frames W.live m M (goes_pool _ W.upto t y W.changed W.inside W.frames l)

  -- bytes written where they are: the store stays, and its free map is right
  pub write_stays : (o off : ℕ) (d : List ℕ) → 0 ≡ refusal s x (write o off d) → (y : List ℕ) → Written s x o off d s y → DidWith (write o off d) s x 0 done s y
  write_stays o off d r y W = write_done o off d r s y W s.free (sound_besides s Z (with_sound (write o off d) s x r)).bits

  -- BYTES READ: the store and the pool stay
  pub read_done : (o off n : ℕ) → 0 ≡ refusal s x (read o off n) → (buf : List ℕ) → buf ≡ reading o off n (entry (book_of s x))
      → DidWith (read o off n) s x 0 (bytes buf) s x
  unfolding perform
  read_done o off n r buf e =
      with_done (read o off n) s x (bytes buf) s x r (zero_sound (read o off n) s x r) (λ z. z)
      (ap (λ b. record { answer = bytes b; book = book_of s x }) (sym e)) (sym (pool_same 4096 s.frames s.places x))

-- said of the store as the code hands it back
pub handed : (c : Call) (s : Store) (x : List ℕ) (k : ℕ) (a : Answer) (t u : Store) (y : List ℕ) → u ≡ t → DidWith c s x k a t y → DidWith c s x k a u y
handed c s x k a t u y e D = subst (λ (v : Store). DidWith c s x k a v y) (sym e) D
