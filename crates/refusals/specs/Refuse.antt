-- WHY A CALL IS TURNED DOWN, of a store: 1 if it is not sound, else by the table, read on its book.
use Rattle.std.specs.Prelude.{◌≡◌, refl, Bool, true, false, not, ◌||◌, List, [], ◌∷◌, ◌++◌, ℕ, ◌+◌, ◌*◌, ◌%◌, ◌≤◌, ◌<◌, ltb, leb, eqb, length, get_or}
use mathlib.Mathlib.Data.Bool.Basic.{or-eq-false-eq-eq-false-and-eq-false}
use native.Mathlib.Omega.{arith}
use Rattle.std.proofs.Common.{ap, ◌∙◌}
use borrow.Author.Tests.{eq-eqb, ne_eqb, le-ltb, lt-ltb, ltb-false}
use Rattle.store.specs.declared.Store.{Store}
use Rattle.lists.specs.Test.{pick}
use Rattle.lists.specs.Every.{All}
use Rattle.book.specs.Need.{need_add, need_write, need_copy, need_shadow, need_zero}
use Rattle.book.specs.Book.{Call, new_object, drop_object, add, look_up, show, read, write, copy, shadow, zero_out, Table, table, entry, lacking, lowest, past_end}
use Rattle.store.specs.Abs.{live_bit, live_of, book_of}
use Rattle.store.specs.Live.{live_at}
use Rattle.store.specs.Sound.{Sound, sound?}
use Rattle.store.specs.Iff.{says_sound}
use Rattle.refusals.specs.declared.Refusal.{Refusal}
use Rattle.refusals.specs.Number.{number, number_positive}

-- 1: "the store isn't sound"
abbrev pub refusal : Store → List ℕ → Call → ℕ
refusal s x c = lowest ((not (sound? s), 1) ∷ table (book_of s x) c)

-- row 1 never applies to a sound store
pub row_one : (s : Store) → Sound s → not (sound? s) ≡ false
row_one s S = ap not (says_sound s S)

-- 3: "a name above 31; except at creation of an object, one not live"
abbrev pub no_name : Store → ℕ → Bool
no_name s o = ltb 31 o || not (get_or (live_of s.live) o false)

module _ (s : Store) (o : ℕ) where
  pub name_high : 31 < o → no_name s o ≡ true
  name_high l = rw (lt-ltb 31 o l)

  module _ (l : o ≤ 31) where
    pub name_dead : live_bit s.live o ≡ false → no_name s o ≡ true
    name_dead e = rw (le-ltb 31 o l, live_at s.live o (omega arith), e)

    pub name_live : live_bit s.live o ≡ true → no_name s o ≡ false
    name_live e = rw (le-ltb 31 o l, live_at s.live o (omega arith), e)

-- The row that decides, by cases: the rows before it do not apply, or the number of the rows left is known.
pub data Row : Table → ℕ → Type 0 where
  none_left : Row [] 0
  applies : {t : Bool} {k : ℕ} {rs : Table} → t ≡ true → Row ((t, k) ∷ rs) k
  passes : {t : Bool} {j k : ℕ} {rs : Table} → t ≡ false → Row rs j → Row ((t, k) ∷ rs) j
  known : {k : ℕ} {rs : Table} → k ≡ lowest rs → Row rs k

pub decides : (rs : Table) (k : ℕ) → Row rs k → k ≡ lowest rs
unfolding lowest
decides rs k none_left = refl
decides rs k (applies e) = rw e
decides rs k (passes e r) = rw e (decides _ k r)
decides rs k (known e) = e

-- a number that the first rows give is that of all rows
pub stops : (rs qs : Table) (k : ℕ) → 0 < k → k ≡ lowest rs → Row (rs ++ qs) k
unfolding lowest
stops [] qs k h e = absurd (omega arith)
stops ((true, j) ∷ rs) qs k h e = rw e (applies refl)
stops ((false, j) ∷ rs) qs k h e = passes refl (stops rs qs k h e)

-- so what the first tests of a call refuse the call is refused
pub refused_first : (rs qs : Table) (e : Refusal) → number e ≡ lowest rs → Row (rs ++ qs) (number e)
refused_first rs qs e q = stops rs qs (number e) (number_positive e) q

-- where none of the first rows applies their tests are false
none_apply : (rs : Table) → All (λ r. 0 < r.1) rs → 0 ≡ lowest rs → All (λ r. r.0 ≡ false) rs
unfolding lowest All
none_apply [] h e = h
none_apply ((true, j) ∷ rs) h e = absurd (omega (arith, h.0))
none_apply ((false, j) ∷ rs) h e = (refl, none_apply rs h.1 e)

-- and the rows behind them decide
follows : (rs qs : Table) (k : ℕ) → All (λ r. r.0 ≡ false) rs → Row qs k → Row (rs ++ qs) k
unfolding All
follows [] qs k h r = r
follows (t ∷ rs) qs k h r = passes h.0 (follows rs qs k h.1 r)

-- a row that was tested by itself
module _ (t : Bool) (j : ℕ) where
  pub row_refuses : (e : Refusal) → number e ≡ lowest ((t, j) ∷ []) → {rs : Table} → Row ((t, j) ∷ rs) (number e)
  row_refuses e q {rs} = refused_first ((t, j) ∷ []) rs e q

  pub row_false : 0 < j → 0 ≡ lowest ((t, j) ∷ []) → t ≡ false
  unfolding All
  row_false h e = (none_apply ((t, j) ∷ []) (h, tt) e).0

  pub row_passes : 0 < j → 0 ≡ lowest ((t, j) ∷ []) → {rs : Table} {k : ℕ} → Row rs k → Row ((t, j) ∷ rs) k
  unfolding All
  row_passes h e {rs} {k} r = follows ((t, j) ∷ []) rs k (none_apply ((t, j) ∷ []) (h, tt) e) r

-- two rows of one number are one row
either : (a b : Bool) (x y : ℕ) → pick a x (pick b x y) ≡ pick (a || b) x y
either true b x y = refl
either false b x y = refl

pub both_rows : (a b : Bool) (j : ℕ) {rs : Table} {k : ℕ} → Row ((a, j) ∷ (b, j) ∷ rs) k → Row ((a || b, j) ∷ rs) k
unfolding lowest
both_rows a b j {rs} {k} r = known (decides _ k r ∙ either a b j (lowest rs))

-- ---- rows 1, 2 and 3 of a call that lends a pool of n bytes and names object o

abbrev pub opening : Store → ℕ → ℕ → Table
opening s n o = (not (sound? s), 1) ∷ (not (eqb n (s.frames * 4096)), 2) ∷ (no_name s o, 3) ∷ []

-- where none of the three applies the rows behind them decide
pub opened : (s : Store) (n o : ℕ) → 0 ≡ lowest (opening s n o) → {rs : Table} {k : ℕ} → Row rs k → Row (opening s n o ++ rs) k
unfolding All
opened s n o e {rs} {k} r = follows (opening s n o) rs k (none_apply (opening s n o) (omega arith, (omega arith, (omega arith, tt))) e) r

-- ---- rows 1, 2, 3, 5 and 6 of a call that lends a pool of n bytes and names m bytes of a source o from x, and of a destination q from y

abbrev pub pairing : Store → ℕ → ℕ → ℕ → ℕ → ℕ → ℕ → Table
pairing s n o x q y m = opening s n o ++ ((no_name s q, 3) ∷ (eqb o q, 5) ∷ (past_end x m || past_end y m, 6) ∷ [])

module _ (s : Store) (n o x q y m : ℕ) (e : 0 ≡ lowest (pairing s n o x q y m)) where
  -- where none of them applies their tests are false
  unpaired : All (λ r. r.0 ≡ false) (pairing s n o x q y m)
  unfolding All
  unpaired = none_apply (pairing s n o x q y m) (omega arith, (omega arith, (omega arith, (omega arith, (omega arith, (omega arith, tt)))))) e

  -- and the rows behind them decide
  pub paired : {rs : Table} {k : ℕ} → Row rs k → Row (pairing s n o x q y m ++ rs) k
  paired {rs} {k} r = follows (pairing s n o x q y m) rs k unpaired r

  -- both spans end in their objects
  pub paired_ends : (x + m ≤ 1073741824) × (y + m ≤ 1073741824)
  unfolding All
  paired_ends = let z = (or-eq-false-eq-eq-false-and-eq-false (past_end x m) (past_end y m)).0 unpaired.1.1.1.1.1.0 in (ltb-false 1073741824 (x + m) z.0, ltb-false 1073741824 (y + m) z.1)

-- row 7: "source offset or length no multiple of 4,096"
module _ (x m : ℕ) where
  pub part_first : (x % 4096 ≡ 0 → ⊥) → (not (eqb (x % 4096) 0) || not (eqb (m % 4096) 0)) ≡ true
  part_first h = rw (ne_eqb (x % 4096) 0 h)

  module _ (e : x % 4096 ≡ 0) where
    pub part_second : (m % 4096 ≡ 0 → ⊥) → (not (eqb (x % 4096) 0) || not (eqb (m % 4096) 0)) ≡ true
    part_second h = rw (eq-eqb (x % 4096) 0 e, ne_eqb (m % 4096) 0 h)

    pub whole_both : m % 4096 ≡ 0 → (not (eqb (x % 4096) 0) || not (eqb (m % 4096) 0)) ≡ false
    whole_both f = rw (eq-eqb (x % 4096) 0 e, eq-eqb (m % 4096) 0 f)

-- ---- the number of each call, of a store

module _ (s : Store) (k : ℕ) where
  pub new_number : (o : ℕ) → Row ((not (sound? s), 1) ∷ (ltb 31 o, 3) ∷ (get_or (live_of s.live) o false, 4) ∷ []) k → (x : List ℕ) → k ≡ refusal s x (new_object o)
  unfolding table book_of
  new_number o r x = decides _ k r

  pub drop_number : (o : ℕ) → Row ((not (sound? s), 1) ∷ (no_name s o, 3) ∷ []) k → (x : List ℕ) → k ≡ refusal s x (drop_object o)
  unfolding table book_of
  drop_number o r x = decides _ k r

  pub look_number : (o p : ℕ) → Row ((not (sound? s), 1) ∷ (no_name s o, 3) ∷ (leb 262144 p, 6) ∷ []) k
      → (x : List ℕ) → k ≡ refusal s x (look_up o p)
  unfolding table book_of
  look_number o p r x = decides _ k r

  pub show_number : (n o p : ℕ) → Row (opening s n o ++ ((leb 262144 p, 6) ∷ [])) k → (x : List ℕ) → length x ≡ n → k ≡ refusal s x (show o p)
  unfolding table book_of
  show_number n o p r x e = rw e (decides _ k r)

  pub add_number : (n o p : ℕ) → ((x : List ℕ) → Row (opening s n o ++ ((leb 262144 p, 6) ∷ lacking (entry (book_of s x)) need_add)) k)
      → (x : List ℕ) → length x ≡ n → k ≡ refusal s x (add o p)
  unfolding table book_of entry
  add_number n o p r x e = rw e (decides _ k (r x))

  pub read_number : (n o y m : ℕ) → Row (opening s n o ++ ((past_end y m, 6) ∷ [])) k → (x : List ℕ) → length x ≡ n → k ≡ refusal s x (read o y m)
  unfolding table book_of
  read_number n o y m r x e = rw e (decides _ k r)

  pub write_number : (n o y m : ℕ) → ((x : List ℕ) → Row (opening s n o ++ ((past_end y m, 6) ∷ lacking (entry (book_of s x)) (need_write o y m (entry (book_of s x))))) k)
      → (x d : List ℕ) → length x ≡ n → length d ≡ m → k ≡ refusal s x (write o y d)
  unfolding table book_of entry
  write_number n o y m r x d e f = rw (e, f) (decides _ k (r x))

  -- the table has one row for both names
  pub copy_number : (n o x q y m : ℕ) → ((c : List ℕ) → Row (pairing s n o x q y m ++ lacking (entry (book_of s c)) (need_copy o x q y m (entry (book_of s c)))) k)
      → (c : List ℕ) → length c ≡ n → k ≡ refusal s c (copy o x q y m)
  unfolding table book_of entry lowest
  copy_number n o x q y m r c e = rw (e, ← either (no_name s o) (no_name s q) 3 _) (decides _ k (r c))

  pub shadow_number : (n o x q y m : ℕ)
      → ((c : List ℕ) → Row (pairing s n o x q y m ++ ((not (eqb (x % 4096) 0) || not (eqb (m % 4096) 0), 7) ∷ lacking (entry (book_of s c)) (need_shadow o x m (entry (book_of s c))))) k)
      → (c : List ℕ) → length c ≡ n → k ≡ refusal s c (shadow o x q y m)
  unfolding table book_of entry lowest
  shadow_number n o x q y m r c e = rw (e, ← either (no_name s o) (no_name s q) 3 _) (decides _ k (r c))

  pub zero_number : (n o y m : ℕ) → ((x : List ℕ) → Row (opening s n o ++ ((past_end y m, 6) ∷ lacking (entry (book_of s x)) (need_zero o y m (entry (book_of s x))))) k)
      → (x : List ℕ) → length x ≡ n → k ≡ refusal s x (zero_out o y m)
  unfolding table book_of entry
  zero_number n o y m r x e = rw e (decides _ k (r x))
