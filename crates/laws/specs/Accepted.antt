-- What a call that is not refused may rely on: the rows of its table that do not apply, in words.
use Rattle.std.specs.Prelude.{◌≡◌, refl, Bool, true, false, not, ◌||◌, List, [], ◌∷◌, ℕ, zero, suc, ◌+◌, ◌*◌, ◌/◌, ◌%◌, ◌≤◌, ◌<◌, ltb, eqb, length, get_or}
use Rattle.std.proofs.Common.{true≢false, arith, ltb-false, leb-false, eqb-true}
use Rattle.std.proofs.lemmas.Bool.{eqb-false}
use Rattle.book.specs.Page.{object_bytes}
use Rattle.book.specs.Need.{Need, need_add, need_write, need_copy, need_shadow, need_zero}
use Rattle.book.specs.Book.{Book, Call, new_object, drop_object, add, look_up, show, read, write, copy, shadow, zero_out, Table, lowest, entry, perform, table, past_page, past_end, no_pool, no_object, not_whole, lacking, declined, judged, step}

-- the call is not refused
abbrev pub Accepted : Book → Call → Type 0
Accepted b c = lowest (table b c) ≡ 0

pub accepted_step : (b : Book) (c : Call) → Accepted b c → step b c ≡ perform b c
unfolding step
accepted_step b c e = rw e

-- A REFUSED CALL CHANGES NOTHING
pub refused_step : (b : Book) (c : Call) → (Accepted b c → ⊥) → step b c ≡ record { answer = declined c (lowest (table b c)); book = b }
unfolding step
refused_step b c ne = go (lowest (table b c)) ne
  where
    go : (k : ℕ) → (k ≡ 0 → ⊥) → judged k b c ≡ record { answer = declined c k; book = b }
    go zero h = absurd (h refl)
    go (suc k) h = refl

-- a row that does not apply, and those after it
row : (t : Bool) (k : ℕ) (rs : Table) → 0 < k → lowest ((t, k) ∷ rs) ≡ 0 → (t ≡ false) × (lowest rs ≡ 0)
unfolding lowest
row true k rs h e = absurd (omega arith)
row false k rs h e = (refl, e)

neither : (a b : Bool) → (a || b) ≡ false → (a ≡ false) × (b ≡ false)
neither true b e = absurd (true≢false e)
neither false b e = (refl, e)

untrue : (t : Bool) → not t ≡ false → t ≡ true
untrue true e = refl
untrue false e = absurd (true≢false e)

-- row 2: the pool has all frames
pub pool_row : (b : Book) (rs : Table) → lowest ((no_pool b, 2) ∷ rs) ≡ 0 → b.pool ≡ b.frames * b.size
pool_row b rs e = eqb-true b.pool (b.frames * b.size) (untrue _ (row (no_pool b) 2 rs (omega arith) e).0)

-- a name that is live
pub record Live (b : Book) (o : ℕ) : Type 0 where
  pub small : o < 32
  pub is : get_or b.live o false ≡ true

live_row : (b : Book) (o : ℕ) → no_object b o ≡ false → Live b o
live_row b o e =
    let n = neither (ltb 31 o) (not (get_or b.live o false)) e in
    record { small = omega (arith, ltb-false 31 o n.0); is = untrue (get_or b.live o false) n.1 }

-- rows 8 and 9: the frames and the slots are there
pub record Room (b : Book) (k : Need) : Type 0 where
  pub frames : k.frames ≤ length (entry b).spare
  pub slots : length (entry b).ranges + k.slots ≤ 512

room_rows : (b : Book) (k : Need) → lowest (lacking (entry b) k) ≡ 0 → Room b k
room_rows b k e =
    let r = row (ltb (length (entry b).spare) k.frames) 8 _ (omega arith) e in
    let s = row (ltb 512 (length (entry b).ranges + k.slots)) 9 _ (omega arith) r.1 in
    record { frames = ltb-false _ _ r.0; slots = ltb-false 512 _ s.0 }

-- of a call on one object: the pool is that of the frames, the object is live, and what else the table asks
pub record One (b : Book) (o : ℕ) (t : Bool) (rs : Table) : Type 0 where
  pub pool : b.pool ≡ b.frames * b.size
  pub live : Live b o
  pub inside : t ≡ false
  pub rest : lowest rs ≡ 0

one_rows : (b : Book) (o : ℕ) (t : Bool) (rs : Table) → lowest ((no_pool b, 2) ∷ (no_object b o, 3) ∷ (t, 6) ∷ rs) ≡ 0 → One b o t rs
one_rows b o t rs e =
    let p = row (no_pool b) 2 _ (omega arith) e in
    let q = row (no_object b o) 3 _ (omega arith) p.1 in
    let r = row t 6 _ (omega arith) q.1 in
    record { pool = pool_row b _ e; live = live_row b o q.0; inside = r.0; rest = r.1 }

-- of a call on a span of one object
pub record Span (b : Book) (o x n : ℕ) (k : Need) : Type 0 where
  pub pool : b.pool ≡ b.frames * b.size
  pub live : Live b o
  pub ends : x + n ≤ object_bytes
  pub room : Room b k

span_rows : (b : Book) (o x n : ℕ) (k : Need) → lowest ((no_pool b, 2) ∷ (no_object b o, 3) ∷ (past_end x n, 6) ∷ lacking (entry b) k) ≡ 0 → Span b o x n k
span_rows b o x n k e =
    let A = one_rows b o (past_end x n) (lacking (entry b) k) e in
    record { pool = A.pool; live = A.live; ends = ltb-false object_bytes (x + n) A.inside; room = room_rows b k A.rest }

pub write_rows : (b : Book) (o x : ℕ) (d : List ℕ) → Accepted b (write o x d) → Span b o x (length d) (need_write o x (length d) (entry b))
unfolding table
write_rows b o x d e = span_rows b o x (length d) (need_write o x (length d) (entry b)) e

pub zero_rows : (b : Book) (o x n : ℕ) → Accepted b (zero_out o x n) → Span b o x n (need_zero o x n (entry b))
unfolding table
zero_rows b o x n e = span_rows b o x n (need_zero o x n (entry b)) e

-- of an added page
pub record Page (b : Book) (o p : ℕ) : Type 0 where
  pub pool : b.pool ≡ b.frames * b.size
  pub live : Live b o
  pub ends : p < object_bytes / b.size
  pub room : Room b need_add

pub add_rows : (b : Book) (o p : ℕ) → Accepted b (add o p) → Page b o p
unfolding table
add_rows b o p e =
    let A = one_rows b o (past_page b p) (lacking (entry b) need_add) e in
    record { pool = A.pool; live = A.live; ends = leb-false (object_bytes / b.size) p A.inside; room = room_rows b need_add A.rest }

-- of the calls that only look
pub look_rows : (b : Book) (o p : ℕ) → Accepted b (look_up o p) → Live b o × (p < object_bytes / b.size)
unfolding table
look_rows b o p e =
    let r = row (no_object b o) 3 _ (omega arith) e in
    (live_row b o r.0, leb-false (object_bytes / b.size) p (row (past_page b p) 6 _ (omega arith) r.1).0)

pub show_rows : (b : Book) (o p : ℕ) → Accepted b (show o p) → (b.pool ≡ b.frames * b.size) × Live b o × (p < object_bytes / b.size)
unfolding table
show_rows b o p e =
    let A = one_rows b o (past_page b p) [] e in
    (A.pool, A.live, leb-false (object_bytes / b.size) p A.inside)

pub read_rows : (b : Book) (o x n : ℕ) → Accepted b (read o x n) → (b.pool ≡ b.frames * b.size) × Live b o × (x + n ≤ object_bytes)
unfolding table
read_rows b o x n e =
    let A = one_rows b o (past_end x n) [] e in
    (A.pool, A.live, ltb-false object_bytes (x + n) A.inside)

-- of a copy of either kind
pub record Pair (b : Book) (s x o y n : ℕ) (rs : Table) : Type 0 where
  pub source : Live b s
  pub live : Live b o
  pub other : s ≡ o → ⊥
  pub begins : x + n ≤ object_bytes
  pub ends : y + n ≤ object_bytes
  pub rest : lowest rs ≡ 0

pair_rows : (b : Book) (s x o y n : ℕ) (rs : Table)
    → lowest ((no_pool b, 2) ∷ (no_object b s || no_object b o, 3) ∷ (eqb s o, 5) ∷ (past_end x n || past_end y n, 6) ∷ rs) ≡ 0 → Pair b s x o y n rs
pair_rows b s x o y n rs e =
    let p = row (no_pool b) 2 _ (omega arith) e in
    let q = row (no_object b s || no_object b o) 3 _ (omega arith) p.1 in
    let t = row (eqb s o) 5 _ (omega arith) q.1 in
    let r = row (past_end x n || past_end y n) 6 rs (omega arith) t.1 in
    let l = neither (no_object b s) (no_object b o) q.0 in
    let m = neither (past_end x n) (past_end y n) r.0 in
    record {
      source = live_row b s l.0;
      live = live_row b o l.1;
      other = eqb-false s o t.0;
      begins = ltb-false object_bytes (x + n) m.0;
      ends = ltb-false object_bytes (y + n) m.1;
      rest = r.1;
    }

pub record Copied (b : Book) (s x o y n : ℕ) (k : Need) : Type 0 where
  pub source : Live b s
  pub live : Live b o
  pub other : s ≡ o → ⊥
  pub begins : x + n ≤ object_bytes
  pub ends : y + n ≤ object_bytes
  pub room : Room b k

pub copy_rows : (b : Book) (s x o y n : ℕ) → Accepted b (copy s x o y n) → Copied b s x o y n (need_copy s x o y n (entry b))
unfolding table
copy_rows b s x o y n e =
    let P = pair_rows b s x o y n _ e in
    record { source = P.source; live = P.live; other = P.other; begins = P.begins; ends = P.ends; room = room_rows b _ P.rest }

-- of a shadow copy also row 7
pub record Shadowed (b : Book) (s x o y n : ℕ) : Type 0 where
  pub copied : Copied b s x o y n (need_shadow s x n (entry b))
  pub first : x % b.size ≡ 0
  pub whole : n % b.size ≡ 0

pub shadow_rows : (b : Book) (s x o y n : ℕ) → Accepted b (shadow s x o y n) → Shadowed b s x o y n
unfolding table
shadow_rows b s x o y n e =
    let P = pair_rows b s x o y n _ e in
    let r = row (not_whole b x || not_whole b n) 7 _ (omega arith) P.rest in
    let m = neither (not_whole b x) (not_whole b n) r.0 in
    record {
      copied = record { source = P.source; live = P.live; other = P.other; begins = P.begins; ends = P.ends; room = room_rows b _ r.1 };
      first = eqb-true (x % b.size) 0 (untrue _ m.0);
      whole = eqb-true (n % b.size) 0 (untrue _ m.1);
    }

pub new_rows : (b : Book) (o : ℕ) → Accepted b (new_object o) → (o < 32) × (get_or b.live o false ≡ false)
unfolding table
new_rows b o e =
    let r = row (ltb 31 o) 3 _ (omega arith) e in
    let s = row (get_or b.live o false) 4 _ (omega arith) r.1 in
    (omega (arith, ltb-false 31 o r.0), s.0)

pub drop_rows : (b : Book) (o : ℕ) → Accepted b (drop_object o) → Live b o
unfolding table
drop_rows b o e = live_row b o (row (no_object b o) 3 _ (omega arith) e).0
