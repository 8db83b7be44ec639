-- THE PUBLIC CALLS, each known by nothing but its function's own contract: `Learnt` is what any caller learns of a call, and the function's proof shows it.
-- `Learnt κs a r e`: lifetimes of what is lent, arguments, result, arguments when the call ends.
use Rattle.std.specs.Prelude.{◌≡◌, true, List, ℕ, length, Result}
use Rattle.std.proofs.Common.{ap, sym, ◌∙◌}
use contract.Lifetimes.{Lfts}
use denote.Ref.{Bor, MutBor, at_last}
use Rattle.page.specs.declared.PageNumber.{PageNumber}
use Rattle.store.specs.declared.Store.{Store}
use Rattle.look.specs.declared.State.{State}
use Rattle.refusals.specs.declared.Refusal.{Refusal}
use Rattle.calls.specs.declared.Numbers.{Numbers}
use Rattle.calls.specs.declared.NotCreated.{NotCreated}
use Rattle.access.specs.declared.Added.{Added}
use Rattle.book.specs.Book.{Call, new_object, drop_object, add, look_up, show, read, write, copy, shadow, zero_out, counts, Answer, done, added, state, bytes, step, created, pool_after}
use Rattle.store.specs.Abs.{book_of}
use Rattle.store.specs.Sound.{Sized, sound?}
use Rattle.store.specs.Pool.{pool_same}
use Rattle.refusals.specs.Number.{number_of}
use Rattle.calls.specs.Calls.{said, left, numbers_in, state_in}
use Rattle.calls.specs.Made.{created_store}
use Rattle.calls.specs.With.{DidWith, did_with}
use Rattle.access.specs.Added.{frame_in, store_in}
use Rattle.view.specs.Showing.{show_book, show_same}
use Rattle.calls.proofs.new_object.Reads as new_reads
use Rattle.calls.proofs.drop_object.Reads as drop_reads
use Rattle.calls.proofs.look_up.Reads as look_reads
use Rattle.calls.proofs.counts.Reads as counts_reads
use Rattle.calls.proofs.create.Reads as create_reads
use Rattle.view.proofs.show.Reads as show_reads
use Rattle.access.proofs.add.Reads as add_reads
use Rattle.access.proofs.read.Reads as read_reads
use Rattle.access.proofs.write.Reads as write_reads
use Rattle.copies.proofs.copy_ranges.Reads as copy_reads
use Rattle.copies.proofs.copy_range_to_shadow.Reads as shadow_reads
use Rattle.copies.proofs.zero_ranges.Reads as zero_reads

-- bytes lent to be written: `now` is what they are when the call begins; `at_last lent y` the same reference, with the bytes y when it ends
abbrev pub Lent : Type 0
Lent = MutBor (List ℕ)

-- bytes lent to be read: they stay
abbrev pub Shared : Type 0
Shared = Bor (List ℕ)

-- ONE CALL: store and pool before, call, answer in the book's form, store and pool after. A call that lends no pool leaves it.
pub data Called : Store → List ℕ → Call → Answer → Store → List ℕ → Type 0 where
  called_new : (s : Store) (x : List ℕ) (o : ℕ) (r : Result Store Refusal) → new_reads.Learnt tt (s, (o, tt)) r (s, (o, tt))
      → Called s x (new_object o) (said (number_of r) done) (left s r) x
  called_drop : (s : Store) (x : List ℕ) (o : ℕ) (r : Result Store Refusal) → drop_reads.Learnt tt (s, (o, tt)) r (s, (o, tt))
      → Called s x (drop_object o) (said (number_of r) done) (left s r) x
  called_look : (s : Store) (x : List ℕ) (o : ℕ) (p : PageNumber) (r : Result State Refusal) → look_reads.Learnt tt (s, (o, (p, tt))) r (s, (o, (p, tt)))
      → Called s x (look_up o p.0) (said (number_of r) (state (state_in r))) s x
  called_counts : (s : Store) (x : List ℕ) (r : Result Numbers Refusal) → counts_reads.Learnt tt (s, tt) r (s, tt)
      → Called s x counts (said (number_of r) (numbers_in r)) s x
  called_show : (κs : Lfts 1) (s : Store) (pool : Shared) (o : ℕ) (p : PageNumber) (r : Shared)
      → show_reads.Learnt κs (s, (pool, (o, (p, tt)))) r (s, (pool, (o, (p, tt))))
      → Called s pool.now (show o p.0) (bytes r.now) s pool.now
  called_add : (κs : Lfts 1) (s : Store) (pool : Lent) (o : ℕ) (p : PageNumber) (r : Result Added Refusal) (y : List ℕ)
      → add_reads.Learnt κs (s, (pool, (o, (p, tt)))) r (s, (at_last pool y, (o, (p, tt))))
      → Called s pool.now (add o p.0) (said (number_of r) (added (frame_in r))) (store_in s r) y
  called_read : (κs : Lfts 2) (s : Store) (pool : Shared) (o a : ℕ) (buf : Lent) (r : Result (Unit {0}) Refusal) (d : List ℕ)
      → read_reads.Learnt κs (s, (pool, (o, (a, (buf, tt))))) r (s, (pool, (o, (a, (at_last buf d, tt)))))
      → Called s pool.now (read o a (length buf.now)) (said (number_of r) (bytes d)) s pool.now
  called_write : (κs : Lfts 2) (s : Store) (pool : Lent) (o a : ℕ) (src : Shared) (r : Result Store Refusal) (y : List ℕ)
      → write_reads.Learnt κs (s, (pool, (o, (a, (src, tt))))) r (s, (at_last pool y, (o, (a, (src, tt)))))
      → Called s pool.now (write o a src.now) (said (number_of r) done) (left s r) y
  called_copy : (κs : Lfts 1) (s : Store) (pool : Lent) (q a o b n : ℕ) (r : Result Store Refusal) (y : List ℕ)
      → copy_reads.Learnt κs (s, (pool, (q, (a, (o, (b, (n, tt))))))) r (s, (at_last pool y, (q, (a, (o, (b, (n, tt)))))))
      → Called s pool.now (copy q a o b n) (said (number_of r) done) (left s r) y
  called_shadow : (κs : Lfts 1) (s : Store) (pool : Shared) (q a o b n : ℕ) (r : Result Store Refusal)
      → shadow_reads.Learnt κs (s, (pool, (q, (a, (o, (b, (n, tt))))))) r (s, (pool, (q, (a, (o, (b, (n, tt)))))))
      → Called s pool.now (shadow q a o b n) (said (number_of r) done) (left s r) pool.now
  called_zero : (κs : Lfts 1) (s : Store) (pool : Lent) (o a n : ℕ) (r : Result Store Refusal) (y : List ℕ)
      → zero_reads.Learnt κs (s, (pool, (o, (a, (n, tt))))) r (s, (at_last pool y, (o, (a, (n, tt)))))
      → Called s pool.now (zero_out o a n) (said (number_of r) done) (left s r) y

-- "The list starts from any store as created and a pool of any length and bytes": frames asked for, pool, store
pub data Started : ℕ → List ℕ → Store → Type 0 where
  started : (frames : ℕ) (x : List ℕ) (r : Result Store NotCreated) → create_reads.Learnt tt (frames, tt) r (frames, tt) → Started frames x (created_store r)

-- ---- every call is the book's step

-- what a call makes of a sound store and its pool
pub record Stepped (s : Store) (x : List ℕ) (c : Call) (a : Answer) (t : Store) (y : List ℕ) : Type 0 where
  pub book : record { answer = a; book = book_of t y } ≡ step (book_of s x) c
  pub pool : y ≡ pool_after 4096 (step (book_of s x) c).book.cells x
  pub sound : sound? t ≡ true
  pub sized : Sized t

by_did : (c : Call) (s t : Store) (x y : List ℕ) (k : ℕ) (a : Answer) → DidWith c s x k a t y → sound? s ≡ true → Sized s → Stepped s x c (said k a) t y
by_did c s t x y k a D h Z = record { book = D.book h; pool = D.pool h; sound = D.sound h; sized = D.sized Z }

-- a call that changes neither store nor pool
by_same : (c : Call) (s : Store) (x : List ℕ) (a : Answer) → a ≡ (step (book_of s x) c).answer → book_of s x ≡ (step (book_of s x) c).book
    → sound? s ≡ true → Sized s → Stepped s x c a s x
unfolding book_of
by_same c s x a e f h Z = record {
  book = λ i. record { answer = e i; book = f i };
  pool = sym (pool_same 4096 s.frames s.places x) ∙ ap (λ b. pool_after 4096 b.cells x) f;
  sound = h;
  sized = Z;
}

pub stepped : {s t : Store} {x y : List ℕ} {c : Call} {a : Answer} → Called s x c a t y → sound? s ≡ true → Sized s → Stepped s x c a t y
stepped (called_new s x o r l) h Z = by_did _ s _ x x _ _ (did_with _ s _ _ _ l x) h Z
stepped (called_drop s x o r l) h Z = by_did _ s _ x x _ _ (did_with _ s _ _ _ l x) h Z
stepped (called_look s x o p r l) h Z = by_did _ s s x x _ _ (did_with _ s s _ _ l x) h Z
stepped (called_counts s x r l) h Z = by_did _ s s x x _ _ (did_with _ s s _ _ l x) h Z
stepped (called_show κs s pool o p r l) h Z =
    by_same (show o p.0) s pool.now _ (ap bytes l.0 ∙ show_book s Z o p.0 pool.now h) (show_same s pool.now o p.0) h Z
stepped (called_add κs s pool o p r y l) h Z = by_did _ s _ _ y _ _ l h Z
stepped (called_read κs s pool o a buf r d l) h Z = by_did _ s s _ _ _ _ l.0 h Z
stepped (called_write κs s pool o a src r y l) h Z = by_did _ s _ _ y _ _ l h Z
stepped (called_copy κs s pool q a o b n r y l) h Z = by_did _ s _ _ y _ _ l h Z
stepped (called_shadow κs s pool q a o b n r l) h Z = by_did _ s _ _ _ _ _ l h Z
stepped (called_zero κs s pool o a n r y l) h Z = by_did _ s _ _ y _ _ l h Z

-- a store as created: its book is a new one
pub begun : {frames : ℕ} {x : List ℕ} {s : Store} → Started frames x s → (book_of s x ≡ created frames (length x)) × (sound? s ≡ true) × Sized s
begun (started frames x r l) = (ap (λ d. d.book) (l.book x), l.sound, l.sized)
