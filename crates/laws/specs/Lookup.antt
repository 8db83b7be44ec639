-- LOOKUP: the state that it answers is the page's: absent, or present in a range whose backing has one holder, or more.
use Rattle.std.specs.Prelude.{◌≡◌, refl, ℕ, ◌≤◌, ◌<◌, Option, Some, None}
use Rattle.std.proofs.Common.{ap, sym, ◌∙◌, arith, ltb-true, ltb-false}
use mathlib.Core.List.{List, Memᴰ}
use Rattle.lists.specs.Test.{by-test}
use Rattle.ranges.specs.Range.{Range, Slot, line, from, upto, slot_in, slot_at}
use Rattle.ranges.specs.Table.{holders}
use Rattle.ranges.specs.Find.{Found, found, slot_mem}
use Rattle.ranges.specs.Hold.{held_some}
use Rattle.book.specs.Work.{is_shared, page_of}
use Rattle.book.specs.Need.{State, absent, private, shared, state_in, state_of}
use Rattle.book.specs.Book.{Book, Answer, look_up, state, entry, perform, step}
use Rattle.book.specs.Sound.{Sound}
use Rattle.laws.specs.Accepted.{Accepted, accepted_step}

-- page p of object o is in this state: it has no bytes; or it has bytes and is in a range r of the table, and r's backing has exactly one holder, or more
pub data Looked (b : Book) (o p : ℕ) : State → Type 0 where
  is_absent : page_of (line o p) (entry b) ≡ None → Looked b o p absent
  is_private : (x : List ℕ) (r : Range) → page_of (line o p) (entry b) ≡ Some x → Memᴰ r b.ranges → from r ≤ line o p → line o p < upto r
      → holders r.backing b.ranges ≡ 1 → Looked b o p private
  is_shared_lem : (x : List ℕ) (r : Range) → page_of (line o p) (entry b) ≡ Some x → Memᴰ r b.ranges → from r ≤ line o p → line o p < upto r
      → 1 < holders r.backing b.ranges → Looked b o p shared

-- an answer that is such a state
pub record Look (b : Book) (o p : ℕ) (a : Answer) : Type 0 where
  pub found : State
  pub is : a ≡ state found
  pub looked : Looked b o p found

-- the state that the book finds
pub state_looked : (b : Book) (o p : ℕ) → Looked b o p (state_of o p (entry b))
unfolding state_of page_of entry
state_looked b o p = go (slot_at (line o p) (entry b).ranges) refl (page_of (line o p) (entry b)) refl
  where
    go : (s : Option Slot) → slot_at (line o p) (entry b).ranges ≡ s → (y : Option (List ℕ)) → page_of (line o p) (entry b) ≡ y → Looked b o p (state_in (entry b) s y)
    go None e None f = is_absent f
    go None e (Some y) f = absurd (let a : None ≡ Some y = rw e at f in let z : ◌≡◌ {A = ℕ} 0 1 = cc in omega arith)
    go (Some s) e None f = is_absent f
    go (Some s) e (Some y) f =
        let F : Found (line o p) b.ranges s = found (line o p) b.ranges s e in
        let k : s.inside ≡ F.r.backing = ap (λ t. t.inside) F.is in
        by-test (is_shared s.inside b.ranges)
        (λ t. rw t (is_shared_lem y F.r f F.mem F.low F.high (rw (← k) (ltb-true _ _ t))))
        (λ t. rw t (is_private y F.r f F.mem F.low F.high (held_some F.r.backing b.ranges F.r F.mem refl (rw (← k) (ltb-false _ _ t)))))

-- A LOOKUP that is not refused answers the page's state
pub look_law : (b : Book) (o p : ℕ) → Accepted b (look_up o p) → Look b o p (step b (look_up o p)).answer
unfolding perform
look_law b o p e = record { found = state_of o p (entry b); is = ap (λ d. d.answer) (accepted_step b (look_up o p) e); looked = state_looked b o p }

-- and no other: a page is in one state only
module _ (b : Book) (S : Sound b) (o p : ℕ) where
  -- two ranges that contain the page have as many holders
  as_many : (r q : Range) → Memᴰ r b.ranges → from r ≤ line o p → line o p < upto r → Memᴰ q b.ranges → from q ≤ line o p → line o p < upto q
      → holders r.backing b.ranges ≡ holders q.backing b.ranges
  as_many r q m l u n k v =
      ap (λ c. holders c b.ranges) (one (slot_in (line o p) r) (slot_in (line o p) q)
      (sym (slot_mem 0 (line o p) r b.ranges S.order m l u) ∙ slot_mem 0 (line o p) q b.ranges S.order n k v))
    where
      one : (s t : Slot) → Some s ≡ Some t → s.inside ≡ t.inside
      one s t e = let z : s ≡ t = cc in ap (λ (y : Slot). y.inside) z

  not_both : (x : List ℕ) → page_of (line o p) (entry b) ≡ None → page_of (line o p) (entry b) ≡ Some x → ⊥
  not_both x d e = let z : ◌≡◌ {A = ℕ} 0 1 = cc in omega arith

  pub look_once : (s t : State) → Looked b o p s → Looked b o p t → s ≡ t
  look_once s t (is_absent d) (is_absent e) = refl
  look_once s t (is_absent d) (is_private x r e m l u h) = absurd (not_both x d e)
  look_once s t (is_absent d) (is_shared_lem x r e m l u h) = absurd (not_both x d e)
  look_once s t (is_private x r e m l u h) (is_absent d) = absurd (not_both x d e)
  look_once s t (is_private x r e m l u h) (is_private y q f n k v i) = refl
  look_once s t (is_private x r e m l u h) (is_shared_lem y q f n k v i) = absurd (omega (arith, as_many r q m l u n k v))
  look_once s t (is_shared_lem x r e m l u h) (is_absent d) = absurd (not_both x d e)
  look_once s t (is_shared_lem x r e m l u h) (is_private y q f n k v i) = absurd (omega (arith, as_many r q m l u n k v))
  look_once s t (is_shared_lem x r e m l u h) (is_shared_lem y q f n k v i) = refl
