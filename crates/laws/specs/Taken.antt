-- What a write leaves besides bytes: the ranges of other objects, and what later pages want; and a write within one page.
use Rattle.std.specs.Prelude.{◌≡◌, refl, List, ℕ, zero, suc, ◌+◌, ◌-◌, ◌*◌, ◌/◌, ◌%◌, ◌≤◌, ◌<◌, eqb, length, take, drop, Option, Some, None}
use Rattle.std.proofs.Common.{ap, ◌∙◌, zero-le, arith, take_all, eq-eqb, ne_eqb, one-mul}
use Rattle.lists.specs.Test.{pick, by-eq}
use Rattle.ranges.specs.Range.{Slot, line, slot_at}
use Rattle.ranges.specs.Met.{meets_put, other_object}
use Rattle.ranges.specs.Table.{parts}
use Rattle.book.specs.Page.{Span, touched, over}
use Rattle.book.specs.Work.{Work, settle, writable, edited, write_page}
use Rattle.book.specs.Bytes.{write_from, writing}
use Rattle.book.specs.Pages.{met}
use Rattle.book.specs.Need.{wants, wanted, partly}
use Rattle.laws.specs.State.{Ordered, Tight, Good}
use Rattle.laws.specs.Way.{Way, as_is, settled, writable_way}
use Rattle.laws.specs.PageLaw.{Other, way_slot, write_good}
use Rattle.laws.specs.Enough.{wants_less}
use Rattle.laws.specs.Spans.{page_bound}
use Rattle.laws.specs.Reading.{page_div}

-- ---- the ranges of other objects

-- a step on object o leaves the pages of every other object where they are kept, and as many ranges for a span of it to meet
pub record Beside (o : ℕ) (w v : Work) : Type 0 where
  pub slots : (g : ℕ) → Other o g → slot_at g v.ranges ≡ slot_at g w.ranges
  pub meets : (s q n : ℕ) → (s ≡ o → ⊥) → q + n ≤ 262144 → met s q n v ≡ met s q n w

beside_then : (o : ℕ) (w u v : Work) → Beside o w u → Beside o u v → Beside o w v
beside_then o w u v A B = record
    { slots = λ g x. B.slots g x ∙ A.slots g x; meets = λ s q n ne h. B.meets s q n ne h ∙ A.meets s q n ne h }

-- the same ranges
same_beside : (o : ℕ) (w v : Work) → v.ranges ≡ w.ranges → Beside o w v
unfolding met
same_beside o w v e = record { slots = λ g x. ap (λ rs. slot_at g rs) e; meets = λ s q n ne h. ap (λ rs. length (parts (line s q) (line s q + n) rs)) e }

way_beside : (o p : ℕ) (x : List ℕ) (w v : Work) → Way o p w x v → Beside o w v
unfolding settle met
way_beside o p x w v (as_is P e) = same_beside o w w refl
way_beside o p x w v (settled n S) = record {
  slots = way_slot o p x w _ (settled n S);
  meets = λ s q k ne h. meets_put (line s q) (line s q + k) n w.ranges (other_object s q k n (λ e. ne (e ∙ S.object)) h S.within);
}

page_beside : (o p : ℕ) (f : List ℕ → List ℕ) (w : Work) → Ordered w → p < 262144 → Beside o w (write_page o p f w)
unfolding write_page
page_beside o p f w W hp =
    beside_then o w (writable o p w) _ (way_beside o p _ w _ (writable_way o p w W hp))
    (same_beside o (writable o p w) _ (go (slot_at (line o p) (writable o p w).ranges)))
  where
    go : (t : Option Slot) → (edited t f (writable o p w)).ranges ≡ (writable o p w).ranges
    go None = refl
    go (Some s) = refl

write_from_beside : (size i o p k : ℕ) (d : List ℕ) (w : Work) → Ordered w → Tight w → p + i ≤ 262144 → Beside o w (write_from size i o p k d w)
unfolding write_from
write_from_beside size zero o p k d w W T h = same_beside o w w refl
write_from_beside size (suc i) o p k d w W T h =
    let f : List ℕ → List ℕ = over k (take (size - k) d) in
    let G = write_good o p f w W T (omega arith) in
    beside_then o w (write_page o p f w) _ (page_beside o p f w W (omega arith))
    (write_from_beside size i o (suc p) 0 (drop (size - k) d) (write_page o p f w) G.0 G.1 (omega arith))

-- ---- what later pages want

-- a page behind those written wants no more than it did
pub write_from_wants : (size i o p k : ℕ) (d : List ℕ) (w : Work) → Ordered w → Tight w → p + i ≤ 262144 → (q : ℕ) → p + i ≤ q
    → wants o q (write_from size i o p k d w) ≤ wants o q w
unfolding write_from
write_from_wants size zero o p k d w W T h q l = omega arith
write_from_wants size (suc i) o p k d w W T h q l =
    let f : List ℕ → List ℕ = over k (take (size - k) d) in
    let G = write_good o p f w W T (omega arith) in
    omega (
      arith,
      write_from_wants size i o (suc p) 0 (drop (size - k) d) (write_page o p f w) G.0 G.1 (omega arith) q (omega arith),
      wants_less o p f w W T (omega arith) q (λ e. omega arith),
    )

-- the same of data at an offset
module _ (o x : ℕ) (d : List ℕ) (w : Work) (G : Good w) (hs : 4096 ≤ w.size) (h : x + length d ≤ 1073741824) where
  pub writing_beside : Beside o w (writing o x d w)
  unfolding writing
  writing_beside = write_from_beside w.size (touched w.size x (length d)) o (x / w.size) (x % w.size) d w G.whole G.tight (page_bound w.size x (length d) hs h)

  pub writing_wants : (q : ℕ) → x / w.size + touched w.size x (length d) ≤ q → wants o q (writing o x d w) ≤ wants o q w
  unfolding writing
  writing_wants = write_from_wants w.size (touched w.size x (length d)) o (x / w.size) (x % w.size) d w G.whole G.tight (page_bound w.size x (length d) hs h)

-- ---- bytes within one page

module _ (size x n : ℕ) (pos : 0 < size) (fit : x % size + n ≤ size) where
  -- one page is touched, or none
  pub touched_one : touched size x n ≡ pick (eqb n 0) 0 1
  touched_one =
      by-eq n 0
      (λ e. rw (eq-eqb n 0 e))
      (λ e. let t : x % size + n + (size - 1) ≡ 1 * size + (x % size + n - 1) = omega (arith, one-mul size) in
      rw (ne_eqb n 0 e, t) (page_div size 1 (x % size + n - 1) (omega arith)))

  pub wanted_one : (o p : ℕ) (w : Work) → wanted (touched size x n) o p w ≡ pick (eqb n 0) 0 (wants o p w)
  unfolding wanted
  wanted_one o p w = rw touched_one (by-eq n 0 (λ e. rw (eq-eqb n 0 e)) (λ e. rw (ne_eqb n 0 e) (omega arith)))

-- a partly touched page wants no more than is counted for it: "always if there are whole pages too, else if .. `each`"
pub partly_least : (P : Span) (each : ℕ → ℕ) (q m k : ℕ) → k ≤ 1 → (0 < m → P.whole ≡ 0 → k ≤ each q) → pick (eqb m 0) 0 k ≤ partly P each q m
partly_least P each q m k h f =
    by-eq m 0
    (λ e. rw (eq-eqb m 0 e) zero-le)
    (λ e. rw (ne_eqb m 0 e) (by-eq P.whole 0 (λ z. rw (eq-eqb P.whole 0 z) (f (omega arith) z)) (λ z. rw (ne_eqb P.whole 0 z) h)))

-- data within one page is written there
pub writing_one : (o x : ℕ) (d : List ℕ) (w : Work) → 0 < length d → x % w.size + length d ≤ w.size → writing o x d w ≡ write_page o (x / w.size) (over (x % w.size) d) w
unfolding writing write_from
writing_one o x d w h fit =
    let one : touched w.size x (length d) ≡ 1 = touched_one w.size x (length d) (omega arith) fit ∙ rw (ne_eqb (length d) 0 (λ e. omega arith)) in
    ap (λ i. write_from w.size i o (x / w.size) (x % w.size) d w) one
    ∙ ap (λ e. write_page o (x / w.size) (over (x % w.size) e) w) (take_all (w.size - x % w.size) d (omega arith))
