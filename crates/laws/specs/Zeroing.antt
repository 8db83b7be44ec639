-- ZEROING: it takes no more frames and slots than are counted at entry, and with those frames the span reads as zeros and every other byte of every
-- object as before.
use Rattle.std.specs.Prelude.{◌≡◌, refl, eqb, length, replicate, Option, Some, None}
use Rattle.std.proofs.Common.{ap, sym, ◌∙◌, le_refl, zero-mul, add-mul, arith, eq-eqb, ne_eqb}
use mathlib.Core.List.{List, tail}
use Prim.Native.Nat.{ℕ, ◌+◌, ◌*◌, ◌/◌, ◌%◌, ◌≤◌, ◌<◌, min, zero-le}
use Rattle.lists.specs.Test.{pick, by-eq}
use Rattle.ranges.specs.Range.{Slot, line, slot_at}
use Rattle.book.specs.Page.{Span, span_of, tail_at, over}
use Rattle.book.specs.Work.{Work, page_of, write_page}
use Rattle.book.specs.Bytes.{clear, cleared}
use Rattle.book.specs.Pages.{uncover}
use Rattle.book.specs.Copy.{zeroing}
use Rattle.book.specs.Need.{State, absent, private, shared, state_of, state_in, common, wants, partly, counted_parts}
use Rattle.laws.specs.State.{Good}
use Rattle.laws.specs.Kept.{Kept, here, clear_kept, uncover_kept}
use Rattle.laws.specs.Cost.{Cost, Pages, clear_cost, cost_sum, uncover_cost}
use Rattle.laws.specs.Enough.{present_wants, wants_less}
use Rattle.laws.specs.Rewrites.{Rewrites, rewrites_cast, rewrites_join, rewrites_none}
use Rattle.laws.specs.Spans.{page_in, span_sum, head_fits, tail_apart, tail_fits, whole_start, whole_in, object_in}
use Rattle.laws.specs.Taken.{partly_least}
use Rattle.laws.specs.PageLaw.{write_elsewhere}
use Rattle.laws.specs.Zeroed.{clear_zeros, uncover_zeros}

-- a page counts once at most
pub common_small : (s : State) → common s ≤ 1
common_small absent = zero-le
common_small private = zero-le
common_small shared = le_refl 1

-- an absent page is not cleared
absent_common : (o p : ℕ) (w : Work) → page_of (line o p) w ≡ None → common (state_of o p w) ≡ 0
unfolding state_of
absent_common o p w e = rw e (go (slot_at (line o p) w.ranges))
  where
    go : (s : Option Slot) → common (state_in w s None) ≡ 0
    go None = refl
    go (Some s) = refl

-- while one page is cleared, a later page comes to count no more than it did
later_less : (o x n : ℕ) (w : Work) → Good w → 4096 ≤ w.size → x + n ≤ 1073741824 → (q : ℕ) → (0 < n → x / w.size < q)
    → common (state_of o q (clear o x n w)) ≤ common (state_of o q w)
unfolding clear
later_less o x n w G hs h q l =
    by-eq n 0
    (λ e. rw (eq-eqb n 0 e) (le_refl _))
    (λ e. rw (ne_eqb n 0 e) (go (omega arith) (page_of (line o (x / w.size)) w)))
  where
    p : ℕ
    p = x / w.size

    f : List ℕ → List ℕ
    f = over (x % w.size) (replicate n 0)

    at : 0 < n → (y : Option (List ℕ)) → page_of (line o q) (write_page o p f w) ≡ y → common (state_of o q (write_page o p f w)) ≤ common (state_of o q w)
    at m None d = omega (arith, absent_common o q (write_page o p f w) d)
    at m (Some y) d =
        let hp : p < 262144 = page_in w.size x n hs m h in
        let k : p < q = l m in
        let d' : page_of (line o q) w ≡ Some y = sym (write_elsewhere o p f w G.whole G.tight hp (line o q) (λ c. omega arith)) ∙ d in
        omega (arith, present_wants o q (write_page o p f w) y d, present_wants o q w y d', wants_less o p f w G.whole G.tight hp q (λ c. omega arith))

    go : 0 < n → (t : Option (List ℕ)) → common (state_of o q (cleared o p (x % w.size) n w t)) ≤ common (state_of o q w)
    go m None = le_refl _
    go m (Some z) = at m (page_of (line o q) (write_page o p f w)) refl

module _ (o x n : ℕ) (w : Work) (G : Good w) (hs : 4096 ≤ w.size) (h : x + n ≤ 1073741824) where
  abbrev P : Span
  P = span_of w.size x n

  abbrev t : ℕ
  t = tail_at w.size P

  abbrev each : ℕ → ℕ
  each q = common (state_of o q w)

  abbrev ph : ℕ
  ph = x / w.size

  abbrev pt : ℕ
  pt = (x + t) / w.size

  ps : 0 < w.size
  ps = omega arith

  pub sum : P.head + P.whole * w.size + P.tail ≡ n
  sum = span_sum w.size x n ps

  -- the state after the head, and after the whole pages
  abbrev u : Work
  u = clear o x P.head w

  abbrev v : Work
  v = uncover o ((x + P.head) / w.size) P.whole u

  pub KU : Kept w u
  KU = clear_kept w G hs o x P.head w (here w G hs) (head_fits w.size x n ps) (omega (arith, sum))

  pub KV : Kept w v
  KV = uncover_kept o ((x + P.head) / w.size) P.whole w u KU

  no_middle : P.whole ≡ 0 → v ≡ u
  no_middle z = unfold uncover in rw (eq-eqb P.whole 0 z)

  -- ---- what it takes

  -- what the head's page takes, and the tail's when it is reached
  abbrev head_takes : ℕ
  head_takes = pick (eqb P.head 0) 0 (each ph)

  abbrev tail_takes : ℕ
  tail_takes = pick (eqb P.tail 0) 0 (common (state_of o pt v))

  pub head_counts : head_takes ≤ partly P each ph P.head
  head_counts = partly_least P each ph P.head (each ph) (common_small (state_of o ph w)) (λ _ _. le_refl _)

  pub tail_counts : tail_takes ≤ partly P each pt P.tail
  tail_counts =
      partly_least P each pt P.tail (common (state_of o pt v)) (common_small (state_of o pt v))
      (λ k z. rw (no_middle z) (later_less o x P.head w G hs (omega (arith, sum)) pt (λ l. tail_apart w.size x n ps l k)))

  pub to_v : Cost head_takes (2 * head_takes + min 1 P.whole) w v
  to_v =
      cost_sum head_takes (2 * head_takes) 0 (min 1 P.whole) head_takes (2 * head_takes + min 1 P.whole) w u v (omega arith) (omega arith)
      (clear_cost o x w G hs P.head (omega (arith, sum)))
      (uncover_cost o ((x + P.head) / w.size) P.whole u KU.good.whole.rising)

  -- the tail, by another name of the page size
  tail_cost : (m : ℕ) → m ≡ v.size → Pages (pick (eqb P.tail 0) 0 (common (state_of o ((x + t) / m) v))) v (clear o (x + t) P.tail v)
  tail_cost m e = rw e (clear_cost o (x + t) v KV.good (rw KV.size hs) P.tail (omega (arith, sum)))

  -- ZEROING takes the frames counted at most, and besides two slots for each of them one for the whole pages
  pub zeroing_cost : Cost (counted_parts each w.size x n) (2 * counted_parts each w.size x n + min 1 P.whole) w (zeroing o x n w)
  unfolding zeroing counted_parts
  zeroing_cost =
      cost_sum head_takes (2 * head_takes + min 1 P.whole) tail_takes (2 * tail_takes) _ _ w v (clear o (x + t) P.tail v)
      (omega (arith, head_counts, tail_counts)) (omega (arith, head_counts, tail_counts)) to_v (tail_cost w.size (sym KV.size))

  -- ---- and what it leaves, with the frames that 01 counts

  module _ (enough : counted_parts each w.size x n ≤ length w.spare) where
    pub split : partly P each ph P.head + partly P each pt P.tail ≤ length w.spare
    split = unfold counted_parts in enough

    first : Rewrites o x (x + P.head) (λ _. 0) w u
    first =
        clear_zeros o x P.head w G hs (head_fits w.size x n ps) (omega (arith, sum))
        (λ y e. rw (present_wants o ph w y e) (omega (arith, split, head_counts)))

    middle : Rewrites o (x + P.head) (x + t) (λ _. 0) u v
    middle =
        by-eq P.whole 0
        (λ z. rewrites_none o (x + P.head) (x + t) (λ _. 0) u v (omega (arith, ap (λ m. m * w.size) z, zero-mul w.size)) (no_middle z))
        (λ z. let q : ℕ = (x + P.head) / w.size in
        let a : q * u.size ≡ x + P.head = ap (λ m. q * m) KU.size ∙ whole_start w.size x n ps (omega arith) in
        let f : (q + P.whole) * u.size ≡ x + t = ap (λ m. (q + P.whole) * m) KU.size ∙ omega (arith, add-mul q P.whole w.size, whole_start w.size x n ps (omega arith)) in
        rewrites_cast o (q * u.size) (x + P.head) ((q + P.whole) * u.size) (x + t) (λ _. 0) u v a f
        (uncover_zeros o q P.whole u (rw KU.size hs) (whole_in w.size x n ps 262144 (object_in w.size x n hs h))))

    -- the tail's frame is there, by another name of the page size
    pub tail_room : (m : ℕ) → m ≡ w.size → (y : List ℕ) → page_of (line o ((x + t) / m)) v ≡ Some y → pick (eqb P.tail 0) 0 (wants o ((x + t) / m) v) ≤ length v.spare
    tail_room m e = rw e (λ y d. rw (present_wants o pt v y d) (omega (arith, split, head_counts, tail_counts, to_v.spare)))

    last : Rewrites o (x + t) (x + n) (λ _. 0) v (clear o (x + t) P.tail v)
    last =
        rewrites_cast o (x + t) (x + t) (x + t + P.tail) (x + n) (λ _. 0) v (clear o (x + t) P.tail v) refl (omega (arith, sum))
        (clear_zeros o (x + t) P.tail v KV.good (rw KV.size hs) (rw KV.size (tail_fits w.size x n ps)) (omega (arith, sum)) (tail_room v.size KV.size))

    pub zeroing_zeros : Rewrites o x (x + n) (λ _. 0) w (zeroing o x n w)
    unfolding zeroing
    zeroing_zeros =
        rewrites_join o x (x + t) (x + n) (λ _. 0) w v (clear o (x + t) P.tail v) (omega arith) (omega (arith, sum)) (omega arith)
        (rewrites_join o x (x + P.head) (x + t) (λ _. 0) w u v (omega arith) (omega arith) (omega (arith, sum)) first middle)
        last
