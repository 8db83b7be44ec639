-- HOW A PAGE IS MADE PRIVATE, as one case analysis: it is present and private already, or it is settled in a range that is its backing's one holder.
use Rattle.std.proofs.Math.Path.{◌≡◌, refl, ap}
use Rattle.std.proofs.Common.{sym, ◌∙◌, inl, inr, ⊎_elim, le_refl}
use Rattle.std.specs.Prelude.{◌⊎◌, leb, eqb, Option, Some, None}
use mathlib.Core.List.{List, Memᴰ}
use Prim.Native.Nat.{ℕ, suc, ◌+◌, ◌-◌, ◌≤◌, ◌<◌}
use native.Mathlib.Omega.{arith}
use borrow.Author.Tests.{ltb-true, ltb-false, leb-true, eqb-true, le-leb}
use Rattle.lists.specs.Test.{by-test, by-lt, by-eq, and_left, and_right}
use Rattle.ranges.specs.Range.{Range, Slot, line, from, upto, keep, covers, slot_in, slot_at, put}
use Rattle.ranges.specs.Table.{holders, fresh, previous}
use Rattle.ranges.specs.Piece.{Piece, rising_mem}
use Rattle.ranges.specs.Find.{Found, found, slot_mem, previous_mem, previous_low, previous_none, previous_gap, In, named_in}
use Rattle.ranges.specs.Hold.{unheld, held_once, held_some}
use Rattle.ranges.proofs.Hold.{put_once}
use Rattle.ranges.specs.Fresh.{fresh_unused, fresh_small}
use Rattle.book.specs.Work.{is_shared, joins, Work, slot_bytes, page_of, settle, single, own, blank, seen, add_in, add_at, add_page, privately, writable}
use Rattle.book.specs.Cell.{bytes_at}
use Rattle.laws.specs.State.{Ordered, Tight, tight_slot}
use Rattle.laws.specs.Settle.{page_none, page_some}
use Rattle.laws.specs.Origin.{Origin, stayed, joined, begun}

-- page p of object o is in a range that is its backing's one holder
pub record Private (o p : ℕ) (w : Work) : Type 0 where
  pub r : Range
  pub mem : Memᴰ r w.ranges
  pub object : r.object ≡ o
  pub once : holders r.backing w.ranges ≡ 1
  pub slot : slot_at (line o p) w.ranges ≡ Some (slot_in (line o p) r)

-- what makes a range n one in which page p of object o can be settled
pub record Settles (o p : ℕ) (w : Work) (n : Range) : Type 0 where
  pub object : n.object ≡ o
  pub low : from n ≤ line o p
  pub high : line o p < upto n
  pub within : n.start + n.len ≤ 262144
  -- it stands in the table, or it ends with the page and below the limit of its indexes
  pub bounds : Memᴰ n w.ranges ⊎ ((n.start + n.len ≡ suc p) × (n.offset + n.len ≤ 1048576))
  -- its backing's number is positive, if all are
  pub numbered : ((r : Range) → Memᴰ r w.ranges → 1 ≤ r.backing) → 1 ≤ n.backing
  -- once put in it is its backing's one holder
  pub once : holders n.backing (put n w.ranges) ≡ 1
  -- no page outside it is in its backing
  pub others : (g : ℕ) (s : Slot) → (g < from n) ⊎ (upto n ≤ g) → slot_at g w.ranges ≡ Some s → s.inside ≡ n.backing → ⊥
  -- the other pages in it read as they did
  pub inner : Tight w → (g : ℕ) → from n ≤ g → g < upto n → (g ≡ line o p → ⊥) → bytes_at (slot_in g n) w.cells ≡ page_of g w
  -- a range that is its backing's one holder lies in it with the same backing, or is clear of it with another
  pub alones : (r : Range) → Memᴰ r w.ranges → holders r.backing w.ranges ≡ 1
      → ((r.backing ≡ n.backing) × (from n ≤ from r) × (upto r ≤ upto n)) ⊎ ((r.backing ≡ n.backing → ⊥) × ((upto r ≤ from n) ⊎ (upto n ≤ from r)))
  -- the other pages in it that were covered are at the slots that they were at
  pub kept : (g : ℕ) (s : Slot) → from n ≤ g → g < upto n → (g ≡ line o p → ⊥) → slot_at g w.ranges ≡ Some s → s ≡ slot_in g n
  -- where the slots of its pages come from
  pub origin : (g : ℕ) → from n ≤ g → g < upto n → Origin g w.ranges (slot_in g n)

-- the page is settled, with the bytes x in a new frame
pub record Settled (o p : ℕ) (w : Work) (x : List ℕ) (v : Work) : Type 0 where
  pub n : Range
  pub settles : Settles o p w n
  pub is : v ≡ settle n (slot_in (line o p) n).index x w

-- THE CASES: page p of object o, with the bytes x afterwards
pub data Way (o p : ℕ) (w : Work) (x : List ℕ) : Work → Type 0 where
  as_is : Private o p w → page_of (line o p) w ≡ Some x → Way o p w x w
  settled : (n : Range) → Settles o p w n → Way o p w x (settle n (slot_in (line o p) n).index x w)

some_inj : (s t : Slot) → Some s ≡ Some t → s ≡ t
some_inj s t e = cc

none_some : (s : Slot) → None ≡ Some s → ⊥
none_some s e = let z : ◌≡◌ {A = ℕ} 0 1 = cc in omega arith

module _ (o p : ℕ) (w : Work) (W : Ordered w) (hp : p < 262144) where
  abbrev g₀ : ℕ
  g₀ = line o p

  -- two ranges of the table that contain one page are at the same slot there
  one_range : (g : ℕ) (r q : Range) → Memᴰ r w.ranges → Memᴰ q w.ranges → from r ≤ g → g < upto r → from q ≤ g → g < upto q → r.backing ≡ q.backing
  one_range g r q m n a b c d =
      ap (λ (s : Slot). s.inside) (some_inj _ _ (sym (slot_mem 0 g r w.ranges W.rising m a b) ∙ slot_mem 0 g q w.ranges W.rising n c d))

  -- ---- a range of its own: the page is uncovered, or in a shared range
  own_settles : ((r : Range) → Memᴰ r w.ranges → holders r.backing w.ranges ≡ 1 → (g₀ < from r) ⊎ (upto r ≤ g₀)) → Settles o p w (single o p w.ranges)
  own_settles clear = record {
    object = refl;
    low = le_refl g₀;
    high = omega arith;
    within = omega arith;
    bounds = inr (omega arith, omega arith);
    numbered = λ h. (fresh_small w.ranges).0;
    once = put_once (single o p w.ranges) w.ranges (λ r q m pc e l c. unheld (fresh w.ranges) w.ranges r (fresh_unused w.ranges) m e) W.rising;
    others = λ g s c e k. let F : Found g w.ranges s = found g w.ranges s e in
        unheld (fresh w.ranges) w.ranges F.r (fresh_unused w.ranges) F.mem (sym k ∙ ap (λ t. t.inside) F.is);
    inner = λ T g a b ne. absurd (ne (omega arith));
    alones = λ r m h. inr (
      (λ e. unheld (fresh w.ranges) w.ranges r (fresh_unused w.ranges) m (sym e)),
      ⊎_elim (λ (l : g₀ < from r). inr (omega arith)) (λ (l : upto r ≤ g₀). inl l) (clear r m h),
    );
    kept = λ g s a b ne. absurd (ne (omega arith));
    origin = λ g a b. begun (fresh_unused w.ranges);
  }

  own_settled : (x : List ℕ) → ((r : Range) → Memᴰ r w.ranges → holders r.backing w.ranges ≡ 1 → (g₀ < from r) ⊎ (upto r ≤ g₀)) → Settled o p w x (own o p x w)
  unfolding own
  own_settled x clear = record { n = single o p w.ranges; settles = own_settles clear; is = ap (λ i. settle (single o p w.ranges) i x w) (omega arith) }

  -- ---- the range r that is its backing's one holder, or that range made L pages long over uncovered pages
  module _ (r : Range) (L : ℕ) (m : Memᴰ r w.ranges) (one : holders r.backing w.ranges ≡ 1) (object : r.object ≡ o)
      (longer : r.len ≤ L) (low : from r ≤ g₀) (high : g₀ < from r + L) (within : r.start + L ≤ 262144)
      (bounds : Memᴰ (keep L r) w.ranges ⊎ ((r.start + L ≡ suc p) × (r.offset + L ≤ 1048576)))
      (gap : (g : ℕ) → upto r ≤ g → g < from r + L → slot_at g w.ranges ≡ None) where
    the_holder : (q : Range) → Memᴰ q w.ranges → q.backing ≡ r.backing → r ≡ q
    the_holder q n e = held_once r.backing w.ranges r q one m n refl (sym e)

    over_once : holders r.backing (put (keep L r) w.ranges) ≡ 1
    over_once =
        put_once (keep L r) w.ranges
        (λ r' q m' pc e' k c.
        let z : r ≡ r' = the_holder r' m' (sym e') in
        let P : Piece q r = rw z pc in
        let lo : from r ≤ from q = omega (arith, P.object, P.first) in
        let hi : upto q ≤ upto r = omega (arith, P.object, P.last) in
        ⊎_elim (λ (v : upto q ≤ from r). omega arith) (λ (v : from r + L ≤ from q). omega arith) c)
        W.rising

    -- a range of another backing is clear of it
    over_clear : (q : Range) → Memᴰ q w.ranges → (q.backing ≡ r.backing → ⊥) → (upto q ≤ from r) ⊎ (from r + L ≤ from q)
    over_clear q n ne =
        by-lt (from r) (upto q)
        (λ a. by-lt (from q) (from r + L)
        (λ b. absurd (by-lt (from q) (from r)
        (λ c. ne (one_range (from r) q r n m (omega arith) a (le_refl (from r)) (omega (arith, rising_mem 0 r w.ranges W.rising m))))
        (λ c. by-lt (from q) (upto r)
        (λ d. ne (one_range (from q) q r n m (le_refl (from q)) (omega (arith, l)) c d))
        (λ d. none_some _ (sym (gap (from q) d b) ∙ slot_mem 0 (from q) q w.ranges W.rising n (le_refl (from q)) (omega (arith, l)))))))
        (λ b. inr b))
        (λ a. inl a)
      where
        l : 0 < q.len
        l = rising_mem 0 q w.ranges W.rising n

    over_others : (g : ℕ) (s : Slot) → (g < from r) ⊎ (from r + L ≤ g) → slot_at g w.ranges ≡ Some s → s.inside ≡ r.backing → ⊥
    over_others g s c e k =
        let F : Found g w.ranges s = found g w.ranges s e in
        let z : r ≡ F.r = the_holder F.r F.mem (sym (sym k ∙ ap (λ t. t.inside) F.is)) in
        let a : from r ≤ g = rw z F.low in
        let b : g < upto r = rw z F.high in
        ⊎_elim (λ (l : g < from r). omega arith) (λ (l : from r + L ≤ g). omega arith) c

    -- past the window of a backing's one holder there is nothing
    beyond : Tight w → (s : Slot) → s.inside ≡ r.backing → r.offset + r.len ≤ s.index → bytes_at s w.cells ≡ None
    beyond T s b u = go (bytes_at s w.cells) refl
      where
        go : (t : Option (List ℕ)) → bytes_at s w.cells ≡ t → t ≡ None
        go None e = refl
        go (Some x) e =
            let n : In s.inside s.index w.ranges = named_in s.inside s.index w.ranges (tight_slot w T s x e) in
            let z : r ≡ n.r = the_holder n.r n.mem (sym (sym b ∙ n.backing)) in
            absurd (let hi : s.index < r.offset + r.len = rw z n.high in omega arith)

    over_inner : Tight w → (g : ℕ) → from r ≤ g → g < from r + L → (g ≡ g₀ → ⊥) → bytes_at (slot_in g r) w.cells ≡ page_of g w
    over_inner T g a b ne =
        by-lt g (upto r)
        (λ v. sym (page_some g w (slot_in g r) (slot_mem 0 g r w.ranges W.rising m a v)))
        (λ v. beyond T (slot_in g r) refl (omega arith) ∙ sym (page_none g w (gap g v b)))

    over_kept : (g : ℕ) (s : Slot) → from r ≤ g → g < from r + L → slot_at g w.ranges ≡ Some s → s ≡ slot_in g r
    over_kept g s a b e =
        by-lt g (upto r)
        (λ v. some_inj s (slot_in g r) (sym e ∙ slot_mem 0 g r w.ranges W.rising m a v))
        (λ v. absurd (none_some s (sym (gap g v b) ∙ e)))

    over_origin : (g : ℕ) → from r ≤ g → g < from r + L → Origin g w.ranges (slot_in g r)
    over_origin g a b = by-lt g (upto r) (λ v. stayed (slot_mem 0 g r w.ranges W.rising m a v)) (λ v. joined r m one a (gap g v b) refl)

    over_settles : Settles o p w (keep L r)
    over_settles = record {
      object = object;
      low = low;
      high = high;
      within = within;
      bounds = bounds;
      numbered = λ h. h r m;
      once = over_once;
      others = over_others;
      inner = over_inner;
      alones = λ q n h. by-eq q.backing r.backing
          (λ e. let z : r ≡ q = the_holder q n e in inl (e, rw (← z) (le_refl (from r)), rw (← z) (omega arith)))
          (λ e. inr (e, over_clear q n e));
      kept = λ g s a b ne. over_kept g s a b;
      origin = over_origin;
    }

  -- ---- a page that no range covers is in no range
  not_in : slot_at g₀ w.ranges ≡ None → (r : Range) → Memᴰ r w.ranges → (g₀ < from r) ⊎ (upto r ≤ g₀)
  not_in e r m =
      by-lt g₀ (from r) (λ l. inl l)
      (λ l. by-lt g₀ (upto r) (λ u. absurd (none_some _ (sym e ∙ slot_mem 0 g₀ r w.ranges W.rising m l u))) (λ u. inr u))

  -- a page in a range whose backing is shared is in no range that holds its backing alone
  not_alone : (q : Range) → Memᴰ q w.ranges → from q ≤ g₀ → g₀ < upto q → 1 < holders q.backing w.ranges
      → (r : Range) → Memᴰ r w.ranges → holders r.backing w.ranges ≡ 1 → (g₀ < from r) ⊎ (upto r ≤ g₀)
  not_alone q n lq uq h r m one =
      by-lt g₀ (from r) (λ l. inl l)
      (λ l. by-lt g₀ (upto r)
      (λ u. absurd (let c : holders r.backing w.ranges ≡ holders q.backing w.ranges = ap (λ x. holders x w.ranges) (one_range g₀ r q m n l u lq uq) in omega arith))
      (λ u. inr u))

  add_in_settled : (r : Range) → previous g₀ w.ranges ≡ Some r → Settled o p w (blank w) (add_in o p w r)
  unfolding add_in
  add_in_settled r e =
      let m : Memᴰ r w.ranges = previous_mem g₀ w.ranges r e in
      let low : from r ≤ g₀ = previous_low g₀ w.ranges r e in
      let k : r.start + r.len ≤ 262144 = W.within r m in
      by-test (covers g₀ r)
      (λ c. let u : g₀ < upto r = ltb-true g₀ (upto r) (and_right (leb (from r) g₀) _ c) in
      by-test (is_shared r.backing w.ranges)
      (λ t. rw (c, t) (own_settled (blank w) (not_alone r m low u (ltb-true _ _ t))))
      (λ t. rw (c, t)
      (record {
        n = r;
        settles = over_settles r r.len m (held_some r.backing w.ranges r m refl (ltb-false _ _ t)) (omega arith) (le_refl r.len) low u k (inl m)
            (λ g a b. absurd (omega arith));
        is = refl;
      })))
      (λ c. let u : upto r ≤ g₀ = ltb-false g₀ (upto r) (rw (le-leb (from r) g₀ low) at c) in
      by-test (joins o p w.ranges r)
      (λ t. let L : ℕ = suc g₀ - from r in
      let t₁ = and_right (eqb r.object o) _ t in
      let t₂ = and_right (eqb (holders r.backing w.ranges) 1) _ t₁ in
      let ob : r.object ≡ o = eqb-true r.object o (and_left _ _ t) in
      let ix : r.offset + L ≤ 1048576 = leb-true _ 1048576 (and_right (leb (suc g₀ - upto r) 16) _ t₂) in
      rw (c, t)
      (record {
        n = keep L r;
        settles = over_settles r L m (eqb-true _ 1 (and_left _ _ t₁)) ob (omega arith) low (omega arith) (omega arith) (inr (omega arith, ix))
            (λ g a b. previous_gap 0 g₀ g r w.ranges W.rising e a (omega arith));
        is = refl;
      }))
      (λ t. rw (c, t) (own_settled (blank w) (λ q n _. not_in (previous_gap 0 g₀ g₀ r w.ranges W.rising e u (le_refl g₀)) q n))))

  -- A PAGE ADDED is settled, whatever it was
  pub add_page_settled : Settled o p w (blank w) (add_page o p w)
  unfolding add_page
  add_page_settled = go (previous g₀ w.ranges) refl
    where
      go : (q : Option Range) → previous g₀ w.ranges ≡ q → Settled o p w (blank w) (add_at o p w q)
      go None e = own_settled (blank w) (λ q n _. not_in (previous_none 0 g₀ g₀ w.ranges W.rising e (le_refl g₀)) q n)
      go (Some r) e = add_in_settled r e

  settled_way : (x : List ℕ) (v : Work) → Settled o p w x v → Way o p w x v
  settled_way x v S = rw S.is (settled S.n S.settles)

  pub add_page_way : Way o p w (blank w) (add_page o p w)
  add_page_way = settled_way (blank w) (add_page o p w) add_page_settled

  -- A PAGE MADE WRITABLE
  pub writable_way : Way o p w (seen w.size (page_of g₀ w)) (writable o p w)
  unfolding writable page_of
  writable_way = go (slot_at g₀ w.ranges) refl (slot_bytes w.cells (slot_at g₀ w.ranges)) refl
    where
      go : (s : Option Slot) → slot_at g₀ w.ranges ≡ s → (y : Option (List ℕ)) → slot_bytes w.cells (slot_at g₀ w.ranges) ≡ y
          → Way o p w (seen w.size y) (privately o p w s y)
      go None e None f = add_page_way
      go None e (Some y) f = absurd (let a : None ≡ Some y = rw e at f in let z : ◌≡◌ {A = ℕ} 0 1 = cc in omega arith)
      go (Some s) e None f = add_page_way
      go (Some s) e (Some y) f =
          let F : Found g₀ w.ranges s = found g₀ w.ranges s e in
          let b : s.inside ≡ F.r.backing = ap (λ x. x.inside) F.is in
          by-test (is_shared s.inside w.ranges)
          (λ t. rw t (settled_way y _ (own_settled y (not_alone F.r F.mem F.low F.high (rw (← b) (ltb-true _ _ t))))))
          (λ t. let k : F.r.start + F.r.len ≤ 262144 = W.within F.r F.mem in
          rw t (as_is (record {
            r = F.r;
            mem = F.mem;
            object = omega (arith, F.low, F.high);
            once = held_some F.r.backing w.ranges F.r F.mem refl (rw (← b) (ltb-false _ _ t));
            slot = e ∙ ap (λ x. Some x) F.is;
          }) f))
