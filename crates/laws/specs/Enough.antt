-- The frames counted at a call's entry are enough: "no frame" comes exactly by the count, and then every page is written.
use Rattle.std.specs.Option.{option_map}
use Rattle.std.proofs.Math.Path.{◌≡◌, refl, ap}
use Rattle.std.proofs.Common.{◌∙◌, inl, le_refl, not-suc-le-zero, add-zero, arith, ltb-false, le-ltb}
use Rattle.std.specs.Prelude.{List, length, take, drop, Option, Some, None}
use Prim.Native.Nat.{ℕ, zero, suc, ◌+◌, ◌-◌, ◌≤◌, ◌<◌, zero-le}
use Rattle.lists.specs.Test.{by-test, by-eq}
use Rattle.ranges.specs.Range.{Slot, line, slot_at}
use Rattle.ranges.specs.Table.{holders}
use Rattle.ranges.specs.Find.{Found, found, slot_mem}
use Rattle.ranges.specs.Hold.{held_some}
use Rattle.book.specs.Work.{is_shared, Work, seen, page_of, slot_bytes, privately, writable, edited, write_page}
use Rattle.book.specs.Page.{over}
use Rattle.book.specs.Bytes.{write_from}
use Rattle.book.specs.Need.{state_in, state_of, lacks, wants, wanted, common}
use Rattle.laws.specs.State.{Ordered, Tight, spare_room}
use Rattle.laws.specs.PageLaw.{write_here, write_elsewhere, write_good, edited_here, Alone, alone_stays, way_spare, write_page_size, way_private}
use Rattle.laws.specs.Way.{writable_way}
use Rattle.laws.specs.Write.{write_from_out}

-- present, and held alone
pub record Ready (g : ℕ) (w : Work) : Type 0 where
  pub alone : Alone g w
  pub bytes : List ℕ
  pub has : page_of g w ≡ Some bytes

pub ready_wants : (o p : ℕ) (w : Work) → Ordered w → Ready (line o p) w → wants o p w ≡ 0
unfolding wants state_of
ready_wants o p w W R =
    let A = R.alone in
    rw (slot_mem 0 (line o p) A.r w.ranges W.rising A.mem A.low A.high, R.has, le-ltb 1 (holders A.r.backing w.ranges) (omega (arith, A.once)))

pub wants_small : (o p : ℕ) (w : Work) → wants o p w ≤ 1
unfolding wants state_of
wants_small o p w = go (slot_at (line o p) w.ranges) (page_of (line o p) w)
  where
    go : (s : Option Slot) (x : Option (List ℕ)) → lacks (state_in w s x) ≤ 1
    go None x = le_refl 1
    go (Some s) None = le_refl 1
    go (Some s) (Some x) = by-test (is_shared s.inside w.ranges) (λ t. rw t (le_refl 1)) (λ t. rw t zero-le)

-- a present page wants a frame exactly if it is shared
pub present_wants : (o p : ℕ) (w : Work) (y : List ℕ) → page_of (line o p) w ≡ Some y → wants o p w ≡ common (state_of o p w)
unfolding wants state_of page_of
present_wants o p w y e = go (slot_at (line o p) w.ranges) e
  where
    go : (s : Option Slot) → slot_bytes w.cells s ≡ Some y → lacks (state_in w s (slot_bytes w.cells s)) ≡ common (state_in w s (slot_bytes w.cells s))
    go None f = absurd (let z : ◌≡◌ {A = ℕ} 0 1 = cc in omega arith)
    go (Some s) f = rw f (by-test (is_shared s.inside w.ranges) (λ t. rw t) (λ t. rw t))

-- a page that wants nothing is ready, and is left as it is
pub wants_ready : (o p : ℕ) (w : Work) → wants o p w ≡ 0 → Ready (line o p) w × (writable o p w ≡ w)
unfolding wants state_of writable
wants_ready o p w e = go (slot_at (line o p) w.ranges) refl (slot_bytes w.cells (slot_at (line o p) w.ranges)) refl (unfold page_of in e)
  where
    go : (s : Option Slot) → slot_at (line o p) w.ranges ≡ s → (x : Option (List ℕ)) → slot_bytes w.cells (slot_at (line o p) w.ranges) ≡ x → lacks (state_in w s x) ≡ 0
        → Ready (line o p) w × (privately o p w s x ≡ w)
    go None h x k z = absurd (omega arith)
    go (Some s) h None k z = absurd (omega arith)
    go (Some s) h (Some x) k z =
        by-test (is_shared s.inside w.ranges)
        (λ t. absurd (let u : ◌≡◌ {A = ℕ} 1 0 = rw t at z in omega arith))
        (λ t. let F : Found (line o p) w.ranges s = found (line o p) w.ranges s h in
        let b : s.inside ≡ F.r.backing = ap (λ y. y.inside) F.is in (
          record {
            alone = record { r = F.r; mem = F.mem; low = F.low; high = F.high; once = held_some F.r.backing w.ranges F.r F.mem refl (rw (← b) (ltb-false _ _ t)) };
            bytes = x;
            has = unfold page_of in k;
          },
          rw t,
        ))

module _ (o p : ℕ) (f : List ℕ → List ℕ) (w : Work) (W : Ordered w) (T : Tight w) (hp : p < 262144) where
  -- an edit leaves the ranges and the spare frames
  same_alone : (g : ℕ) → Alone g (writable o p w) → Alone g (write_page o p f w)
  unfolding write_page
  same_alone g A = go (slot_at (line o p) (writable o p w).ranges)
    where
      go : (t : Option Slot) → Alone g (edited t f (writable o p w))
      go None = A
      go (Some s) = record { r = A.r; mem = A.mem; low = A.low; high = A.high; once = A.once }

  same_spare : (write_page o p f w).spare ≡ (writable o p w).spare
  unfolding write_page
  same_spare = go (slot_at (line o p) (writable o p w).ranges)
    where
      go : (t : Option Slot) → (edited t f (writable o p w)).spare ≡ (writable o p w).spare
      go None = refl
      go (Some s) = refl

  ready_stays : (g : ℕ) → (g ≡ line o p → ⊥) → Ready g w → Ready g (write_page o p f w)
  ready_stays g ne R = record {
    alone = same_alone g (alone_stays o p _ w _ (writable_way o p w W hp) W g R.alone);
    bytes = R.bytes;
    has = write_elsewhere o p f w W T hp g ne ∙ R.has;
  }

  -- another page wants no more than it did
  pub wants_less : (q : ℕ) → (q ≡ p → ⊥) → wants o q (write_page o p f w) ≤ wants o q w
  wants_less q ne =
      by-eq (wants o q w) 0
      (λ e. omega (
        arith,
        ready_wants o q (write_page o p f w) (write_good o p f w W T hp).0
            (ready_stays (line o q) (λ z. ne (omega arith)) (wants_ready o q w e).0),
      ))
      (λ e. omega (arith, wants_small o q (write_page o p f w)))

  -- the frames taken are those wanted
  pub spare_left : length w.spare ≤ length (write_page o p f w).spare + wants o p w
  spare_left =
      rw same_spare
      (by-eq (wants o p w) 0
      (λ e. rw (wants_ready o p w e).1 (omega arith))
      (λ e. omega (arith, way_spare o p _ w _ (writable_way o p w W hp))))

  pub wanted_less : (i q : ℕ) → p < q → wanted i o q (write_page o p f w) ≤ wanted i o q w
  unfolding wanted
  wanted_less zero q h = zero-le
  wanted_less (suc i) q h = omega (arith, wants_less q (λ e. omega arith), wanted_less i (suc q) (omega arith))

  -- and with those there the page is written
  pub written : wants o p w ≤ length w.spare → page_of (line o p) (write_page o p f w) ≡ Some (f (seen w.size (page_of (line o p) w)))
  unfolding write_page
  written h =
      by-eq (wants o p w) 0
      (λ e. let r = wants_ready o p w e in
      edited_here o p f (writable o p w) (way_private o p _ w _ (writable_way o p w W hp))
      ∙ ap (λ v. option_map f (page_of (line o p) v)) r.1
      ∙ rw r.0.has)
      (λ e. write_here o p f w W T hp (spare_room w W (omega arith)))

-- ---- a whole write

-- what of the data falls on the j-th page, and where
unfoldable pub chunk : ℕ → ℕ → ℕ → List ℕ → List ℕ
chunk size zero k d = take (size - k) d
chunk size (suc j) k d = chunk size j 0 (drop (size - k) d)

abbrev pub place : ℕ → ℕ → ℕ
place zero k = k
place (suc j) k = 0

pub place_zero : (j : ℕ) → place j 0 ≡ 0
place_zero zero = refl
place_zero (suc j) = refl

-- THE WRITE, page by page, with the frames counted at its entry: every touched page reads as it did with its piece of the data over it
pub write_pages : (size i o p k : ℕ) (d : List ℕ) (w : Work) → Ordered w → Tight w → p + i ≤ 262144 → wanted i o p w ≤ length w.spare
    → (j : ℕ) → j < i → page_of (line o (p + j)) (write_from size i o p k d w) ≡ Some (over (place j k) (chunk size j k d) (seen w.size (page_of (line o (p + j)) w)))
unfolding write_from wanted chunk
write_pages size zero o p k d w W T h n j l = absurd (not-suc-le-zero l)
write_pages size (suc i) o p k d w W T h n zero l =
    let f : List ℕ → List ℕ = over k (take (size - k) d) in
    let G = write_good o p f w W T (omega arith) in
    rw add-zero
    (write_from_out size i o (suc p) 0 (drop (size - k) d) (write_page o p f w) G.0 G.1 (omega arith) (line o p) (inl (omega arith))
    ∙ written o p f w W T (omega arith) (omega arith))
write_pages size (suc i) o p k d w W T h n (suc j) l =
    let f : List ℕ → List ℕ = over k (take (size - k) d) in
    let G = write_good o p f w W T (omega arith) in
    let e : p + suc j ≡ suc p + j = omega arith in
    let ih = write_pages size i o (suc p) 0 (drop (size - k) d) (write_page o p f w) G.0 G.1 (omega arith)
    (omega (arith, wanted_less o p f w W T (omega arith) i (suc p) (omega arith), spare_left o p f w W T (omega arith))) j (omega arith) in
    let same : page_of (line o (suc p + j)) (write_page o p f w) ≡ page_of (line o (suc p + j)) w = write_elsewhere o p f w W T (omega arith) (line o (suc p + j)) (λ z. omega arith) in
    rw e (ih ∙ ap (λ x. Some (over (place j 0) (chunk size j 0 (drop (size - k) d)) (seen (write_page o p f w).size x))) same ∙ ap (λ z. Some (over (place j 0) (chunk size j 0 (drop (size - k) d)) (seen z (page_of (line o (suc p + j)) w)))) (write_page_size o p f w W (omega arith)) ∙ ap (λ m. Some (over m (chunk size j 0 (drop (size - k) d)) (seen w.size (page_of (line o (suc p + j)) w)))) (place_zero j))
