-- The holders of a backing, met along one chain of a store's ranges.
use Rattle.std.proofs.Math.Path.{◌≡◌, ap}
use Rattle.std.specs.Prelude.{refl, Bool, true, false, ℕ, zero, suc, ◌+◌, ◌-◌, ◌%◌, ◌≤◌, ◌<◌, drop, get_or, length, min, take, Option, Some, None, IfSome}
use Rattle.std.proofs.Common.{sym, ◌∙◌, le_refl, add-one, arith, eq-eqb, le-ltb, lt-ltb}
use Rattle.std.proofs.lemmas.Bool.{false≢true}
use Rattle.std.proofs.lemmas.List.{length-take, take_min}
use mathlib.Core.List.{List, [], ◌∷◌}
use Rattle.table.specs.declared.PageRange.{PageRange}
use Rattle.look.specs.declared.Located.{Located}
use Rattle.look.specs.declared.State.TheVariants as state
use Rattle.store.specs.declared.Store.{Store}
use Rattle.chains.specs.declared.Chains.{Chains}
use Rattle.lists.specs.Test.{by-eq, by-lt, pick}
use Rattle.ranges.specs.Table.{holders}
use Rattle.table.specs.Table.{number_of, ranged_of, ranges_of, zero_range, covering_at}
use Rattle.table.specs.Holding.{holders_end, holders_hit, holders_miss, left}
use Rattle.places.specs.Places.{frame_at, place_at}
use Rattle.store.specs.Abs.{used}
use Rattle.lookup.specs.Charted.{there_positive}
use Rattle.places.specs.Found.{frame_found}
use Rattle.look.specs.Look.{index_in, in_frame, in_found, located, shared_in}
use Rattle.chains.specs.Chains.{in_chain, last_same}
use Rattle.chains.specs.Walk.{Along, along_at, along_less, along_next, along_same}
use Rattle.chains.specs.Entries.{entries, entries_first, entries_over}
use Rattle.chains.specs.Falling.{falling, falling_along}
use Rattle.charts.specs.Charts.{RangeChains, backing_at, chain_by}

-- the walk along the chain of backing b, of the first n of the ranges, is at link k, with a holder met or none yet
pub record Meets (rs : List PageRange) (n : ℕ) (c : Chains) (b : ℕ) (met : Bool) (k : ℕ) : Type 0 where
  pub along : Along (chain_by rs) (b % 1024) c.next n k
  pub held : pick met 1 0 ≡ holders b (left rs n k)

-- ---- how many of the first n ranges, from number j on, hold a backing; the table may be shorter than n
module _ (rs : List PageRange) (n b : ℕ) where
  abbrev from : ℕ → ℕ
  from j = holders b (left rs n j)

  abbrev m : ℕ
  m = min n (length rs)

  short : (j : ℕ) → from j ≡ holders b (left rs m j)
  short j = ap (λ (us : List PageRange). holders b (ranges_of (drop j us))) (sym (take_min n rs))

  none : (j : ℕ) → m ≤ j → from j ≡ 0
  none j h = short j ∙ holders_end rs m (omega arith) b j h

  hit : (j : ℕ) → j < n → j < length rs → backing_at rs j ≡ b → from j ≡ suc (from (j + 1))
  hit j h l e = short j ∙ holders_hit rs m (omega arith) b j (backing_at rs j) (omega arith) refl (sym e) ∙ ap suc (sym (short (j + 1)))

  miss : (j : ℕ) → (backing_at rs j ≡ b → ⊥) → from j ≡ from (j + 1)
  miss j e =
      by-lt j m
      (λ h. short j ∙ holders_miss rs m (omega arith) b j (backing_at rs j) h refl (λ q. e (sym q)) ∙ sym (short (j + 1)))
      (λ h. none j h ∙ sym (none (j + 1) (omega arith)))

  -- no more from a later number on
  fewer : (j : ℕ) → from j ≤ from 0
  fewer zero = le_refl (from 0)
  fewer (suc j) =
      by-lt j m
      (λ h.
      by-eq (backing_at rs j) b
      (λ e. rw (← add-one) (omega (arith, hit j (omega arith) (omega arith) e, fewer j)))
      (λ e. rw (← add-one) (omega (arith, miss j e, fewer j))))
      (λ h. omega (arith, none (suc j) (omega arith)))

module _ (rs : List PageRange) (n : ℕ) (c : Chains) (b : ℕ) where
  -- a range of another chain does not hold it
  other : (j : ℕ) → j < n → in_chain (chain_by rs) (b % 1024) j ≡ false → from rs n b (suc j) ≡ from rs n b j
  other j l o =
      rw (← add-one)
      (sym (miss rs n b j (λ e. false≢true (sym o ∙ eq-eqb (chain_by rs j) (b % 1024) (ap (λ (x : ℕ). x % 1024) e)))))

  pub meets_none : RangeChains rs n c → Meets rs n c b false (get_or c.heads (b % 1024) 0)
  meets_none C =
      let e = C.heads (b % 1024) (omega arith) in
      record {
        along = along_at (chain_by rs) (b % 1024) c.next n n (get_or c.heads (b % 1024) 0) C.next (omega arith) (le_refl n) e;
        held = sym (ap (from rs n b) e ∙ last_same (in_chain (chain_by rs) (b % 1024)) (from rs n b) n other ∙ none rs n b n (omega arith));
      }

  module _ (m : Bool) (k : ℕ) (M : Meets rs n c b m k) (u : 0 < k) where
    next : Along (chain_by rs) (b % 1024) c.next n (get_or c.next (k - 1) 0)
    next = along_next (chain_by rs) (b % 1024) c.next n k M.along u

    same : from rs n b (get_or c.next (k - 1) 0) ≡ from rs n b (k - 1)
    same = along_same (chain_by rs) (b % 1024) c.next n k M.along u (from rs n b) other

    here : k - 1 + 1 ≡ k
    here = omega arith

    pub meets_less : get_or c.next (k - 1) 0 < k
    meets_less = along_less (chain_by rs) (b % 1024) c.next n k M.along u

    pub meets_miss : (backing_at rs (k - 1) ≡ b → ⊥) → Meets rs n c b m (get_or c.next (k - 1) 0)
    meets_miss q = record { along = next; held = M.held ∙ sym (same ∙ rw here at (miss rs n b (k - 1) q)) }

    module _ (l : k ≤ length rs) (q : backing_at rs (k - 1) ≡ b) where
      one : from rs n b (k - 1) ≡ suc (pick m 1 0)
      one = let i = M.along.low in rw here at (hit rs n b (k - 1) (omega arith) (omega arith) q) ∙ ap suc (sym M.held)

      -- a holder where none was met before
      pub meets_one : m ≡ false → Meets rs n c b true (get_or c.next (k - 1) 0)
      meets_one i = record { along = next; held = sym (same ∙ one ∙ ap (λ (t : Bool). suc (pick t 1 0)) i) }

      -- another holder where one was met before
      pub meets_two : m ≡ true → 1 < holders b (left rs n 0)
      meets_two i = omega (arith, one ∙ ap (λ (t : Bool). suc (pick t 1 0)) i, fewer rs n b (k - 1))

  pub meets_end : (m : Bool) (k : ℕ) → Meets rs n c b m k → k ≡ 0 → holders b (left rs n 0) ≤ 1
  meets_end m k M z = let q : from rs n b 0 ≡ pick m 1 0 = ap (from rs n b) (sym z) ∙ sym M.held in rw q (few m)
    where
      few : (t : Bool) → pick t 1 0 ≤ 1
      few true = omega arith
      few false = omega arith

-- the same with the entries `rest` before the walk
pub record MeetsLeft (rs : List PageRange) (n : ℕ) (c : Chains) (b : ℕ) (met : Bool) (rest : List ℕ) : Type 0 where
  pub link : ℕ
  pub meets : Meets rs n c b met link
  pub few : n ≤ 1024
  pub is : rest ≡ entries c.next link

module _ (rs : List PageRange) (n : ℕ) (c : Chains) (b : ℕ) where
  pub left_none : RangeChains rs n c → n ≤ 1024 → (s : List ℕ) → s ≡ entries c.next (get_or c.heads (b % 1024) 0) → MeetsLeft rs n c b false s
  left_none C l s e = record { link = get_or c.heads (b % 1024) 0; meets = meets_none rs n c b C; few = l; is = e }

  pub left_falling : RangeChains rs n c → n ≤ 1024 → (s : List ℕ) → s ≡ falling c.next (get_or c.heads (b % 1024) 0) → MeetsLeft rs n c b false s
  left_falling C l s e = left_none C l s (e ∙ falling_along (chain_by rs) (b % 1024) c.next n (get_or c.heads (b % 1024) 0) (meets_none rs n c b C).along)

  module _ (m : Bool) (i : ℕ) (rest : List ℕ) (M : MeetsLeft rs n c b m (i ∷ rest)) where
    first : (M.link ≡ i + 1) × (rest ≡ entries c.next (min (get_or c.next i 0) i))
    first = entries_first c.next i rest M.link M.is (let l = M.meets.along.low in let f = M.few in omega arith)

    past : (k : ℕ) → k ≡ i + 1 → k - 1 ≡ i
    past k e = omega arith

    lower : min (get_or c.next i 0) i ≡ get_or c.next i 0
    lower =
        let h = first.0 in
        let l : get_or c.next i 0 < M.link = rw (past M.link h) at (meets_less rs n c b m M.link M.meets (omega arith)) in
        omega arith

    pub left_low : i < n
    left_low = let l = M.meets.along.low in let h = first.0 in omega arith

    pub left_miss : (backing_at rs i ≡ b → ⊥) → MeetsLeft rs n c b m rest
    left_miss q =
        let h = first.0 in
        record {
          link = get_or c.next i 0;
          meets = rw (past M.link h) at (meets_miss rs n c b m M.link M.meets (omega arith) (rw (past M.link h) q));
          few = M.few;
          is = rw lower at first.1;
        }

    pub left_one : i < length rs → backing_at rs i ≡ b → m ≡ false → MeetsLeft rs n c b true rest
    left_one l q z =
        let h = first.0 in
        record {
          link = get_or c.next i 0;
          meets = rw (past M.link h) at (meets_one rs n c b m M.link M.meets (omega arith) (omega arith) (rw (past M.link h) q) z);
          few = M.few;
          is = rw lower at first.1;
        }

    pub left_two : i < length rs → backing_at rs i ≡ b → m ≡ true → 1 < holders b (left rs n 0)
    left_two l q z = let h = first.0 in meets_two rs n c b m M.link M.meets (omega arith) (omega arith) (rw (past M.link h) q) z

  pub left_few : (m : Bool) → MeetsLeft rs n c b m [] → holders b (left rs n 0) ≤ 1
  left_few m M = meets_end rs n c b m M.link M.meets (entries_over c.next M.link M.is (let l = M.meets.along.low in let f = M.few in omega arith))

-- what that says of the store
module _ (s : Store) (b : ℕ) where
  pub holders_shared : 1 < holders b (left s.ranges s.count 0) → state.Shared ≡ shared_in s b
  holders_shared h = rw (lt-ltb 1 (holders b (ranges_of (used s))) h)

  pub holders_private : holders b (left s.ranges s.count 0) ≤ 1 → state.Private ≡ shared_in s b
  holders_private h = rw (le-ltb 1 (holders b (ranges_of (used s))) h)

-- a page that is present has a backing with a number, and a frame of the store
module _ (s : Store) (g : ℕ) (l : Located) where
  abbrev at : ℕ → PageRange
  at k = get_or s.ranges k zero_range

  abbrev frame : ℕ → Option ℕ
  frame k = frame_at (number_of (at k).backing) (index_in (at k) g) 0 (take s.frames s.places)

  both : located s g ≡ Some l → (0 < l.backing) × (l.frame < s.frames)
  unfolding located
  both h = go (covering_at g (ranged_of (used s))) h
    where
      in_frame_lem : (k : ℕ) (f : Option ℕ) → frame k ≡ f → in_frame (number_of (at k).backing) f ≡ Some l → (0 < l.backing) × (l.frame < s.frames)
      in_frame_lem k None q e = absurd (let z : ◌≡◌ {A = ℕ} 0 1 = cc in omega arith)
      in_frame_lem k (Some f) q e =
          let z : record { backing = number_of (at k).backing; frame = f } ≡ l = cc in
          let F = frame_found (number_of (at k).backing) (index_in (at k) g) 0 (take s.frames s.places) f q in
          let b = there_positive (number_of (at k).backing) (index_in (at k) g) (place_at (take s.frames s.places) F.at) F.stands in
          (omega (arith, ap (λ w. w.backing) z), omega (arith, ap (λ w. w.frame) z, F.inside, F.number, length-take s.frames s.places))

      go : (c : Option ℕ) → in_found s g c ≡ Some l → (0 < l.backing) × (l.frame < s.frames)
      go None e = absurd (let z : ◌≡◌ {A = ℕ} 0 1 = cc in omega arith)
      go (Some k) e = in_frame_lem k (frame k) refl e

  pub located_positive : located s g ≡ Some l → 0 < l.backing
  located_positive h = (both h).0

  pub located_inside : located s g ≡ Some l → l.frame < s.frames
  located_inside h = (both h).1

pub inside_found : (s : Store) (g : ℕ) (page : Option Located) → page ≡ located s g → IfSome page (λ l. l.frame < s.frames)
inside_found s g None e = tt
inside_found s g (Some l) e = located_inside s g l (sym e)
