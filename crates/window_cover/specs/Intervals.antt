-- Intervals of indices that the windows of ranges cover, in chains by the blocks of indices that they meet.
use Rattle.std.specs.Prelude.{◌≡◌, refl, Bool, true, false, not, ◌&&◌, List, [], ◌∷◌, ◌++◌, ℕ, zero, suc, ◌+◌, ◌-◌, ◌*◌, ◌/◌, ◌%◌, ◌^◌, ◌≤◌, ◌<◌, Option, Some, None, IfNone, IfSome, MatchOption, is_some, min, max, eqb, leb, ltb, get_or, length, replicate, set}
use Rattle.std.proofs.Common.{sym, ap, ◌∙◌, div-lt_iff_lt-mul, le_refl, add-one, arith, pow_pos, get_or-set_other, get_or-set_same, eq-eqb, eqb-true, le-leb, leb-true, lt-ltb, ltb-true, ne_eqb, length-append, length-set}
use Rattle.std.proofs.lemmas.Bool.{false≢true, not-true}
use Rattle.std.proofs.lemmas.List.{length-replicate}
use Rattle.std.proofs.Math.Nat.{add-div_right, div-eq_of_lt, pow-le-pow_right, pow-succ', zero-div}
use Rattle.std.proofs.Math.Pow.{shr_mono}
use Rattle.std.proofs.Math.Logic.{∥∥₁_elim}
use Rattle.std.proofs.Props.{props}
use Rattle.std.proofs.Math.Seq.{get_or-append_seam}
use Rattle.std.proofs.Math.ListN.{get_or-append}
use Rattle.places.specs.declared.Place.{Place}
use Rattle.table.specs.declared.PageRange.{PageRange}
use Rattle.window_cover.specs.declared.Interval.{Interval}
use Rattle.window_cover.specs.declared.Cover.{Cover}
use Rattle.lists.specs.Test.{pick, and_left, and_right, by-eq, by-lt, by-test}
use Rattle.lists.specs.Every.{all_below, at_below, below_fails, none_both}
use Rattle.ranges.specs.Table.{named}
use Rattle.table.specs.Table.{number_of, ranges_of, zero_range}
use Rattle.chains.specs.Chains.{Chained, chained_alike, chained_next, in_chain, last_below}
use Rattle.chains.specs.Entries.{entries, entries_first, entries_none, entries_over}
use Rattle.chains.specs.Falling.{below_same, falling, falling_along, falling_first, falling_none, link_below}
use Rattle.chains.specs.Walk.{Along, along_at, along_less, along_next, onward}
use Rattle.window_search.specs.Windows.{chains_none, in_window, outside, windows_all}
use Rattle.charts.specs.Charts.{chain_by, Empty}

-- the place lies in the interval
abbrev pub within : Interval → Place → Bool
within a p = eqb p.backing a.backing && (leb a.first p.index && ltb p.index a.end)

-- the intervals overlap
abbrev pub meets : Interval → Interval → Bool
meets a b = eqb a.backing b.backing && (ltb a.first b.end && ltb b.first a.end)

-- two that overlap, as one
abbrev pub united : Interval → Interval → Interval
united a b = record { backing = a.backing; first = min a.first b.first; end = max a.end b.end }

-- the chain of block c of 2^k indices of backing b
abbrev pub key_of : ℕ → ℕ → ℕ → ℕ
key_of b k c = (b % 1024 * 633 + k * 101 + (c + c / 1024)) % 1024

abbrev pub count : Cover → ℕ
count v = length v.intervals.items

abbrev pub interval_at : Cover → ℕ → Interval
interval_at v c = get_or v.intervals.items c (record { backing = 0; first = 0; end = 0 })

-- how many sizes of blocks there are
abbrev pub size_count : Cover → ℕ
size_count v = length v.sizes.items

abbrev pub size_at : Cover → ℕ → ℕ
size_at v j = get_or v.sizes.items j 0

-- the place lies in one of the intervals
abbrev pub covered : Cover → Place → Bool
covered v p = not (all_below (λ c. not (within (interval_at v c) p)) (count v))

-- there is no interval
abbrev pub Bare : Cover → Type 0
Bare v = (count v ≡ 0) × (size_count v ≡ 0) × Empty v.chains

-- the intervals are in chains, by blocks of sizes up to 2^33
pub record Filed (chain : ℕ → ℕ) (v : Cover) : Type 0 where
  pub few : count v ≤ 1024
  pub heads : length v.chains.heads ≡ 1024
  pub next : length v.chains.next ≡ 1024
  pub small : (j : ℕ) → j < size_count v → size_at v j ≤ 33
  pub chained : Chained chain (count v) v.chains.heads v.chains.next

-- the slot of an interval of chain h that passes a test, or none where none of the chain does
abbrev pub First : (Interval → Bool → Type 0) → (ℕ → ℕ) → Cover → ℕ → Option ℕ → Type 0
First T chain v h None = (c : ℕ) → c < count v → chain c ≡ h → T (interval_at v c) false
First T chain v h (Some i) = (i < count v) × (chain i ≡ h) × T (interval_at v i) true

-- every place of the intervals passes the test
abbrev pub Pass : (Place → Bool) → Cover → Type 0
Pass P v = (c : ℕ) → c < count v → (p : Place) → within (interval_at v c) p ≡ true → P p ≡ true

-- the intervals of v became those of w: none shrank or left its chain, and all their places are old ones or lie in interval a
pub record Grown (c d : ℕ → ℕ) (v w : Cover) (a : Interval) : Type 0 where
  pub more : count v ≤ count w
  pub same : (k : ℕ) → k < count v → d k ≡ c k
  pub wider : (k : ℕ) → k < count v → (p : Place) → within (interval_at v k) p ≡ true → within (interval_at w k) p ≡ true
  pub sound : (P : Place → Bool) → Pass P v → ((p : Place) → within a p ≡ true → P p ≡ true) → Pass P w

-- an interval of chain h has every place of a
pub record Held (chain : ℕ → ℕ) (v : Cover) (h : ℕ) (a : Interval) : Type 0 where
  pub at : ℕ
  pub below : at < count v
  pub key : chain at ≡ h
  pub wide : (p : Place) → within a p ≡ true → within (interval_at v at) p ≡ true

-- the interval was put into chain h
pub record Put (chain : ℕ → ℕ) (v w : Cover) (h : ℕ) (a : Interval) : Type 0 where
  pub chains : ℕ → ℕ
  pub few : count w ≤ count v + 1
  pub filed : Filed chains w
  pub sizes : w.sizes ≡ v.sizes
  pub grown : Grown chain chains v w a
  pub held : Held chains w h a

-- size k is among the sizes, which are otherwise as they were and where they were
pub record Sized (zs ys : List ℕ) (k : ℕ) : Type 0 where
  pub more : length zs ≤ length ys
  pub few : length ys ≤ length zs + 1
  pub same : (j : ℕ) → j < length zs → get_or ys j 0 ≡ get_or zs j 0
  pub new : (j : ℕ) → length zs ≤ j → j < length ys → get_or ys j 0 ≡ k
  pub at : ℕ
  pub below : at < length ys
  pub here : get_or ys at 0 ≡ k

-- so it is with the sizes of a cover, whose intervals stayed
pub record Marked (v w : Cover) (k : ℕ) : Type 0 where
  pub intervals : w.intervals ≡ v.intervals
  pub chains : w.chains ≡ v.chains
  pub sized : Sized v.sizes.items w.sizes.items k

-- the interval was put into the chain of each block of 2^size indices that it meets
pub record Entered (chain : ℕ → ℕ) (v w : Cover) (a : Interval) : Type 0 where
  pub chains : ℕ → ℕ
  pub size : ℕ
  pub sized : Sized v.sizes.items w.sizes.items size
  pub few : count w ≤ count v + 2
  pub filed : Filed chains w
  pub grown : Grown chain chains v w a
  pub held : (j : ℕ) → a.first ≤ j → j < a.end → Held chains w (key_of a.backing size (j / 2 ^ size)) a

-- an interval in the chain of the block of place p, of one of the sizes, has p
pub record Entry (chain : ℕ → ℕ) (v : Cover) (p : Place) : Type 0 where
  pub size : ℕ
  pub sized : size < size_count v
  pub at : ℕ
  pub below : at < count v
  pub key : chain at ≡ key_of p.backing (size_at v size) (p.index / 2 ^ size_at v size)
  pub has : within (interval_at v at) p ≡ true

-- the intervals are those of the windows of the first m ranges
pub record Covers (rs : List PageRange) (m : ℕ) (v : Cover) : Type 0 where
  pub chain : ℕ → ℕ
  pub few : count v ≤ m + m
  pub filed : Filed chain v
  pub inside : (c : ℕ) → c < count v → (p : Place) → within (interval_at v c) p ≡ true → all_below (outside rs p) m ≡ false
  pub entry : (i : ℕ) (p : Place) → i < m → in_window rs p i ≡ true → Entry chain v p

-- the same, each of the ranges having brought one size of blocks at most
pub record CoversSized (rs : List PageRange) (m : ℕ) (v : Cover) : Type 0 where
  pub covers : Covers rs m v
  pub sizes : size_count v ≤ m

-- each place of the intervals is found
pub record Indexed (v : Cover) : Type 0 where
  pub chain : ℕ → ℕ
  pub filed : Filed chain v
  pub entry : (p : Place) → covered v p ≡ true → Entry chain v p

-- an interval of places that are covered, which has place p; or none, where p is not covered
abbrev pub Shown : Cover → Place → Option Interval → Type 0
Shown v p None = covered v p ≡ false
Shown v p (Some a) = (within a p ≡ true) × ((q : Place) → within a q ≡ true → covered v q ≡ true)

-- no interval has place p, in the chain of its block of one of the first k sizes
pub record Missed (v : Cover) (p : Place) (k : ℕ) : Type 0 where
  pub none : (j : ℕ) → j < k → (chain : ℕ → ℕ) → Filed chain v
      → (c : ℕ) → c < count v → chain c ≡ key_of p.backing (size_at v j) (p.index / 2 ^ size_at v j) → within (interval_at v c) p ≡ false

-- ---- the walk along a chain
-- no interval of the chain from link k on passes the test
pub record Sought (T : Interval → Bool → Type 0) (v : Cover) (h k : ℕ) : Type 0 where
  pub along : (chain : ℕ → ℕ) → Filed chain v → Along chain h v.chains.next (count v) k
  pub over : (chain : ℕ → ℕ) → Filed chain v → (c : ℕ) → k ≤ c → c < count v → chain c ≡ h → T (interval_at v c) false

-- the walk has the entries `rest` before it
pub record Ahead (T : Interval → Bool → Type 0) (v : Cover) (h : ℕ) (rest : List ℕ) : Type 0 where
  pub link : ℕ
  pub sought : Sought T v h link
  pub is : rest ≡ entries v.chains.next link

-- above the last number with a property has none it
last_over : (P : ℕ → Bool) (n c : ℕ) → last_below P n ≤ c → c < n → P c ≡ false
unfolding last_below
last_over P zero c l h = absurd (omega arith)
last_over P (suc n) c l h =
    by-test (P n)
    (λ e. absurd (let k : suc n ≤ c = rw e at l in omega arith))
    (λ e. by-eq c n (λ q. rw q e) (λ q. last_over P n c (rw e at l) (omega arith)))

module _ (T : Interval → Bool → Type 0) (v : Cover) (h : ℕ) where
  pub sought_start : h < 1024 → Sought T v h (get_or v.chains.heads h 0)
  sought_start b = record {
    along = λ d G. along_at d h v.chains.next (count v) (count v) (get_or v.chains.heads h 0) G.chained.next b (le_refl (count v)) (G.chained.heads h b);
    over = λ d G c l u e.
        absurd (false≢true (sym (last_over (in_chain d h) (count v) c (omega (arith, G.chained.heads h b)) u) ∙ eq-eqb (d c) h e));
  }

  -- at slot i
  module _ (i : ℕ) (S : Sought T v h (i + 1)) where
    pub sought_less : (chain : ℕ → ℕ) → Filed chain v → get_or v.chains.next i 0 ≤ i
    sought_less chain F = let q : i + 1 - 1 ≡ i = omega arith in let l = rw q at (along_less chain h v.chains.next (count v) (i + 1) (S.along chain F) (omega arith)) in omega arith

    pub sought_next : (i < count v → T (interval_at v i) false) → Sought T v h (min (get_or v.chains.next i 0) i)
    sought_next t = record {
      along = λ d G.
          let q : i + 1 - 1 ≡ i = omega arith in
          let m : min (get_or v.chains.next i 0) i ≡ get_or v.chains.next i 0 = omega (arith, sought_less d G) in
          rw m (rw q at (along_next d h v.chains.next (count v) (i + 1) (S.along d G) (omega arith)));
      over = λ d G c l u e.
          by-lt c i
          (λ k.
          let q : i + 1 - 1 ≡ i = omega arith in
          let o = rw q at (onward d h v.chains.next (count v) (i + 1) (S.along d G) (omega arith)) in
          absurd (false≢true (sym (last_over (in_chain d h) i c (omega (arith, o, l, sought_less d G)) k) ∙ eq-eqb (d c) h e)))
          (λ k. by-eq c i (λ q. rw q (t (omega arith))) (λ q. S.over d G c (omega arith) u e));
    }

    pub sought_hit : T (interval_at v i) true → (chain : ℕ → ℕ) → Filed chain v → First T chain v h (Some i)
    sought_hit t chain F =
        let A = S.along chain F in
        let q : i + 1 - 1 ≡ i = omega arith in
        (omega (arith, A.low), eqb-true (chain i) h (rw q at (A.inside (omega arith))), t)

  pub sought_end : Sought T v h 0 → (chain : ℕ → ℕ) → Filed chain v → First T chain v h None
  sought_end S chain F = λ c u e. S.over chain F c (omega arith) u e

  pub ahead_start : (rest : List ℕ) → h < 1024 → rest ≡ entries v.chains.next (get_or v.chains.heads h 0) → Ahead T v h rest
  ahead_start rest b e = record { link = get_or v.chains.heads h 0; sought = sought_start b; is = e }

  module _ (i : ℕ) (rest : List ℕ) (A : Ahead T v h (i ∷ rest)) where
    first : (A.link ≡ i + 1) × (rest ≡ entries v.chains.next (min (get_or v.chains.next i 0) i))
    first =
        by-lt 1024 A.link
        (λ h. let e : i ∷ rest ≡ [] = A.is ∙ entries_none v.chains.next A.link h in absurd (let z : ◌≡◌ {A = ℕ} 0 1 = cc in omega arith))
        (λ h. entries_first v.chains.next i rest A.link A.is h)

    pub ahead_next : (i < count v → T (interval_at v i) false) → Ahead T v h rest
    ahead_next t = record { link = min (get_or v.chains.next i 0) i; sought = sought_next i (rw first.0 at A.sought) t; is = first.1 }

    pub ahead_low : (chain : ℕ → ℕ) → Filed chain v → i < count v
    ahead_low chain F = omega (arith, (A.sought.along chain F).low, first.0)

    pub ahead_hit : T (interval_at v i) true → (chain : ℕ → ℕ) → Filed chain v → First T chain v h (Some i)
    ahead_hit t = sought_hit i (rw first.0 at A.sought) t

  pub ahead_end : Ahead T v h [] → (chain : ℕ → ℕ) → Filed chain v → First T chain v h None
  ahead_end A chain F =
      let l : A.link ≤ 1024 = omega (arith, (A.sought.along chain F).low, F.few) in
      sought_end (rw (entries_over v.chains.next A.link A.is l) at A.sought) chain F

-- ---- the same walk by the entries of the chain as long as its links fall
pub record AheadFalling (T : Interval → Bool → Type 0) (v : Cover) (h : ℕ) (rest : List ℕ) : Type 0 where
  pub link : ℕ
  pub sought : Sought T v h link
  pub is : rest ≡ falling v.chains.next link

module _ (T : Interval → Bool → Type 0) (v : Cover) (h : ℕ) where
  -- where the intervals are in chains, these are all entries
  falling_all : (rest : List ℕ) → AheadFalling T v h rest → (chain : ℕ → ℕ) → Filed chain v → Ahead T v h rest
  falling_all rest A chain F =
      record { link = A.link; sought = A.sought; is = A.is ∙ falling_along chain h v.chains.next (count v) A.link (A.sought.along chain F) }

  pub falling_start : (rest : List ℕ) → h < 1024 → rest ≡ falling v.chains.next (get_or v.chains.heads h 0) → AheadFalling T v h rest
  falling_start rest b e = record { link = get_or v.chains.heads h 0; sought = sought_start T v h b; is = e }

  -- at slot i
  module _ (i : ℕ) (S : Sought T v h (i + 1)) where
    as_low : (chain : ℕ → ℕ) → Filed chain v → min (get_or v.chains.next i 0) i ≡ link_below (get_or v.chains.next i 0) i
    as_low chain F = let l = sought_less T v h i S chain F in sym (below_same (get_or v.chains.next i 0) i l ∙ omega arith)

    pub sought_falling : (i < count v → T (interval_at v i) false) → Sought T v h (link_below (get_or v.chains.next i 0) i)
    sought_falling t =
        let N = sought_next T v h i S t in
        record {
          along = λ d G. rw (as_low d G) at (N.along d G);
          over = λ d G c l. N.over d G c (rw (as_low d G) l);
        }

  module _ (i : ℕ) (rest : List ℕ) (A : AheadFalling T v h (i ∷ rest)) where
    begins_at : (A.link ≡ i + 1) × (rest ≡ falling v.chains.next (link_below (get_or v.chains.next i 0) i))
    begins_at =
        by-lt 1024 A.link
        (λ h. let e : i ∷ rest ≡ [] = A.is ∙ falling_none v.chains.next A.link h in absurd (let z : ◌≡◌ {A = ℕ} 0 1 = cc in omega arith))
        (λ h. falling_first v.chains.next i rest A.link A.is h)

    pub falling_next : (i < count v → T (interval_at v i) false) → AheadFalling T v h rest
    falling_next t = record { link = link_below (get_or v.chains.next i 0) i; sought = sought_falling i (rw begins_at.0 at A.sought) t; is = begins_at.1 }

    pub falling_low : (chain : ℕ → ℕ) → Filed chain v → i < count v
    falling_low chain F = ahead_low T v h i rest (falling_all (i ∷ rest) A chain F) chain F

    pub falling_hit : T (interval_at v i) true → (chain : ℕ → ℕ) → Filed chain v → First T chain v h (Some i)
    falling_hit t chain F = ahead_hit T v h i rest (falling_all (i ∷ rest) A chain F) t chain F

  pub falling_ended : AheadFalling T v h [] → (chain : ℕ → ℕ) → Filed chain v → First T chain v h None
  falling_ended A chain F = ahead_end T v h (falling_all [] A chain F) chain F

-- ---- blocks
-- indices less than a block apart lie in one block, or in two that adjoin
pub blocks_near : (a b k : ℕ) → a ≤ b → (b - a) / 2 ^ k ≡ 0 → b / 2 ^ k ≤ a / 2 ^ k + 1
blocks_near a b k l z =
    let u : (b - a) / 2 ^ k < 1 = omega arith in
    let v = (div-lt_iff_lt-mul (pow_pos k)).0 u in
    let w : b ≤ a + 2 ^ k = omega arith in
    omega (arith, shr_mono k w, add-div_right a (pow_pos k))

-- the size of blocks, by the logarithm of how far apart they are
pub size_near : (a b k : ℕ) → a ≤ b → b < 8589934592 → 2 ^ k ≤ b - a → b - a < 2 * 2 ^ k → (k + 1 ≤ 33) × (b / 2 ^ (k + 1) ≤ a / 2 ^ (k + 1) + 1)
size_near a b k l m p q =
    let e : 2 ^ (k + 1) ≡ 2 * 2 ^ k = rw add-one (pow-succ' 2 k) in
    let few : k + 1 ≤ 33 = by-lt k 33 (λ h. omega arith) (λ h. absurd (let r : 2 ^ 33 ≤ 2 ^ k = pow-le-pow_right (omega arith) h in omega arith)) in
    let z : (b - a) / 2 ^ (k + 1) ≡ 0 = div-eq_of_lt (omega arith) in
    (few, blocks_near a b (k + 1) l z)

-- the same, by the logarithm where there is one
pub size_told : (a b r : ℕ) (o : Option ℕ) (Q : ℕ → Type 0) → a ≤ b → b < 8589934592 → IfNone o (b - a ≡ 0) → IfSome o (λ k. 2 ^ k ≤ b - a) → IfSome o (λ k. b - a < 2 * 2 ^ k)
    → MatchOption o (r ≡ 0) Q → ((k : ℕ) → Q k → r ≡ k + 1) → (r ≤ 33) × (b / 2 ^ r ≤ a / 2 ^ r + 1)
size_told a b r None Q l u z p q e f = let w : (b - a) / 2 ^ 0 ≡ 0 = rw z (zero-div (2 ^ 0)) in rw e (omega arith, blocks_near a b 0 l w)
size_told a b r (Some k) Q l u z p q e f = rw (f k e) (size_near a b k l u p q)

-- ---- places of intervals
pub record Within (a : Interval) (p : Place) : Type 0 where
  pub backing : p.backing ≡ a.backing
  pub first : a.first ≤ p.index
  pub end : p.index < a.end

pub is_within : (a : Interval) (p : Place) → within a p ≡ true → Within a p
is_within a p e =
    let o = and_right (eqb p.backing a.backing) (leb a.first p.index && ltb p.index a.end) e in
    record {
      backing = eqb-true p.backing a.backing (and_left (eqb p.backing a.backing) (leb a.first p.index && ltb p.index a.end) e);
      first = leb-true a.first p.index (and_left (leb a.first p.index) (ltb p.index a.end) o);
      end = ltb-true p.index a.end (and_right (leb a.first p.index) (ltb p.index a.end) o);
    }

pub by_within : (a : Interval) (p : Place) → Within a p → within a p ≡ true
by_within a p W = rw (eq-eqb p.backing a.backing W.backing, le-leb a.first p.index W.first, lt-ltb p.index a.end W.end)

module _ (v : Cover) (p : Place) where
  pub covered_by : (c : ℕ) → c < count v → within (interval_at v c) p ≡ true → covered v p ≡ true
  covered_by c h e = ap not (sym (below_fails (λ c. not (within (interval_at v c) p)) (count v) c h (ap not e)))

  pub covered_none : ((c : ℕ) → c < count v → within (interval_at v c) p ≡ false) → covered v p ≡ false
  covered_none f = ap not (at_below (λ c. not (within (interval_at v c) p)) (count v) (λ c h. ap not (f c h)))

-- what is shown is whether the place is covered
pub shown_covered : (v : Cover) (p : Place) (o : Option Interval) → Shown v p o → covered v p ≡ is_some o
shown_covered v p None S = S
shown_covered v p (Some a) S = S.1 p S.0

-- ---- intervals that overlap are one
module _ (a b : Interval) (t : meets a b ≡ true) where
  same_backing : a.backing ≡ b.backing
  same_backing = eqb-true a.backing b.backing (and_left (eqb a.backing b.backing) (ltb a.first b.end && ltb b.first a.end) t)

  over_left : a.first < b.end
  over_left = ltb-true a.first b.end (and_left (ltb a.first b.end) (ltb b.first a.end) (and_right (eqb a.backing b.backing) (ltb a.first b.end && ltb b.first a.end) t))

  over_right : b.first < a.end
  over_right = ltb-true b.first a.end (and_right (ltb a.first b.end) (ltb b.first a.end) (and_right (eqb a.backing b.backing) (ltb a.first b.end && ltb b.first a.end) t))

  pub united_left : (p : Place) → within a p ≡ true → within (united a b) p ≡ true
  united_left p e = let W = is_within a p e in by_within (united a b) p (record { backing = W.backing; first = omega (arith, W.first); end = omega (arith, W.end) })

  pub united_right : (p : Place) → within b p ≡ true → within (united a b) p ≡ true
  united_right p e =
      let W = is_within b p e in
      by_within (united a b) p (record { backing = W.backing ∙ sym same_backing; first = omega (arith, W.first); end = omega (arith, W.end) })

  pub united_either : (P : Place → Bool) (p : Place) → within (united a b) p ≡ true → (within a p ≡ true → P p ≡ true) → (within b p ≡ true → P p ≡ true) → P p ≡ true
  united_either P p e l r =
      let W = is_within (united a b) p e in
      let m = W.first in
      let n = W.end in
      let x = over_left in
      let y = over_right in
      by-lt p.index a.first
      (λ h. r (by_within b p (record { backing = W.backing ∙ same_backing; first = omega arith; end = omega arith })))
      (λ h. by-lt p.index a.end
      (λ k. l (by_within a p (record { backing = W.backing; first = h; end = k })))
      (λ k. r (by_within b p (record { backing = W.backing ∙ same_backing; first = omega arith; end = omega arith }))))

-- ---- an interval is put into a chain
module _ (chain : ℕ → ℕ) (v : Cover) (h : ℕ) (a : Interval) (F : Filed chain v) where
  -- interval i of the chain takes it in
  module _ (i : ℕ) (l : i < count v) (e : chain i ≡ h) (t : meets (interval_at v i) a ≡ true) where
    abbrev widened : Cover
    widened = record { intervals = record { items = set v.intervals.items i (united (interval_at v i) a) }; chains = v.chains; sizes = v.sizes }

    as_many : count widened ≡ count v
    as_many = simp length-set refl

    here : interval_at widened i ≡ united (interval_at v i) a
    here = get_or-set_same v.intervals.items i (united (interval_at v i) a) (record { backing = 0; first = 0; end = 0 }) l

    other : (k : ℕ) → (k ≡ i → ⊥) → interval_at widened k ≡ interval_at v k
    other k n = get_or-set_other v.intervals.items i k (united (interval_at v i) a) (record { backing = 0; first = 0; end = 0 }) n

    pub put_united : Put chain v widened h a
    put_united = record {
      chains = chain;
      few = omega (arith, as_many);
      filed = record { few = omega (arith, as_many, F.few); heads = F.heads; next = F.next; small = F.small; chained = rw as_many F.chained };
      sizes = refl;
      grown = record {
        more = omega (arith, as_many);
        same = λ k u. refl;
        wider = λ k u p w.
            by-eq k i
            (λ q. rw (q, here) (united_left (interval_at v i) a t p (rw q at w)))
            (λ q. rw (other k q) w);
        sound = λ P old new k u p w.
            by-eq k i
            (λ q. united_either (interval_at v i) a t P p (rw (q, here) at w) (old i l p) (new p))
            (λ q. old k (omega (arith, as_many)) p (rw (other k q) at w));
      };
      held = record { at = i; below = omega (arith, as_many); key = e; wide = λ p w. rw here (united_right (interval_at v i) a t p w) };
    }

  -- it is a new one
  module _ (b : count v < 1024) (u : h < 1024) where
    abbrev longer : Cover
    longer = record {
      intervals = record { items = v.intervals.items ++ (a ∷ []) };
      chains = record { heads = set v.chains.heads h (count v + 1); next = set v.chains.next (count v) (get_or v.chains.heads h 0) };
      sizes = v.sizes;
    }

    one_more : count longer ≡ count v + 1
    one_more = simp length-append refl

    abbrev after : ℕ → ℕ
    after k = pick (eqb k (count v)) h (chain k)

    last : after (count v) ≡ h
    last = rw (eq-eqb (count v) (count v) refl)

    before : (k : ℕ) → k < count v → after k ≡ chain k
    before k l = rw (ne_eqb k (count v) (λ e. omega arith))

    new_one : interval_at longer (count v) ≡ a
    new_one = get_or-append_seam v.intervals.items a [] (record { backing = 0; first = 0; end = 0 })

    old_one : (k : ℕ) → k < count v → interval_at longer k ≡ interval_at v k
    old_one k l = get_or-append v.intervals.items (a ∷ []) (record { backing = 0; first = 0; end = 0 }) k l

    pub put_new : Put chain v longer h a
    put_new = record {
      chains = after;
      few = omega (arith, one_more);
      filed = record {
        few = omega (arith, one_more);
        heads = simp length-set F.heads;
        next = simp length-set F.next;
        small = F.small;
        chained =
            let C = chained_alike chain after (count v) v.chains.heads v.chains.next (λ k l. sym (before k l)) F.chained in
            rw one_more (rw last at (chained_next after v.chains.heads v.chains.next (count v) C F.heads (omega (arith, F.next)) (omega (arith, last))));
      };
      sizes = refl;
      grown = record {
        more = omega (arith, one_more);
        same = before;
        wider = λ k l p w. rw (old_one k l) w;
        sound = λ P old new k l p w.
            by-eq k (count v)
            (λ q. new p (rw (q, new_one) at w))
            (λ q. let m : k < count v = omega (arith, one_more) in old k m p (rw (old_one k m) at w));
      };
      held = record { at = count v; below = omega (arith, one_more); key = last; wide = λ p w. rw new_one w };
    }

-- ---- twice
module _ (c d : ℕ → ℕ) (v w : Cover) (a : Interval) (G : Grown c d v w a) where
  pub grown_on : (e : ℕ → ℕ) (x : Cover) → Grown d e w x a → Grown c e v x a
  grown_on e x H = record {
    more = omega (arith, G.more, H.more);
    same = λ k l. H.same k (omega (arith, G.more)) ∙ G.same k l;
    wider = λ k l p u. H.wider k (omega (arith, G.more)) p (G.wider k l p u);
    sound = λ P old new. H.sound P (G.sound P old new) new;
  }

  pub held_on : (h : ℕ) → Held c v h a → Held d w h a
  held_on h H = record {
    at = H.at;
    below = omega (arith, G.more, H.below);
    key = G.same H.at H.below ∙ H.key;
    wide = λ p u. G.wider H.at H.below p (H.wide p u);
  }

-- ---- the blocks of an interval
held_at : (chain : ℕ → ℕ) (v : Cover) (h g : ℕ) (a : Interval) → h ≡ g → Held chain v h a → Held chain v g a
held_at chain v h g a e H = record { at = H.at; below = H.below; key = H.key ∙ e; wide = H.wide }

-- ---- a size is marked
module _ (chain : ℕ → ℕ) (v u : Cover) (k : ℕ) (F : Filed chain v) (n : k ≤ 33) (M : Marked v u k) where
  as_many_marked : count u ≡ count v
  as_many_marked = ap (λ i. length i.items) M.intervals

  pub filed_marked : Filed chain u
  filed_marked = record {
    few = omega (arith, as_many_marked, F.few);
    heads = ap (λ c. length c.heads) M.chains ∙ F.heads;
    next = ap (λ c. length c.next) M.chains ∙ F.next;
    small = λ j l.
        by-lt j (size_count v)
        (λ m. omega (arith, M.sized.same j m, F.small j m))
        (λ m. omega (arith, M.sized.new j m l));
    chained = rw (M.intervals, M.chains) F.chained;
  }

  grown_unmarked : (d : ℕ → ℕ) (w : Cover) (a : Interval) → Grown chain d u w a → Grown chain d v w a
  grown_unmarked d w a G = record {
    more = omega (arith, as_many_marked, G.more);
    same = λ i l. G.same i (omega (arith, as_many_marked));
    wider = λ i l p t. G.wider i (omega (arith, as_many_marked)) p (rw M.intervals t);
    sound = λ P old new. G.sound P (λ c l p t. old c (omega (arith, as_many_marked)) p (rw M.intervals at t)) new;
  }

  module _ (w : Cover) (a : Interval) (h : ℕ) (e : h ≡ key_of a.backing k (a.first / 2 ^ k)) (P : Put chain u w h a) where
    -- it lies in one block
    pub entered_one : (a.end - 1) / 2 ^ k ≤ a.first / 2 ^ k → Entered chain v w a
    entered_one d = record {
      chains = P.chains;
      size = k;
      sized = rw P.sizes M.sized;
      few = omega (arith, as_many_marked, P.few);
      filed = P.filed;
      grown = grown_unmarked P.chains w a P.grown;
      held = λ j u l.
          let q : a.first / 2 ^ k ≡ j / 2 ^ k = let m : j ≤ a.end - 1 = omega arith in omega (arith, shr_mono k u, shr_mono k m) in
          held_at P.chains w h _ a (e ∙ ap (key_of a.backing k) q) P.held;
    }

    -- it meets two
    pub entered_two : (a.end - 1) / 2 ^ k ≤ a.first / 2 ^ k + 1 → (x : Cover) (g : ℕ) → g ≡ key_of a.backing k ((a.end - 1) / 2 ^ k) → Put P.chains w x g a → Entered chain v x a
    entered_two n x g d Q = record {
      chains = Q.chains;
      size = k;
      sized = rw (Q.sizes, P.sizes) M.sized;
      few = omega (arith, as_many_marked, P.few, Q.few);
      filed = Q.filed;
      grown = grown_on chain P.chains v w a (grown_unmarked P.chains w a P.grown) Q.chains x Q.grown;
      held = λ j u l.
          by-eq (a.first / 2 ^ k) (j / 2 ^ k)
          (λ q. held_at Q.chains x h _ a (e ∙ ap (key_of a.backing k) q) (held_on P.chains Q.chains w x a Q.grown h P.held))
          (λ q.
          let r : (a.end - 1) / 2 ^ k ≡ j / 2 ^ k = let m : j ≤ a.end - 1 = omega arith in omega (arith, shr_mono k u, shr_mono k m) in
          held_at Q.chains x g _ a (d ∙ ap (key_of a.backing k) r) Q.held);
    }

-- ---- one range more
still_false : (P : ℕ → Bool) (m : ℕ) → all_below P m ≡ false → all_below P (m + 1) ≡ false
unfolding all_below
still_false P m e = rw (add-one, e) (none_both (P m))

-- where not all numbers pass, one does not
fails_below : (P : ℕ → Bool) (m : ℕ) → all_below P m ≡ false → (i : ℕ) × (i < m) × (P i ≡ false)
unfolding all_below
fails_below P zero h = absurd (false≢true (sym h))
fails_below P (suc m) h =
    by-test (P m)
    (λ e. let r = fails_below P m (rw e at h) in (r.0, omega (arith, r.1), r.2))
    (λ e. (m, omega arith, e))

pub covers_none : (rs : List PageRange) (v : Cover) → count v ≡ 0 → ((j : ℕ) → j < size_count v → size_at v j ≤ 33) → v.chains.heads ≡ replicate 1024 0 → v.chains.next ≡ replicate 1024 0
    → Covers rs 0 v
covers_none rs v e m h n = record {
  chain = chain_by rs;
  few = omega arith;
  filed = record {
    few = omega arith;
    heads = ap length h ∙ length-replicate {A = ℕ} 1024 0;
    next = ap length n ∙ length-replicate {A = ℕ} 1024 0;
    small = m;
    chained = rw e (chains_none rs v.chains h);
  };
  inside = λ c u. absurd (omega arith);
  entry = λ i p u. absurd (omega arith);
}

module _ (rs : List PageRange) (m : ℕ) (v : Cover) (C : Covers rs m v) where
  -- its window is empty
  pub covers_skip : (get_or rs m zero_range).length ≡ 0 → Covers rs (m + 1) v
  covers_skip e = record {
    chain = C.chain;
    few = omega (arith, C.few);
    filed = C.filed;
    inside = λ c u p w. still_false (outside rs p) m (C.inside c u p w);
    entry = λ i p u t. by-eq i m (λ q. absurd (none p (rw q at t))) (λ q. C.entry i p (omega arith) t);
  }
    where
      none : (p : Place) → in_window rs p m ≡ true → ⊥
      none p t =
          let r : PageRange = get_or rs m zero_range in
          let o = and_right (eqb p.backing (number_of r.backing)) (leb r.offset p.index && ltb p.index (r.offset + r.length)) t in
          let l = leb-true r.offset p.index (and_left (leb r.offset p.index) (ltb p.index (r.offset + r.length)) o) in
          let h = ltb-true p.index (r.offset + r.length) (and_right (leb r.offset p.index) (ltb p.index (r.offset + r.length)) o) in
          omega arith

  -- its window is entered
  module _ (w : Cover) (a : Interval) (e : (p : Place) → within a p ≡ in_window rs p m) (E : Entered C.chain v w a) where
    passes : Pass (λ p. not (all_below (outside rs p) (m + 1))) w
    passes = E.grown.sound (λ p. not (all_below (outside rs p) (m + 1)))
        (λ c u p w. ap not (still_false (outside rs p) m (C.inside c u p w)))
        (λ p w. ap not (sym (below_fails (outside rs p) (m + 1) m (omega arith) (ap not (sym (e p) ∙ w)))))

    entered : (i : ℕ) (p : Place) → i < m + 1 → in_window rs p i ≡ true → Entry E.chains w p
    entered i p u t =
        by-eq i m
        (λ q. here (rw q at t))
        (λ q.
        let O = C.entry i p (omega arith) t in
        record {
          size = O.size;
          sized = omega (arith, E.sized.more, O.sized);
          at = O.at;
          below = omega (arith, E.grown.more, O.below);
          key = rw (E.sized.same O.size O.sized) (E.grown.same O.at O.below ∙ O.key);
          has = E.grown.wider O.at O.below p O.has;
        })
      where
        here : in_window rs p m ≡ true → Entry E.chains w p
        here t =
            let x = e p ∙ t in
            let W = is_within a p x in
            let H = E.held p.index W.first W.end in
            record {
              size = E.sized.at;
              sized = E.sized.below;
              at = H.at;
              below = H.below;
              key = rw E.sized.here (H.key ∙ ap (λ (b : ℕ). key_of b E.size (p.index / 2 ^ E.size)) (sym W.backing));
              has = H.wide p x;
            }

    pub covers_next : Covers rs (m + 1) w
    covers_next = record {
      chain = E.chains;
      few = omega (arith, C.few, E.few);
      filed = E.filed;
      inside = λ c u p x. not-true (all_below (outside rs p) (m + 1)) (passes c u p x);
      entry = entered;
    }

  -- ---- what all intervals say
  inside_false : (p : Place) → all_below (outside rs p) m ≡ true → covered v p ≡ false
  inside_false p t =
      covered_none v p (λ c u.
      by-test (within (interval_at v c) p)
      (λ w. absurd (false≢true (sym (C.inside c u p w) ∙ t)))
      (λ w. w))

  inside_true : (p : Place) → all_below (outside rs p) m ≡ false → Entry C.chain v p
  inside_true p t =
      let r = fails_below (outside rs p) m t in
      by-test (in_window rs p r.0) (λ e. C.entry r.0 p r.1 e) (λ e. absurd (false≢true (sym r.2 ∙ ap not e)))

  -- a place that no interval has, in the chain of its block of any of the sizes, lies in no window of the first m ranges
  pub missed_outside : (p : Place) → Missed v p (size_count v) → all_below (outside rs p) m ≡ true
  missed_outside p M =
      by-test (all_below (outside rs p) m)
      (λ t. t)
      (λ t.
      let E = inside_true p t in
      absurd (false≢true (sym (M.none E.size E.sized C.chain C.filed E.at E.below E.key) ∙ E.has)))

  -- each place of an interval lies in a window of one of them
  pub shown_hit : (c : ℕ) → c < count v → (q : Place) → within (interval_at v c) q ≡ true → all_below (outside rs q) m ≡ false
  shown_hit = C.inside

  pub covers_exact : m ≡ length rs → (p : Place) → covered v p ≡ named p.backing p.index (ranges_of rs)
  covers_exact e p =
      let w : named p.backing p.index (ranges_of rs) ≡ not (all_below (outside rs p) m) =
      windows_all rs p ∙ ap (λ k. not (all_below (outside rs p) k)) (sym e) in
      by-test (all_below (outside rs p) m)
      (λ t. inside_false p t ∙ sym (w ∙ ap not t))
      (λ t. let E = inside_true p t in covered_by v p E.at E.below E.has ∙ sym (w ∙ ap not t))

  pub covers_indexed : Indexed v
  covers_indexed = record {
    chain = C.chain;
    filed = C.filed;
    entry = λ p t.
        by-test (all_below (outside rs p) m)
        (λ q. absurd (false≢true (sym (inside_false p q) ∙ t)))
        (inside_true p);
  }

-- ---- with the sizes counted
pub sized_none : (rs : List PageRange) (v : Cover) → count v ≡ 0 → size_count v ≡ 0 → v.chains.heads ≡ replicate 1024 0 → v.chains.next ≡ replicate 1024 0
    → CoversSized rs 0 v
sized_none rs v e m h n = record { covers = covers_none rs v e (λ j u. absurd (omega (arith, m))) h n; sizes = omega (arith, m) }

module _ (rs : List PageRange) (m : ℕ) (v : Cover) (C : CoversSized rs m v) where
  pub sized_skip : (get_or rs m zero_range).length ≡ 0 → CoversSized rs (m + 1) v
  sized_skip e = record { covers = covers_skip rs m v C.covers e; sizes = omega (arith, C.sizes) }

  pub sized_next : (w : Cover) (a : Interval) → ((p : Place) → within a p ≡ in_window rs p m) → Entered C.covers.chain v w a → CoversSized rs (m + 1) w
  sized_next w a e E = record { covers = covers_next rs m v C.covers w a e E; sizes = omega (arith, C.sizes, E.sized.few) }

-- ---- all sizes
module _ (v : Cover) (p : Place) where
  pub missed_none : Missed v p 0
  missed_none = record { none = λ j u. absurd (omega arith) }

  -- none of size number k has it
  pub missed_next : (k : ℕ) → Missed v p k
      → ((chain : ℕ → ℕ) → Filed chain v → (c : ℕ) → c < count v → chain c ≡ key_of p.backing (size_at v k) (p.index / 2 ^ size_at v k) → within (interval_at v c) p ≡ false)
      → Missed v p (k + 1)
  missed_next k M f = record { none = λ j u. by-eq j k (λ q. rw q f) (λ q. M.none j (omega arith)) }

  module _ (I : Indexed v) where
    pub shown_none : Missed v p (size_count v) → Shown v p None
    shown_none M =
        by-test (covered v p)
        (λ t.
        let E = I.entry p t in
        absurd (false≢true (sym (M.none E.size E.sized I.chain I.filed E.at E.below E.key) ∙ E.has)))
        (λ t. t)

    pub shown_some : (c : ℕ) → c < count v → within (interval_at v c) p ≡ true → Shown v p (Some (interval_at v c))
    shown_some c u e = (e, λ q w. covered_by v q c u w)

  -- the same where there is such a way through the chains
  pub missed_shown : ∥ Indexed v ∥₁ → Missed v p (size_count v) → Shown v p None
  missed_shown I M = ∥∥₁_elim I (hlevel props) (λ J. shown_none J M)

  pub hit_shown : ∥ Indexed v ∥₁ → (c : ℕ) → c < count v → ((chain : ℕ → ℕ) → Filed chain v → within (interval_at v c) p ≡ true) → Shown v p (Some (interval_at v c))
  hit_shown I c u f = (∥∥₁_elim I (hlevel props) (λ J. f J.chain J.filed), λ q w. covered_by v q c u w)

-- each of the sizes is small where there is such a way
pub small_size : (v : Cover) → ∥ Indexed v ∥₁ → (zs : List ℕ) → zs ≡ v.sizes.items → (j : ℕ) → j < length zs → get_or zs j 0 ≤ 33
small_size v I zs e j = rw e (λ u. ∥∥₁_elim I (hlevel props) (λ J. J.filed.small j u))
