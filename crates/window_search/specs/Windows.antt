-- Ranges of one backing are in one chain, so that a place is looked for in the windows of its chain only.
use Rattle.std.specs.Prelude.{◌≡◌, refl, Bool, true, false, not, ◌&&◌, ◌||◌, List, [], ◌∷◌, ◌++◌, ℕ, zero, suc, ◌+◌, ◌-◌, ◌%◌, ◌≤◌, ◌<◌, Option, Some, None, Result, Ok, Err, IfOk, MatchResult, is_some, eqb, leb, get_or, length, replicate, set, take}
use Rattle.std.proofs.Common.{sym, ap, ◌∙◌, le_refl, arith, eq-eqb, get_or-take, le-ltb, length-take-le, ne_eqb, take_all}
use Rattle.std.proofs.Math.ListN.{get_or-eq_default}
use Rattle.std.specs.Result.{is_ok}
use Rattle.std.proofs.lemmas.Bool.{false≢true, true≢false}
use Rattle.std.proofs.lemmas.List.{get_or-replicate}
use Rattle.std.proofs.Math.Seq.{take-suc}
use mathlib.Core.List.{map, map-append}
use Rattle.table.specs.declared.PageRange.{PageRange}
use Rattle.places.specs.declared.Place.{Place}
use Rattle.chains.specs.declared.Chains.{Chains}
use Rattle.lists.specs.Test.{by-eq, by-lt}
use Rattle.lists.specs.Every.{all_below, below_fails}
use Rattle.ranges.specs.Range.{Range}
use Rattle.ranges.specs.Table.{named, window}
use Rattle.table.specs.Table.{number_of, range_of, ranges_of, zero_range}
use Rattle.chains.specs.Chains.{chained_alike, chained_next, in_chain, last_below, last_le}
use Rattle.chains.specs.Walk.{Walk, link_low, walk_all, walk_end, walk_here, walk_next}
use Rattle.charts.specs.Charts.{chain_by, RangeChains}
use Rattle.places.specs.Places.{place_at}
use Rattle.store.specs.Sound.{window?}

-- place p lies in the window of range i
abbrev pub in_window : List PageRange → Place → ℕ → Bool
in_window rs p i = window p.backing p.index (range_of (get_or rs i zero_range))

-- it does not
abbrev pub outside : List PageRange → Place → ℕ → Bool
outside rs p i = not (in_window rs p i)

-- what the walk along the chain of a frame's backing answers, which begins at these heads; a free frame passes
abbrev pub walked? : List PageRange → List ℕ → Place → Bool
walked? rs hs p = eqb p.backing 0 || not (all_below (outside rs p) (get_or hs (p.backing % 1024) 0))

-- each link of the entries below k leads to a lower entry
pub record Falls (ns : List ℕ) (k : ℕ) : Type 0 where
  pub down : (i : ℕ) → i < k → get_or ns i 0 ≤ i

-- the slot of a range that has place p in its window, or none
abbrev pub Hit : List PageRange → Place → Option ℕ → Type 0
Hit rs p None = Unit {0}
Hit rs p (Some i) = (i < length rs) × (in_window rs p i ≡ true)

-- the slot of a range below k with place p in its window; where there is none, a walk that is at link k finds none
abbrev pub Found : List PageRange → List ℕ → Place → ℕ → Option ℕ → Type 0
Found rs ns p k None = (m : ℕ) → Walk ns (outside rs p) m k → all_below (outside rs p) m ≡ true
Found rs ns p k (Some i) = (i < k) × (in_window rs p i ≡ true)

-- the slot of a range that has place p in its window; or none, where no range has
abbrev pub Met : List PageRange → Place → Option ℕ → Type 0
Met rs p None = named p.backing p.index (ranges_of rs) ≡ false
Met rs p (Some i) = (i < length rs) × (in_window rs p i ≡ true)

-- ---- a walk from link k on, which is at link j
pub record Going (rs : List PageRange) (ns : List ℕ) (p : Place) (k j : ℕ) : Type 0 where
  pub low : j ≤ k
  pub walk : (m : ℕ) → Walk ns (outside rs p) m k → Walk ns (outside rs p) m j

module _ (rs : List PageRange) (ns : List ℕ) (p : Place) (k : ℕ) where
  pub going_start : Going rs ns p k k
  going_start = record { low = le_refl k; walk = λ m W. W }

  -- at slot i
  module _ (i : ℕ) (G : Going rs ns p k (i + 1)) where
    pub going_less : Falls ns k → get_or ns i 0 ≤ i
    going_less F = let l = G.low in F.down i (omega arith)

    pub going_next : Falls ns k → in_window rs p i ≡ false → Going rs ns p k (get_or ns i 0)
    going_next F e =
        let q : i + 1 - 1 ≡ i = omega arith in
        record {
          low = let l = G.low in omega (arith, going_less F);
          walk = λ m W. rw q at (walk_next ns (outside rs p) m (i + 1) (G.walk m W) (omega arith) (rw q (ap not e)));
        }

    pub going_hit : in_window rs p i ≡ true → Found rs ns p k (Some i)
    going_hit e = (let l = G.low in omega arith, e)

  -- at the end of the chain
  pub going_end : Going rs ns p k 0 → Found rs ns p k None
  going_end G = λ m W. sym (walk_end ns (outside rs p) m 0 (G.walk m W) (omega arith))

-- ---- chains that are made
pub chains_none : (rs : List PageRange) (c : Chains) → c.heads ≡ replicate 1024 0 → RangeChains rs 0 c
unfolding last_below
chains_none rs c e = record { heads = λ h l. rw e (get_or-replicate 1024 h 0 0 l); next = λ i l. absurd (omega arith) }

-- range n is put into the chain of its backing
pub chains_next : (rs : List PageRange) (n h : ℕ) (c d : Chains) → h ≡ chain_by rs n → RangeChains rs n c → length c.heads ≡ 1024 → length c.next ≡ 1024 → n < 1024
    → d ≡ record { heads = set c.heads h (n + 1); next = set c.next n (get_or c.heads h 0) } → RangeChains rs (n + 1) d
chains_next rs n h c d q C l m b e = rw (e, q) (chained_next (chain_by rs) c.heads c.next n C l (omega arith) (omega arith))

-- ---- the walk along the chain of a backing
module _ (rs : List PageRange) (n : ℕ) (c : Chains) (C : RangeChains rs n c) where
  -- a range outside of the chain has another backing
  pub walk_windows : (p : Place) → Walk c.next (outside rs p) n (get_or c.heads (p.backing % 1024) 0)
  walk_windows p = walk_all (chain_by rs) c.heads c.next n C (outside rs p) (p.backing % 1024) (omega arith) other
    where
      other : (j : ℕ) → j < n → in_chain (chain_by rs) (p.backing % 1024) j ≡ false → outside rs p j ≡ true
      other j h o =
          let b : ℕ = number_of (get_or rs j zero_range).backing in
          by-eq p.backing b
          (λ e. absurd (false≢true (sym o ∙ eq-eqb (b % 1024) (p.backing % 1024) (omega arith))))
          (λ e. rw (ne_eqb p.backing b e))

  -- the ranges of the chain of p say what all ranges say
  chain_all : (p : Place) → all_below (outside rs p) (get_or c.heads (p.backing % 1024) 0) ≡ all_below (outside rs p) n
  chain_all p = (walk_windows p).same

  -- what a range in whose window p lies says of the chain of its backing
  pub met_by : (p : Place) (i : ℕ) → i < n → in_window rs p i ≡ true → all_below (outside rs p) (get_or c.heads (p.backing % 1024) 0) ≡ false
  met_by p i l e = chain_all p ∙ sym (below_fails (outside rs p) n i l (ap not e))

  -- a walk may begin at a link, and at the head of the chain
  pub link_falls : (k : ℕ) → k ≤ n → Falls c.next k
  link_falls k h = record { down = λ i l. link_low (chain_by rs) c.next n C.next i (omega arith) (omega arith) }

  pub head_low : (h : ℕ) → h < 1024 → get_or c.heads h 0 ≤ n
  head_low h b = omega (arith, C.heads h b, last_le (in_chain (chain_by rs) h) n)

-- ---- the windows of the table
named_snoc : (b i : ℕ) (rs : List Range) (r : Range) → named b i (rs ++ (r ∷ [])) ≡ (window b i r || named b i rs)
unfolding named
named_snoc b i [] r = refl
named_snoc b i (q ∷ rs) r = rw (named_snoc b i rs r) (swap (window b i q) (window b i r) (named b i rs))
  where
    swap : (x y z : Bool) → (x || (y || z)) ≡ (y || (x || z))
    swap true true z = refl
    swap true false z = refl
    swap false y z = refl

module _ (rs : List PageRange) where
  -- beyond the table is no window
  beyond : (p : Place) (k : ℕ) → length rs ≤ k → in_window rs p k ≡ false
  beyond p k h =
      let e : get_or rs k zero_range ≡ zero_range = get_or-eq_default rs zero_range {n = k} h in
      rw (e, le-ltb p.index 0 (omega arith)) (none (eqb p.backing 0) (leb 0 p.index))
    where
      none : (a b : Bool) → (a && (b && false)) ≡ false
      none true true = refl
      none true false = refl
      none false b = refl

  -- so a range with a window is one of the table
  pub in_table : (p : Place) (i : ℕ) → in_window rs p i ≡ true → i < length rs
  in_table p i e = by-lt i (length rs) (λ h. h) (λ h. absurd (false≢true (sym (beyond p i h) ∙ e)))

  -- the first k ranges have the place in a window, if it is not outside of each
  pub windows_told : (p : Place) (k : ℕ) → named p.backing p.index (ranges_of (take k rs)) ≡ not (all_below (outside rs p) k)
  unfolding named ranges_of all_below
  windows_told p zero = refl
  windows_told p (suc k) =
      by-lt k (length rs)
      (λ h.
      rw (
        take-suc rs k zero_range h,
        map-append range_of (take k rs) (get_or rs k zero_range ∷ []),
        named_snoc p.backing p.index (map range_of (take k rs)) (range_of (get_or rs k zero_range)),
      )
      (rw (windows_told p k) (either (in_window rs p k) (all_below (outside rs p) k))))
      (λ h.
      let e : take (suc k) rs ≡ take k rs = take_all (suc k) rs (omega arith) ∙ sym (take_all k rs h) in
      ap (λ (l : List PageRange). named p.backing p.index (ranges_of l)) e ∙ windows_told p k ∙ rw (beyond p k h))
    where
      either : (w a : Bool) → (w || not a) ≡ not (not w && a)
      either true a = refl
      either false a = refl

  -- so have all
  pub windows_all : (p : Place) → named p.backing p.index (ranges_of rs) ≡ not (all_below (outside rs p) (length rs))
  windows_all p =
      ap (λ (l : List PageRange). named p.backing p.index (ranges_of l)) (sym (take_all (length rs) rs (le_refl (length rs))))
      ∙ windows_told p (length rs)

  -- what is met is what all windows answer
  pub met_named : (p : Place) (o : Option ℕ) → Met rs p o → named p.backing p.index (ranges_of rs) ≡ is_some o
  met_named p None e = e
  met_named p (Some i) e = windows_all p ∙ ap not (sym (below_fails (outside rs p) (length rs) i e.0 (ap not e.1)))

  -- a range has it
  pub windowed : (p : Place) (i : ℕ) → in_window rs p i ≡ true → named p.backing p.index (ranges_of rs) ≡ true
  windowed p i e = met_named p (Some i) (in_table p i e, e)

  module _ (n : ℕ) (c : Chains) (C : RangeChains rs n c) where
    -- what the walk answers is what the windows of the first n ranges answer
    pub walk_named : (p : Place) → named p.backing p.index (ranges_of (take n rs)) ≡ not (all_below (outside rs p) (get_or c.heads (p.backing % 1024) 0))
    walk_named p = windows_told p n ∙ ap not (sym (chain_all rs n c C p))

    pub window_walked : (p : Place) → walked? rs c.heads p ≡ window? (ranges_of (take n rs)) p
    window_walked p = rw (walk_named p)

    pub walks_windows : (ps : List Place) (k : ℕ) → all_below (λ f. walked? rs c.heads (place_at ps f)) k ≡ all_below (λ f. window? (ranges_of (take n rs)) (place_at ps f)) k
    walks_windows ps k = λ j. all_below (λ f. window_walked (place_at ps f) j) k

  -- no range has the place in its window
  pub met_none : (p : Place) → all_below (outside rs p) (length rs) ≡ true → Met rs p None
  met_none p e = windows_all p ∙ ap not e

  module _ (c : Chains) (C : RangeChains rs (length rs) c) where
    -- what a walk from the head of the chain finds
    pub met_head : (p : Place) (o : Option ℕ) → Found rs c.next p (get_or c.heads (p.backing % 1024) 0) o → Met rs p o
    met_head p None F =
        let W = walk_windows rs (length rs) c C p in
        met_none p (sym (chain_all rs (length rs) c C p) ∙ F (get_or c.heads (p.backing % 1024) 0) (walk_here c.next (outside rs p) (length rs) (get_or c.heads (p.backing % 1024) 0) W))
    met_head p (Some i) F = (in_table p i F.1, F.1)

    -- the chain has no range
    pub met_empty : (p : Place) → get_or c.heads (p.backing % 1024) 0 ≡ 0 → Met rs p None
    met_empty p e = met_head p None (λ m W. sym (walk_end c.next (outside rs p) m (get_or c.heads (p.backing % 1024) 0) W (omega arith)))

-- ---- all frames
pub walked_free : (rs : List PageRange) (hs : List ℕ) (ps : List Place) (f : ℕ) → (place_at ps f).backing ≤ 0 → walked? rs hs (place_at ps f) ≡ true
walked_free rs hs ps f h = let e : (place_at ps f).backing ≡ 0 = omega arith in rw (eq-eqb (place_at ps f).backing 0 e)

-- ---- the ranges in the first slots
-- their chains are those of them as a slice
pub chains_in_use : (rs : List PageRange) (n : ℕ) (c : Chains) → n ≤ length rs → RangeChains rs n c → RangeChains (take n rs) (length (take n rs)) c
chains_in_use rs n c h C =
    let same : (k : ℕ) → k < n → chain_by rs k ≡ chain_by (take n rs) k =
    λ k l. ap (λ (r : PageRange). number_of r.backing % 1024) (sym (get_or-take n rs k zero_range l)) in
    rw (length-take-le n rs h) (chained_alike (chain_by rs) (chain_by (take n rs)) n c.heads c.next same C)

-- ---- a result whose error is another
-- what was said of its value is said of the same value
pub kept_ok : {T D E : Type 0} (s : Result T E) (r : Result T D) (x : T) (Q : E → Type 0) (P : T → Type 0) → MatchResult s (λ y. r ≡ Ok y) Q → is_ok r ≡ is_ok s → r ≡ Ok x → IfOk s P → P x
kept_ok (Ok y) r x Q P m v e p = let k : Ok y ≡ Ok x = sym m ∙ e in let q : y ≡ x = cc in rw q at p
kept_ok (Err z) r x Q P m v e p = absurd (true≢false (sym (ap is_ok e) ∙ v))
