-- "A `Single` range has .. its frame at index 0": frames at one place are in one chain, so that the frame is looked for in the chain of its place only.
use Rattle.std.specs.Prelude.{◌≡◌, refl, Bool, true, false, not, ◌&&◌, List, ℕ, zero, suc, ◌≤◌, ◌<◌, ltb, get_or, length, take}
use Rattle.std.proofs.Common.{sym, ◌∙◌, arith, eq-eqb, lt-ltb, ne_eqb}
use Rattle.std.proofs.lemmas.Bool.{false≢true}
use Rattle.table.specs.declared.PageRange.{PageRange}
use Rattle.table.specs.declared.BackingPages.{BackingPages}
use Rattle.table.specs.declared.BackingPages.TheVariants.{Nothing, Single, Many}
use Rattle.places.specs.declared.Place.{Place}
use Rattle.lists.specs.Test.{by-eq, by-test}
use Rattle.lists.specs.Every.{all_below, every}
use Rattle.table.specs.Table.{zero_range}
use Rattle.places.specs.Places.{place_at, stands_at}
use Rattle.chains.specs.declared.Chains.{Chains}
use Rattle.chains.specs.Chains.{in_chain}
use Rattle.chains.specs.Walk.{Walk, walk_all}
use Rattle.charts.specs.Charts.{chain_at, chain_to, FrameChains}
use Rattle.store.specs.Sound.{is_at?, stands?}
use Rattle.range_tests.specs.Agree.{back_at, every_below}
use Rattle.place_tests.specs.Alone.{chain_used}

-- of a backing of the table: n frames stand at the places ps
abbrev pub seated? : ℕ → List Place → BackingPages → Bool
seated? n ps Nothing = true
seated? n ps (Single b) = stands? ps n b 0
seated? n ps (Many b) = true

-- of range i
abbrev pub seated_at : List PageRange → List Place → ℕ → ℕ → Bool
seated_at l ps n i = seated? n ps (back_at l i)

-- ---- frame f does not stand at index 0 of backing b
abbrev pub missing : List Place → ℕ → ℕ → Bool
missing ps b f = not (is_at? ps b 0 f)

pub stands_told : (ps : List Place) (n b i : ℕ) → stands? ps n b i ≡ not (all_below (λ f. not (is_at? ps b i f)) n)
unfolding stands? all_below
stands_told ps zero b i = refl
stands_told ps (suc n) b i = by-test (is_at? ps b i n) (λ e. rw e) (λ e. rw e (stands_told ps n b i))

module _ (ps : List Place) (b : ℕ) (u : 0 < b) where
  pub missing_stands : (f : ℕ) → missing ps b f ≡ not (stands_at b 0 (place_at ps f))
  missing_stands f =
      by-eq (place_at ps f).backing b
      (λ e. let l : 0 < (place_at ps f).backing = omega arith in rw (lt-ltb 0 (place_at ps f).backing l))
      (λ e. rw (ne_eqb (place_at ps f).backing b e) (none (ltb 0 (place_at ps f).backing)))
    where
      none : (a : Bool) → not false ≡ not (a && false)
      none true = refl
      none false = refl

  -- a frame outside of the chain of that place stands elsewhere
  pub walk_stands : (n : ℕ) (c : Chains) → FrameChains ps n c → Walk c.next (missing ps b) n (get_or c.heads (chain_to b 0) 0)
  walk_stands n c C = walk_all (chain_at ps) c.heads c.next n C (missing ps b) (chain_to b 0) (omega arith) other
    where
      other : (j : ℕ) → j < n → in_chain (chain_at ps) (chain_to b 0) j ≡ false → missing ps b j ≡ true
      other j h o =
          by-eq (place_at ps j).backing b
          (λ e. by-eq (place_at ps j).index 0
          (λ i.
          let q : chain_at ps j ≡ chain_to b 0 = chain_used (place_at ps j) (λ z. omega arith) ∙ rw (e, i) in
          absurd (false≢true (sym o ∙ eq-eqb (chain_at ps j) (chain_to b 0) q)))
          (λ i. rw (eq-eqb (place_at ps j).backing b e, ne_eqb (place_at ps j).index 0 i)))
          (λ e. rw (ne_eqb (place_at ps j).backing b e))

pub seated_told : (l : List PageRange) (n : ℕ) → n ≤ length l → (ps : List Place) (k : ℕ) → all_below (seated_at l ps k) n ≡ every (λ r. seated? k ps r.backing) (take n l)
seated_told l n m ps k = every_below (λ r. seated? k ps r.backing) l zero_range (seated_at l ps k) n m (λ i h. refl)
