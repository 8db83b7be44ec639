-- The chains of a store's frames, and the search for a frame along the chain of its place.
use Rattle.std.specs.Prelude.{◌≡◌, refl, Bool, true, false, not, ◌&&◌, List, [], ◌∷◌, ℕ, ◌≤◌, ◌<◌, eqb, ltb, get_or, length, min, take, Option, Some, None}
use Rattle.std.proofs.Common.{sym, ap, ◌∙◌, arith, get_or-take, eq-eqb, ne_eqb, eqb-true, ltb-true}
use Rattle.std.proofs.lemmas.Bool.{false≢true}
use Rattle.std.proofs.lemmas.List.{length-take}
use Rattle.std.proofs.Props.{props}
use Rattle.ranges.specs.Range.{Ranged, Rising, upto}
use Rattle.places.specs.declared.Place.{Place}
use Rattle.store.specs.declared.Store.{Store}
use Rattle.chains.specs.declared.Chains.{Chains}
use Rattle.charts.specs.declared.Charts.{Charts}
use Rattle.lists.specs.Test.{and_left, and_right, by-lt, by-test}
use Rattle.lists.specs.Every.{all_below, below_at}
use Rattle.places.specs.Places.{frame_at, nowhere, place_at, stands_at}
use Rattle.places.specs.Found.{FirstAt, frame_found, frame_none}
use Rattle.chains.specs.Chains.{in_chain}
use Rattle.chains.specs.Walk.{Walk, walk_all}
use Rattle.charts.specs.Charts.{FrameChains, chain_at, chain_of, chain_to}
use Rattle.table.specs.Table.{Table}
use Rattle.store.specs.Sound.{Sized, Sound}
use Rattle.store.specs.Good.{sound_table}

-- "Each frame is free or stands in exactly one backing at one index, no two at the same."
pub record Lone (s : Store) : Type 0 where
  pub alone : (f g : ℕ) → g < f → f < s.frames → ((place_at s.places f).backing ≡ 0 → ⊥)
      → (place_at s.places g).backing ≡ (place_at s.places f).backing → (place_at s.places g).index ≡ (place_at s.places f).index → ⊥

-- what pages are looked up by: a table in order, a place for each frame, the chains of the frames, no two frames at one place
pub record Charted (s : Store) (c : Charts) : Type 0 where
  pub framed : FrameChains s.places s.frames c.frames
  pub table : Table s.ranges s.count
  pub few : s.frames ≤ 1024
  pub places : s.frames ≤ length s.places
  pub lone : Lone s

-- that a table is in order has one proof at most, and so has all of that: ghost fields ask it
rising_prop : {B : Type 0} (low : ℕ) (rs : List (Ranged B)) → IsProp (Rising low rs)
unfolding Rising
rising_prop low [] = hlevel props
rising_prop low (r ∷ rs) = hlevel (props, rising_prop (upto r) rs)

pub charted_prop : (s : Store) (c : Charts) → IsProp (Charted s c)
charted_prop s c = hlevel (props, rising_prop)

-- what calls of a finder answer: the frame that stands at this backing and index
abbrev pub Finds : Store → (ℕ → ℕ → Option ℕ → Type 0) → Type 0
Finds s answers = (b i : ℕ) (frame : Option ℕ) → b < 4294967296 → i < 4294967296 → answers b i frame → frame ≡ frame_at b i 0 (take s.frames s.places)

pub sound_charted : (s : Store) (c : Charts) → Sized s → Sound s → FrameChains s.places s.frames c.frames → Charted s c
sound_charted s c Z S F = record { framed = F; table = sound_table s Z S; few = S.few_frames; places = omega (arith, Z.places, S.few_frames); lone = record { alone = S.alone } }

-- frame f does not stand at index i of backing b
abbrev pub lacks : List Place → ℕ → ℕ → ℕ → Bool
lacks ps b i f = not (stands_at b i (place_at ps f))

-- ---- a place that stands at index i of backing b
module _ (b i : ℕ) (p : Place) (t : stands_at b i p ≡ true) where
  rest : (eqb p.backing b && eqb p.index i) ≡ true
  rest = and_right (ltb 0 p.backing) (eqb p.backing b && eqb p.index i) t

  held : 0 < p.backing
  held = ltb-true 0 p.backing (and_left (ltb 0 p.backing) (eqb p.backing b && eqb p.index i) t)

  backing : p.backing ≡ b
  backing = eqb-true p.backing b (and_left (eqb p.backing b) (eqb p.index i) rest)

  index : p.index ≡ i
  index = eqb-true p.index i (and_right (eqb p.backing b) (eqb p.index i) rest)

  pub there_positive : 0 < b
  there_positive = omega (arith, held, backing)

  -- its chain
  chain_there : chain_of p ≡ chain_to b i
  chain_there = rw (ne_eqb p.backing 0 (λ z. omega (arith, held)), backing, index)

-- ---- what a search among the first n places says
module _ (ps : List Place) (n b i : ℕ) where
  long : length (take n ps) ≡ min n (length ps)
  long = length-take n ps

  at : (f : ℕ) → f < n → place_at (take n ps) f ≡ place_at ps f
  at f h = get_or-take n ps f nowhere h

  -- none stands there
  pub found_none : true ≡ all_below (lacks ps b i) n → None ≡ frame_at b i 0 (take n ps)
  found_none e = go (frame_at b i 0 (take n ps)) refl
    where
      there : (f : ℕ) → FirstAt b i 0 (take n ps) f → ⊥
      there f F =
          let h : F.at < n = omega (arith, F.inside, long) in
          let t : stands_at b i (place_at ps F.at) ≡ true = ap (stands_at b i) (sym (at F.at h)) ∙ F.stands in
          false≢true (sym (ap not t) ∙ below_at (lacks ps b i) n (sym e) F.at h)

      go : (q : Option ℕ) → frame_at b i 0 (take n ps) ≡ q → None ≡ q
      go None h = refl
      go (Some f) h = absurd (there f (frame_found b i 0 (take n ps) f h))

  -- a frame that stands there, no two being at one place
  pub found_there : n ≤ length ps → ((f g : ℕ) → g < f → f < n → ((place_at ps f).backing ≡ 0 → ⊥) → (place_at ps g).backing ≡ (place_at ps f).backing → (place_at ps g).index ≡ (place_at ps f).index → ⊥)
      → (k : ℕ) → k < n → stands_at b i (place_at ps k) ≡ true → Some k ≡ frame_at b i 0 (take n ps)
  found_there m alone k l t = go (frame_at b i 0 (take n ps)) refl
    where
      -- two frames there, one above the other
      never : (f g : ℕ) → g < f → f < n → stands_at b i (place_at ps f) ≡ true → stands_at b i (place_at ps g) ≡ true → ⊥
      never f g h u s r =
          alone f g h u
          (λ z. omega (arith, held b i (place_at ps f) s))
          (backing b i (place_at ps g) r ∙ sym (backing b i (place_at ps f) s))
          (index b i (place_at ps g) r ∙ sym (index b i (place_at ps f) s))

      same : (f : ℕ) → f < n → stands_at b i (place_at ps f) ≡ true → k ≡ f
      same f h s = by-lt k f (λ u. absurd (never f k u h s t)) (λ u. by-lt f k (λ v. absurd (never k f v l t s)) (λ v. omega arith))

      first : (f : ℕ) → FirstAt b i 0 (take n ps) f → k ≡ f
      first f F =
          let h : F.at < n = omega (arith, F.inside, long) in
          let e : F.at ≡ f = omega (arith, F.number) in
          same F.at h (ap (stands_at b i) (sym (at F.at h)) ∙ F.stands) ∙ e

      go : (q : Option ℕ) → frame_at b i 0 (take n ps) ≡ q → Some k ≡ q
      go None h =
          absurd (false≢true (sym (frame_none b i 0 (take n ps) h k (omega (arith, long))) ∙ ap (stands_at b i) (at k l) ∙ t))
      go (Some f) h = ap Some (first f (frame_found b i 0 (take n ps) f h))

-- ---- the walk along the chain of a place: a frame outside of it stands elsewhere
pub walk_frames : (ps : List Place) (n : ℕ) (c : Chains) (b i : ℕ) → FrameChains ps n c → Walk c.next (lacks ps b i) n (get_or c.heads (chain_to b i) 0)
walk_frames ps n c b i C = walk_all (chain_at ps) c.heads c.next n C (lacks ps b i) (chain_to b i) (omega arith) other
  where
    other : (j : ℕ) → j < n → in_chain (chain_at ps) (chain_to b i) j ≡ false → lacks ps b i j ≡ true
    other j u o =
        by-test (stands_at b i (place_at ps j))
        (λ t. absurd (false≢true (sym o ∙ eq-eqb (chain_at ps j) (chain_to b i) (chain_there b i (place_at ps j) t))))
        (λ t. ap not t)
