-- Trimming: one turn of each loop over the places, and trimming that is left and taken up again.
use Rattle.std.specs.Prelude.{◌≡◌, refl, Bool, true, false, ◌&&◌, List, [], ◌∷◌, ◌++◌, ℕ, zero, suc, ◌+◌, ◌-◌, ◌≤◌, ◌<◌, Option, Some, None, is_some, eqb, drop, get_or, length, map, set, take}
use Rattle.std.proofs.Common.{sym, ap, ap₂, ◌∙◌, append-nil, arith, drop_at, drop_of_length-le, eqb-true, le_of_suc-le-suc, le_refl, length-drop, length-take-le, not-suc-le-zero, take-append-drop, take_all, take_at}
use Rattle.std.proofs.lemmas.List.{length-map, map-append}
use Rattle.places.specs.declared.Place.{Place}
use Rattle.table.specs.declared.PageRange.{PageRange}
use Rattle.window_cover.specs.declared.Cover.{Cover}
use Rattle.window_cover.specs.declared.Interval.{Interval}
use Rattle.lists.specs.Mapped.{mapped, mapped_none, mapped_rest, mapped_turn}
use Rattle.lists.specs.Test.{pick, and_left, and_right, by-test}
use Rattle.ranges.specs.Range.{Range}
use Rattle.ranges.specs.Table.{named}
use Rattle.table.specs.Table.{ranges_of}
use Rattle.places.specs.Places.{nowhere}
use Rattle.store.specs.declared.Store.{Store}
use Rattle.store.specs.Abs.{used}
use Rattle.store.specs.With.{with_places}
use Rattle.store.specs.Trim.{kept_place}
use Rattle.window_search.specs.Windows.{met_named, Met}
use Rattle.window_cover.specs.Intervals.{covered, shown_covered, Shown}

-- what the places become, by the windows of a table's ranges
abbrev pub kept : List PageRange → Place → Place
kept rs = kept_place (ranges_of rs)

-- a free frame's place
is_free : (p : Place) → (eqb p.backing 0 && eqb p.index 0) ≡ true → p ≡ nowhere
is_free p e =
    let b = eqb-true p.backing 0 (and_left (eqb p.backing 0) (eqb p.index 0) e) in
    let i = eqb-true p.index 0 (and_right (eqb p.backing 0) (eqb p.index 0) e) in
    λ j. record { backing = b j; index = i j }

-- of a cover of windows
abbrev pub kept_covered : Cover → Place → Place
kept_covered v p = pick (covered v p) p nowhere

-- ---- one turn of a loop that puts g of each place in its place: of the places ps, the first f are done in qs
module _ (g : Place → Place) (ps qs : List Place) (f : ℕ) (h : f < length ps) (e : qs ≡ mapped g ps f) where
  here : get_or qs f nowhere ≡ get_or ps f nowhere
  here = mapped_rest g ps qs f nowhere h e

  pub turn : (q : Place) → q ≡ g (get_or qs f nowhere) → set qs f q ≡ mapped g ps (f + 1)
  turn q z = mapped_turn g ps qs f q nowhere h (z ∙ ap g here) e

-- a free frame's place stays, by whatever test
pick_free : (t : Bool) (p : Place) → p ≡ nowhere → p ≡ pick t p nowhere
pick_free true p e = refl
pick_free false p e = e

module _ (rs : List PageRange) (p : Place) where
  pub kept_free : (eqb p.backing 0 && eqb p.index 0) ≡ true → p ≡ kept rs p
  kept_free e = pick_free (named p.backing p.index (ranges_of rs)) p (is_free p e)

  -- a window is met: the place stays
  pub kept_met : (i : ℕ) → Met rs p (Some i) → p ≡ kept rs p
  kept_met i M = rw (met_named rs p (Some i) M)

  -- none is met: the place goes
  pub gone_met : Met rs p None → nowhere ≡ kept rs p
  gone_met M = rw M

module _ (v : Cover) (p : Place) where
  pub covered_free : (eqb p.backing 0 && eqb p.index 0) ≡ true → p ≡ kept_covered v p
  covered_free e = pick_free (covered v p) p (is_free p e)

  -- an interval of windows has it, or none has it
  pub covered_shown : (o : Option Interval) → Shown v p o → pick (is_some o) p nowhere ≡ kept_covered v p
  covered_shown o S = rw (shown_covered v p o S)

-- all places are done
pub mapped_all : (g : Place → Place) (ps : List Place) (f : ℕ) → length ps ≤ f → mapped g ps f ≡ map g ps
unfolding mapped
mapped_all g ps f h = ap₂ (λ a b. map g a ++ b) (take_all f ps h) (drop_of_length-le ps h) ∙ append-nil (map g ps)

-- the places from f on are done by another function that does the same
module _ (g k : Place → Place) (same : (p : Place) → k p ≡ g p) where
  pub map_same : (l : List Place) → map k l ≡ map g l
  map_same [] = refl
  map_same (p ∷ l) = ap₂ (λ q r. q ∷ r) (same p) (map_same l)

  pub mapped_rest_too : (l qs ws : List Place) (f : ℕ) → f ≤ length l → qs ≡ mapped g l f → ws ≡ map k (take (length qs - f) (drop f qs))
      → take f qs ++ (ws ++ drop (length qs - f) (drop f qs)) ≡ map g l
  unfolding mapped
  mapped_rest_too l qs ws f h e u =
      let n : length (map g (take f l)) ≡ f = length-map (take f l) g ∙ length-take-le f l h in
      let a : take f qs ≡ map g (take f l) = ap (take f) e ∙ take_at (map g (take f l)) (drop f l) f n in
      let b : drop f qs ≡ drop f l = ap (drop f) e ∙ drop_at (map g (take f l)) (drop f l) f n in
      let m : length qs - f ≡ length (drop f qs) = sym (length-drop f qs) in
      let c : take (length qs - f) (drop f qs) ≡ drop f l = take_all (length qs - f) (drop f qs) (omega arith) ∙ b in
      let d : drop (length qs - f) (drop f qs) ≡ [] = drop_of_length-le (drop f qs) (omega arith) in
      let w : ws ≡ map g (drop f l) = u ∙ ap (map k) c ∙ map_same (drop f l) in
      rw (a, d, w, append-nil (map g (drop f l))) (sym (map-append g (take f l) (drop f l)) ∙ ap (map g) (take-append-drop f l))

-- ---- trimming that goes on
-- T is the store S with the places of its first f frames trimmed
abbrev pub Trimmed : Store → ℕ → Store → Type 0
Trimmed S f T = T ≡ with_places (mapped (kept_place (ranges_of (used S))) S.places f) S

pub trimmed_none : (S : Store) → Trimmed S 0 S
trimmed_none S = ap (λ l. with_places l S) (mapped_none (kept_place (ranges_of (used S))) S.places)

-- what is trimmed stays as it is
kept_again : (rs : List Range) (p : Place) → kept_place rs (kept_place rs p) ≡ kept_place rs p
kept_again rs p =
    by-test (named p.backing p.index rs)
    (λ t. let e : kept_place rs p ≡ p = rw t in ap (kept_place rs) e)
    (λ t.
    let e : kept_place rs p ≡ nowhere = rw t in
    ap (kept_place rs) e ∙ sym (pick_free (named 0 0 rs) nowhere refl) ∙ sym e)

-- done again up to n, where the first f were done
mapped_again : (g : Place → Place) → ((p : Place) → g (g p) ≡ g p) → (l : List Place) (f n : ℕ) → f ≤ n → mapped g (mapped g l f) n ≡ mapped g l n
unfolding mapped
mapped_again g i [] zero n h = refl
mapped_again g i [] (suc f) n h = refl
mapped_again g i (p ∷ l) zero n h = refl
mapped_again g i (p ∷ l) (suc f) zero h = absurd (not-suc-le-zero h)
mapped_again g i (p ∷ l) (suc f) (suc n) h = λ j. i p j ∷ mapped_again g i l f n (le_of_suc-le-suc h) j

-- T is S with its first f places trimmed
module _ (S T : Store) (f : ℕ) (e : Trimmed S f T) where
  again : (n : ℕ) → f ≤ n → with_places (mapped (kept_place (ranges_of (used T))) T.places n) T ≡ with_places (mapped (kept_place (ranges_of (used S))) S.places n) S
  again n h =
      ap (λ t. with_places (mapped (kept_place (ranges_of (used t))) t.places n) t) e
      ∙ ap (λ l. with_places l S) (mapped_again (kept_place (ranges_of (used S))) (kept_again (ranges_of (used S))) S.places f n h)

  -- its first f places are trimmed
  pub trimmed_here : Trimmed T f T
  trimmed_here = e ∙ sym (again f (le_refl f))

  -- what is trimmed from there on is trimmed
  pub trimmed_on : (n : ℕ) (U : Store) → f ≤ n → Trimmed T n U → Trimmed S n U
  trimmed_on n U h u = u ∙ again n h
