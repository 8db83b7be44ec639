-- The places of free frames, and of frames beyond the count, stay 0, 0 through every edit of the places.
use Rattle.std.specs.Prelude.{◌≡◌, ◌⊎◌, List, ◌++◌, map, ℕ, ◌+◌, ◌-◌, ◌≤◌, ◌<◌, length, take, drop, set}
use Rattle.std.proofs.Math.Path.{ap}
use Rattle.std.proofs.Common.{sym, ◌∙◌, arith, get_or-append-add, get_or-drop, length-take-le}
use Rattle.std.proofs.Math.Logic.{inl, inr, ⊎_elim}
use Rattle.std.proofs.lemmas.List.{length-map}
use Rattle.std.proofs.Math.Seq.{get_or-set_same, get_or-set_other}
use Rattle.places.specs.declared.Place.{Place}
use Rattle.lists.specs.Test.{by-eq, by-lt, by-test}
use Rattle.ranges.specs.Range.{Range}
use Rattle.ranges.specs.Table.{named}
use Rattle.places.specs.Places.{place, nowhere, place_at, stands_at, emptied_at}
use Rattle.store.specs.Trim.{kept_place}
use Rattle.store.specs.Edits.{trimmed, vacated, mapped_at}

-- "unused slots are zero": of n frames, those that are free, and those beyond, stand nowhere (the store's `rest_places`)
unfoldable pub Idle : ℕ → List Place → Type 0
Idle n ps = (f : ℕ) → f < 1024 → (n ≤ f) ⊎ ((place_at ps f).backing ≡ 0) → place_at ps f ≡ nowhere

-- the places beyond the first n stay
pub mapped_beyond : (h : Place → Place) (n : ℕ) (ps : List Place) (f : ℕ) → n ≤ length ps → n ≤ f → place_at (map h (take n ps) ++ drop n ps) f ≡ place_at ps f
mapped_beyond h n ps f m l =
    let q : length (map h (take n ps)) ≡ n = length-map (take n ps) h ∙ length-take-le n ps m in
    let z : f ≡ length (map h (take n ps)) + (f - n) = omega arith in
    let y : n + (f - n) ≡ f = omega arith in
    ap (λ k. place_at (map h (take n ps) ++ drop n ps) k) z
    ∙ get_or-append-add (map h (take n ps)) (drop n ps) (f - n) nowhere
    ∙ get_or-drop n ps (f - n) nowhere
    ∙ ap (λ k. place_at ps k) y

-- places that stay or become nowhere
idle_mapped : (h : Place → Place) (n : ℕ) (ps : List Place) → n ≤ length ps → ((p : Place) → (h p ≡ p) ⊎ (h p ≡ nowhere)) → Idle n ps → Idle n (map h (take n ps) ++ drop n ps)
unfolding Idle
idle_mapped h n ps m k I f l c =
    by-lt f n
    (λ b. let e = mapped_at h n ps f m b in
    ⊎_elim
    (λ (s : h (place_at ps f) ≡ place_at ps f). let q = e ∙ s in q ∙ I f l (⊎_elim (λ (a : n ≤ f). inl a) (λ a. inr (ap (λ p. p.backing) (sym q) ∙ a)) c))
    (λ (s : h (place_at ps f) ≡ nowhere). e ∙ s)
    (k (place_at ps f)))
    (λ b. mapped_beyond h n ps f m b ∙ I f l (inl b))

module _ (n : ℕ) (ps : List Place) (m : n ≤ length ps) (I : Idle n ps) where
  pub idle_trimmed : (rs : List Range) → Idle n (trimmed n rs ps)
  idle_trimmed rs = idle_mapped (kept_place rs) n ps m (λ p. by-test (named p.backing p.index rs) (λ t. inl (rw t)) (λ t. inr (rw t))) I

  pub idle_vacated : (b i : ℕ) → Idle n (vacated n b i ps)
  idle_vacated b i = idle_mapped (emptied_at b i) n ps m (λ p. by-test (stands_at b i p) (λ t. inr (rw t)) (λ t. inl (rw t))) I

  pub idle_placed : (f b i : ℕ) → f < n → 0 < b → Idle n (set ps f (place b i))
  unfolding Idle
  idle_placed f b i l h g k c =
      by-eq g f
      (λ e. absurd (let q : place_at (set ps f (place b i)) g ≡ place b i = ap (λ j. place_at (set ps f (place b i)) j) e ∙ get_or-set_same ps f (place b i) nowhere (omega arith) in
      let z : (place_at (set ps f (place b i)) g).backing ≡ b = ap (λ p. p.backing) q in
      ⊎_elim (λ (a : n ≤ g). omega arith) (λ (a : (place_at (set ps f (place b i)) g).backing ≡ 0). omega arith) c))
      (λ ne. let q = get_or-set_other ps f g (place b i) nowhere ne in
      q ∙ I g k (⊎_elim (λ (a : n ≤ g). inl a) (λ a. inr (ap (λ p. p.backing) (sym q) ∙ a)) c))
