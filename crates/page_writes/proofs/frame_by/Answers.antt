-- `frame_by` meets its contract: a frame that stands at the place is the only one.
use Rattle.std.specs.Prelude.{IfSome, Option, Some, None, length, min, take}
use Rattle.std.proofs.Common.{◌≡◌, true, ℕ, ◌<◌, ◌∙◌, ap, sym, arith, get_or-take, le_refl, take_all, rules, tests}
use Rattle.std.proofs.lemmas.List.{length-take}
use Rattle.lists.specs.Test.{by-lt}
use Rattle.store.specs.declared.Store.{Store}
use Rattle.lookup.specs.Charted.{Lone, found_there}
use Rattle.places.specs.Places.{frame_at, nowhere, place_at, stands_at}
use Rattle.page_writes.proofs.frame_by.Goals as goal

-- as many frames as there are places for, or all places
only : (s : Store) → Lone s → (b i : ℕ) (o : Option ℕ)
    → IfSome o (λ k. (k < length (take s.frames s.places)) × (stands_at b i (place_at (take s.frames s.places) k) ≡ true)) → IfSome o (λ k. Some k ≡ frame_at b i 0 (take s.frames s.places))
only s L b i None h = h
only s L b i (Some k) h =
    let l : length (take s.frames s.places) ≡ min s.frames (length s.places) = length-take s.frames s.places in
    let u : k < s.frames = omega (arith, h.0, l) in
    let t : stands_at b i (place_at s.places k) ≡ true = ap (stands_at b i) (sym (get_or-take s.frames s.places k nowhere u)) ∙ h.1 in
    by-lt (length s.places) s.frames
    (λ w. let e : take s.frames s.places ≡ s.places = take_all s.frames s.places (omega arith) in
    let f : take (length s.places) s.places ≡ s.places = take_all (length s.places) s.places (le_refl _) in
    found_there s.places (length s.places) b i (le_refl _) (λ f g d v. L.alone f g d (omega arith)) k (omega (arith, h.0, l)) t ∙ ap (frame_at b i 0) (f ∙ sym e))
    (λ w. found_there s.places s.frames b i w L.alone k u t)

pub returns : goal.returns
returns c =
    let s = c.args.s.now in
    let b = c.args.backing in
    let i = c.args.index in
    let there : IfSome c.find.result (λ k. (k < length c.frame_places-places.result.now) × (stands_at b i (place_at c.frame_places-places.result.now k) ≡ true)) = search (rules, tests) in
    let one : IfSome c.find.result (λ k. Some k ≡ frame_at b i 0 (take s.frames s.places)) = only s c.requires b i c.find.result (rw c.frame_places-places.ensures.places at there) in
    search rules
