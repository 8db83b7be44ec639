-- The store that a call is closed into.
use Rattle.std.specs.Prelude.{◌≡◌, refl, List, ℕ}
use Rattle.store.specs.declared.Store.{Store}
use Rattle.places.specs.Places.{FreeMap}
use Rattle.store.specs.With.{with_free}

-- store t is s but for its free map, which is that of the places
abbrev pub Closed : Store → Store → Type 0
Closed s t = (t ≡ with_free t.free s) × FreeMap s.frames s.places t.free

-- a store with a free map made anew is such a store
pub closed_parts : (s : Store) (d : List ℕ) → FreeMap s.frames s.places d → Closed s (with_free d s)
closed_parts s d F = (refl, F)
