-- The answer to a page that is added.
use Rattle.std.specs.Prelude.{ℕ, Result, Ok, Err}
use Rattle.store.specs.declared.Store.{Store}
use Rattle.refusals.specs.declared.Refusal.{Refusal}
use Rattle.access.specs.declared.Added.{Added}

-- the store that the call leaves: "A refusal hands back the same store"
abbrev pub store_in : Store → Result Added Refusal → Store
store_in s (Ok a) = a.store
store_in s (Err e) = s

-- the frame of the added page
abbrev pub frame_in : Result Added Refusal → ℕ
frame_in (Ok a) = a.frame
frame_in (Err e) = 0
