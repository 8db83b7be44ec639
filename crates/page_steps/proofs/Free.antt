-- A frame is found where one is free.
use Rattle.std.specs.Prelude.{◌≡◌, List, [], ℕ, ◌<◌, length, None}
use Rattle.std.proofs.Common.{ap, sym, arith}
use Rattle.frames.specs.Free.{highest_below, spare_of}
use Rattle.frames.specs.Spare.{highest_none}

pub some_free : (ws : List ℕ) → 0 < length (spare_of ws 1024) → None ≡ highest_below ws 1024 → ⊥
some_free ws h e = let z : spare_of ws 1024 ≡ [] = highest_none ws 1024 (sym e) in omega (arith, ap (λ (l : List ℕ). length l) z)
