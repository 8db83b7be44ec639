-- A PART'S TURN of a write, and of a copy: the bytes of the next page are written, so those are done that come before the next part.
use Rattle.std.specs.Prelude.{◌≡◌, List, ℕ, ◌+◌, ◌-◌, ◌/◌, ◌%◌, ◌≤◌, ◌<◌, drop, length, take}
use Rattle.std.proofs.Common.{arith}
use Rattle.store.specs.declared.Store.{Store}
use Rattle.page_parts.specs.declared.Part.{Part}
use Rattle.page_parts.specs.declared.Parts.{Parts}
use Rattle.book.specs.Page.{over}
use Rattle.book.specs.Bytes.{reading}
use Rattle.store.specs.Spare.{work_of}
use Rattle.laws.specs.Turn.{in_page}
use Rattle.pages.specs.Inside.{Wrote}
use Rattle.writes.specs.Written.{Room}
use Rattle.writes.specs.Going.{Going, going_turn}
use Rattle.moves.specs.Copying.{Copying, copying_turn}
use Rattle.page_parts.specs.Parts.{IsNext}

module _ (s : Store) (x : List ℕ) (o off n : ℕ) (parts : Parts) (part : Part) (N : IsNext parts part) (a : parts.offset ≡ off) (b : parts.n ≡ n)
    (done : ℕ) (e : done ≡ parts.done + part.n) (t : Store) (y : List ℕ) (t' : Store) (y' : List ℕ) where
  left : parts.done < n
  left = let l = N.left in omega (arith, b)

  count : part.n ≡ in_page 4096 (off + parts.done) (n - parts.done)
  count = rw (← a, ← b) N.n

  -- the page and the place of the part
  at_part : (g : ℕ → ℕ → List ℕ → List ℕ) → Wrote t y o part.page.0 (g part.place part.done) t' y' → Wrote t y o ((off + parts.done) / 4096) (g ((off + parts.done) % 4096) parts.done) t' y'
  at_part g W = rw (← a, ← N.page, ← N.place, ← N.done) W

  -- of a write of d
  pub part_going : (d : List ℕ) → n ≡ length d → off + n ≤ 1073741824 → Going s x o off d parts.done t y
      → Wrote t y o part.page.0 (over part.place (take part.n (drop part.done d))) t' y' → Going s x o off d done t' y'
  part_going d l ends G W =
      rw e (going_turn s x o off d parts.done t y G (omega (arith, left, l)) (omega (arith, l)) part.n (rw (← l) count) t' y' (at_part (λ k i. over k (take part.n (drop i d))) W))

  -- of a copy from object `source`
  pub part_copying : (source from : ℕ) → Room s x o off n → (source ≡ o → ⊥) → from + n ≤ 1073741824 → Copying s x source from o off n parts.done t y
      → Wrote t y o part.page.0 (over part.place (reading source (from + part.done) part.n (work_of t y))) t' y' → Copying s x source from o off n done t' y'
  part_copying source from R ne ends C W =
      rw e (copying_turn s x source from o off n R parts.done t y C left ne ends part.n count t' y' (at_part (λ k i. over k (reading source (from + i) part.n (work_of t y))) W))
