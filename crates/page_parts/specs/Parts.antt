-- One part after the other of a span of bytes.
use Rattle.std.specs.Prelude.{◌≡◌, ◌+◌, ◌-◌, ◌/◌, ◌%◌, ◌≤◌, ◌<◌, min, Option, MatchOption}
use Rattle.page_parts.specs.declared.Part.{Part}
use Rattle.page_parts.specs.declared.Parts.{Parts}

-- the bytes of the next page, as many as the span has of them
pub record IsNext (s : Parts) (part : Part) : Type 0 where
  pub left : s.done < s.n
  pub page : part.page.0 ≡ (s.offset + s.done) / 4096
  pub place : part.place ≡ (s.offset + s.done) % 4096
  pub done : part.done ≡ s.done
  pub n : part.n ≡ min (s.n - s.done) (4096 - (s.offset + s.done) % 4096)

-- a call of `next` gives the bytes of the next page, and they are done; or none are left
abbrev pub NextPart : Parts → Option Part → Parts → Type 0
NextPart s result t = MatchOption result ((s.n ≤ s.done) × (t ≡ s)) (λ part. IsNext s part × (t.offset ≡ s.offset) × (t.n ≡ s.n) × (t.done ≡ s.done + part.n))
