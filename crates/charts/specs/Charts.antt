-- Which entries stand in one chain.
use Rattle.std.specs.Prelude.{◌≡◌, List, ℕ, ◌+◌, ◌*◌, ◌/◌, ◌%◌, eqb, get_or, replicate}
use Rattle.table.specs.declared.PageRange.{PageRange}
use Rattle.places.specs.declared.Place.{Place}
use Rattle.chains.specs.declared.Chains.{Chains}
use Rattle.charts.specs.declared.Charts.{Charts}
use Rattle.lists.specs.Test.{pick}
use Rattle.chains.specs.Chains.{Chained}
use Rattle.table.specs.Table.{number_of, zero_range}
use Rattle.places.specs.Places.{place_at}

-- chains without an entry
abbrev pub Empty : Chains → Type 0
Empty c = (c.heads ≡ replicate 1024 0) × (c.next ≡ replicate 1024 0)

-- charts without an entry
abbrev pub EmptyCharts : Charts → Type 0
EmptyCharts c = Empty c.ranges × Empty c.frames

-- the chain of range i: that of its backing's number
abbrev pub backing_at : List PageRange → ℕ → ℕ
backing_at rs i = number_of (get_or rs i zero_range).backing

abbrev pub chain_by : List PageRange → ℕ → ℕ
chain_by rs i = backing_at rs i % 1024

-- the chain of the frames at index i of backing b, and of others. Pages of a range may lie up to 16 apart: a thousand indices so are in a thousand chains
abbrev pub chain_to : ℕ → ℕ → ℕ
chain_to b i = (b * 633 + (i + i / 1024)) % 1024

-- the chain of a frame at place p: a free frame, which is compared with none, is in no chain
abbrev pub chain_of : Place → ℕ
chain_of p = pick (eqb p.backing 0) 1024 (chain_to p.backing p.index)

-- the chain of frame f
abbrev pub chain_at : List Place → ℕ → ℕ
chain_at ps f = chain_of (place_at ps f)

-- the chains of the first n ranges, by their backings
abbrev pub RangeChains : List PageRange → ℕ → Chains → Type 0
RangeChains rs n c = Chained (chain_by rs) n c.heads c.next

-- the chains of the first n frames, by their places
abbrev pub FrameChains : List Place → ℕ → Chains → Type 0
FrameChains ps n c = Chained (chain_at ps) n c.heads c.next
