-- Trimming the vector table.
use Rattle.std.specs.Prelude.{List}
use Rattle.lists.specs.Test.{pick}
use Rattle.ranges.specs.Range.{Range}
use Rattle.ranges.specs.Table.{named}
use Rattle.places.specs.declared.Place.{Place}
use Rattle.places.specs.Places.{nowhere}

-- "Entries in no holder's window go": a place in the window of some range stays, any other becomes nowhere
abbrev pub kept_place : List Range → Place → Place
kept_place rs p = pick (named p.backing p.index rs) p nowhere
