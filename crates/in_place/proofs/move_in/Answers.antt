-- `in_place::move_in` meets its contract: the part in the first page, then the rest in the next one, are what is read of the source.
use Rattle.std.proofs.Common.{◌≡◌, ◌/◌, arith}
use Rattle.ranges.specs.Range.{line}
use Rattle.moves.specs.Moving.{both_moved}
use Rattle.in_place.proofs.move_in.Goals as goal

pub returns : goal.returns
returns g c =
    let a = c.args in
    let t = c.requires.table in
    let m = c.requires.m_bound in
    let h : c.line_of-g.result ≡ line a.source (a.from / 4096) = rw (← c.from_offset.ensures) c.line_of-g.ensures in
    both_moved a.s.now t.0 (omega (arith, t.1, c.lengths.ensures.places)) a.pool.now t.2 a.source a.from a.m a.at m.3 m.0 m.1 m.2 c.place.result c.in_page-a.result c.line_of-g.result
    c.place.ensures c.in_page-a.ensures h c.move_part-slot.new.pool c.move_part.new.pool c.move_part-slot.ensures c.move_part.ensures
