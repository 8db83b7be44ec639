-- `in_place::move_part`: as `read_part`, within the pool.
use Rattle.std.proofs.Common.{◌≡◌, Some, None, sym, ◌∙◌}
use Rattle.look.specs.Look.{located}
use Rattle.reads.specs.Reading.{read_absent, read_present}
use Rattle.in_place.proofs.move_part.Goals as goal

pub returns-in-None : goal.returns-in-None
returns-in-None g c =
    let a = c.args in
    let e : located a.s.now a.g ≡ None = sym c.locate_by-near.ensures.found ∙ c.in-None.is in
    read_absent a.s.now a.pool.now a.g a.pool.now _ a.at a.k a.n c.requires.n_bound.0 e c.fill.ensures

pub returns-in-Some : goal.returns-in-Some
returns-in-Some g c =
    let a = c.args in
    let l = c.in-Some.l in
    let e : located a.s.now a.g ≡ Some l = sym c.locate_by-near.ensures.found ∙ c.in-Some.is in
    read_present a.s.now a.pool.now a.g a.pool.now _ a.at a.k a.n c.requires.n_bound.0 l e c.move_within.ensures
