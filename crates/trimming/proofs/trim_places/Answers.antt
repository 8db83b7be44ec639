use Rattle.std.proofs.Common.{List, ap, refl, take, drop, ◌++◌}
use Rattle.places.specs.declared.Place.{Place}
use Rattle.trimming.specs.Trimming.{kept, mapped_rest_too}
use Rattle.trimming.proofs.trim_places.Goals as goal

pub returns-in-Err : goal.returns-in-Err
returns-in-Err c =
    let a = c.args in
    let H = c.in-Err.ensures in
    let P = a.places.now in
    ap (λ (l : List Place). l ++ drop a.frames P)
    (mapped_rest_too (kept a.ranges.now) (kept a.ranges.now) (λ p. refl)
    (take a.frames P) c.trim_along.new.places c.trim_rest.new.places c.in-Err.field-0.frame H.0 H.1 c.trim_rest.ensures)
