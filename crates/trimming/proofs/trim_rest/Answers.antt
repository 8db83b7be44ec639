use Rattle.std.proofs.Common.{◌∙◌, ap}
use Rattle.lists.specs.Test.{pick}
use Rattle.places.specs.Places.{nowhere}
use Rattle.trimming.specs.Trimming.{kept, kept_covered, map_same}
use Rattle.trimming.proofs.trim_rest.Goals as goal

pub returns : goal.returns
returns c =
    c.trim_covered.ensures ∙ map_same (kept c.args.ranges.now) (kept_covered c.fill.new.self) (λ p. ap (λ t. pick t p nowhere) (c.fill.ensures.exact p)) c.args.places.now
