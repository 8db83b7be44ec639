use Rattle.place_tests.specs.Covered.{window_inside}
use Rattle.place_tests.proofs.finding.Seeking.note.Goals as goal

pub invariant_of-self : goal.invariant_of-self
invariant_of-self c = record { inside = window_inside c.args.self.now.windows.ranges.now c.args.i c.in-Some.window c.in-Some.ensures.2 }
