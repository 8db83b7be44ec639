use Rattle.std.proofs.Common.{◌≡◌, refl, length, arith}
use Rattle.window_cover.specs.Intervals.{covers_exact, covers_indexed, sized_next, sized_none, sized_skip}
use Rattle.window_cover.proofs.Cover.fill.Goals as goal
use Rattle.window_cover.proofs.Cover.fill.Goals.{in-Some, in_default}

pub loop-r-init : goal.loop-r-init
loop-r-init c = let B = c.requires.bare in sized_none c.args.ranges.now c.args.self.now B.0 B.1 B.2.0 B.2.1

pub loop-r-preserved : goal.loop-r-preserved
loop-r-preserved c =
    let l = c.loop-r in
    let C = l.invariant in
    elim c.match-of.branch [
      | in-Some w ↦
          let a = w.in-Some.ensures in
          rw w.self-is (sized_next c.args.ranges.now l.r-index l.self C w.enter.new.self w.in-Some.interval (λ p. rw a.2 refl) (w.enter.ensures C.covers.chain C.covers.filed))
      | in_default w ↦ rw w.self-is (sized_skip c.args.ranges.now l.r-index l.self C w.in_default.ensures)
    ]

pub returns-clause-exact : goal.returns-clause-exact
returns-clause-exact c =
    let e : c.loop-r.r-index ≡ length c.args.ranges.now = omega arith in
    covers_exact c.args.ranges.now c.loop-r.r-index c.loop-r.self c.loop-r.invariant.covers e

pub returns-clause-indexed : goal.returns-clause-indexed
returns-clause-indexed c = covers_indexed c.args.ranges.now c.loop-r.r-index c.loop-r.self c.loop-r.invariant.covers
