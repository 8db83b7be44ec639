use Rattle.std.proofs.Common.{sym}
use Rattle.lists.specs.Every.{below_fails, below_next, below_zero}
use Rattle.range_tests.specs.Agree.{used_at, used_low}
use Rattle.place_tests.specs.Seats.{seated_at}
use Rattle.place_tests.proofs.all_seated.Goals as goal

pub loop-r-init : goal.loop-r-init
loop-r-init c =
    let s = c.args.s.now in below_zero (seated_at s.ranges s.places s.frames)

pub seated-requires : goal.seated-requires
seated-requires c =
    let s = c.args.s.now in
    let i = c.loop-r.r-index in
    record { numbered = rw (used_at s.ranges s.count i c.loop-r-test.true) (c.requires.numbered i (used_low s.ranges s.count i c.loop-r-test.true)) }

pub returns-then-not-seated : goal.returns-then-not-seated
returns-then-not-seated c =
    let s = c.args.s.now in
    let i = c.loop-r.r-index in
    below_fails (seated_at s.ranges s.places s.frames) s.count i (used_low s.ranges s.count i c.loop-r-test.true)
    (sym (rw (used_at s.ranges s.count i c.loop-r-test.true) at c.if-not-seated.ensures))

pub loop-r-preserved : goal.loop-r-preserved
loop-r-preserved c =
    let s = c.args.s.now in
    let i = c.loop-r.r-index in
    below_next (seated_at s.ranges s.places s.frames) i c.loop-r.invariant (sym (rw (used_at s.ranges s.count i c.loop-r-test.true) at c.if-not-seated.ensures))
