-- `refusals::enter` meets its contract: what it says is what the test of soundness says.
use Rattle.std.proofs.Common.{refl}
use Rattle.refusals.specs.Enter.{tried_sound, tried_spoiled}
use Rattle.refusals.proofs.enter.Goals as goal

pub returns-then-examine-clause-tried : goal.returns-then-examine-clause-tried
returns-then-examine-clause-tried c =
    let e = c.if-examine.ensures in
    tried_sound c.args.s.now (λ q. q.charts.now) c.lengths.ensures _ e.answer (e.ranges refl) (e.frames refl)

pub returns-clause-tried : goal.returns-clause-tried
returns-clause-tried c = tried_spoiled c.args.s.now (λ q. q.charts.now) c.lengths.ensures c.if-examine.ensures.answer
