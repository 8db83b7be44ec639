use Rattle.std.proofs.Common.{length, arith}
use Rattle.window_search.specs.Windows.{head_low}
use Rattle.window_search.proofs.Windows.first.Goals as goal

pub returns-clause-head : goal.returns-clause-head
returns-clause-head c = rw (← c.chain_by.ensures) c.entry.ensures

pub returns-clause-low : goal.returns-clause-low
returns-clause-low c =
    let s = c.args.self.now in
    omega (arith, c.entry.ensures, head_low s.ranges.now (length s.ranges.now) s.chains.now s.chained c.chain_by.result (omega (arith, c.chain_by.ensures)))
