-- `works::turns` meets its contract. The loop's invariant bounds the turns that went as they should.
use Rattle.std.proofs.Common.{◌≤◌}
use Rattle.works.proofs.turns.Given as goal

abbrev pub invariant-loop-i : goal.invariant-loop-i
invariant-loop-i g l = goal.F-IsAlwaysCallable g l.right × (l.count ≤ l.i)
