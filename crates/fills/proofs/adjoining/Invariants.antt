-- `fills::adjoining` meets its contract. The loop's invariant bounds the pages that are left.
use Rattle.std.proofs.Common.{◌≤◌}
use Rattle.fills.proofs.adjoining.Given as goal

abbrev pub invariant-loop-i : goal.invariant-loop-i
invariant-loop-i l = l.at ≤ l.parts.pages
