-- `frames::top_bit` meets its contract: what leading zeros say of a word that is not 0 places its highest bit.
use mathlib.Core.Path.{◌≡◌}
use Prim.Native.Nat.{suc, ◌+◌}
use native.Mathlib.Omega.{arith}
use lib.Count.{leading_top}
use Rattle.frames.proofs.Laws.{top_of}
use Rattle.frames.proofs.top_bit.Goals as goal

pub overflow_sub-result : goal.overflow_sub-result
overflow_sub-result c = omega (arith, (leading_top 64 c.args.w c.requires c.ranges.w.fits).1)

pub returns : goal.returns
returns c =
    let w = c.args.w in
    let t = leading_top 64 w c.requires c.ranges.w.fits in
    top_of w _ t.0 t.1 t.2 t.3
