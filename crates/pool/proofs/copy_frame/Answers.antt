-- `pool::copy_frame`: a page's bytes moved from frame to frame.
use mathlib.Core.Path.{◌∙◌}
use Rattle.pool.specs.Frames.{copied_code}
use Rattle.pool.proofs.copy_frame.Goals as goal

pub returns : goal.returns
returns c = let a = c.args in c.move_within.ensures ∙ copied_code 4096 a.pool.now a.to a.from
