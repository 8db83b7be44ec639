-- `pool::zero_frame`: a page's bytes filled.
use Rattle.pool.specs.Bytes.{frame_zeroed}
use Rattle.pool.proofs.zero_frame.Goals as goal

pub returns : goal.returns
unfolding frame_zeroed
returns c = c.fill.ensures
