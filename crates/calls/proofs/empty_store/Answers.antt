-- `calls::empty_store` meets its contract.
use Rattle.calls.specs.Made.{blank_made}
use Rattle.calls.proofs.empty_store.Goals as goal

pub returns : goal.returns
returns c = blank_made c.args.frames c.renew.new.s c.renew.ensures
