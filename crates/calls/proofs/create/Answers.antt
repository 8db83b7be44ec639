-- `calls::create` meets its contract.
use Rattle.std.proofs.Common.{◌≡◌, true, false, rules}
use Rattle.std.specs.Prelude.{leb, ◌&&◌}
use Rattle.calls.specs.Made.{made, not_made}
use Rattle.calls.proofs.create.Goals as goal

pub returns-then-contains : goal.returns-then-contains
returns-then-contains c =
    let E = c.empty_store.ensures in
    let b : (leb 1 c.args.frames && leb c.args.frames 1024) ≡ true = search rules in
    made c.empty_store.result E.0 E.2 c.args.frames E.1 b

pub returns : goal.returns
returns c =
    let E = c.empty_store-2.ensures in
    let b : (leb 1 c.args.frames && leb c.args.frames 1024) ≡ false = search rules in
    not_made c.empty_store-2.result E.0 E.2 c.args.frames E.1 b
