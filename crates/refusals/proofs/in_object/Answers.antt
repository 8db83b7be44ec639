use Rattle.std.proofs.Common.{le-leb}
use Rattle.std.proofs.lemmas.Bool.{lt-leb}
use Rattle.refusals.specs.Refuse.{decides, applies, passes, none_left}
use Rattle.refusals.proofs.in_object.Goals as goal

pub returns-then-page-ge-COUNT : goal.returns-then-page-ge-COUNT
returns-then-page-ge-COUNT c = decides _ _ (applies (le-leb 262144 c.args.page.0 c.if-page-ge-COUNT.true))

pub returns : goal.returns
returns c = decides _ _ (passes (lt-leb 262144 c.args.page.0 c.if-page-ge-COUNT.false) none_left)
