-- `uncover` meets its contract.
use Rattle.std.proofs.Common.{◌≡◌, arith}
use Rattle.ranges.specs.Range.{line}
use Rattle.pages.specs.Any.{zeros}
use Rattle.shares.specs.Uncovered.{uncovered_none, uncovered_room, uncovered}
use Rattle.whole_pages.specs.Spread.{cut_retabled}
use Rattle.whole_pages.proofs.uncover.Goals as goal

pub returns-then-n-eq0 : goal.returns-then-n-eq0
returns-then-n-eq0 c =
    let a = c.args in
    rw c.if-n-eq0.true (uncovered_none a.s.now a.object a.page.0)

pub cut_range-requires-clause-span : goal.cut_range-requires-clause-span
cut_range-requires-clause-span c =
    let s = c.args.s.now in
    (omega arith, uncovered_room s (zeros s) _ _ c.requires.0 (omega arith) (omega arith))

pub returns : goal.returns
returns c =
    let a = c.args in
    let s = a.s.now in
    let t = c.trim.new.s in
    let e : c.line_of-a.result ≡ line a.object a.page.0 = c.line_of-a.ensures in
    let R = cut_retabled s _ t _ _ c.cut_range.ensures c.trim.ensures in
    uncovered s a.object a.page.0 a.n t (omega arith) (rw e at R)
