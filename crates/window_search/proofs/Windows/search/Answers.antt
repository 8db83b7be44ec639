use Rattle.window_search.specs.Windows.{met_empty}
use Rattle.window_search.proofs.Windows.search.Goals as goal

pub returns-in_default : goal.returns-in_default
returns-in_default c =
    let s = c.args.self.now in
    met_empty s.ranges.now s.chains.now s.chained c.args.place c.in_default.ensures
