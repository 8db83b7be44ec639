-- `locate` meets its contract: the table of a store inside a call is in order.
use Rattle.pages.specs.Inside.{inside_table}
use Rattle.page_steps.proofs.work.Work.locate.Goals as goal

pub locate_by-requires-clause-table : goal.locate_by-requires-clause-table
locate_by-requires-clause-table c = let v = c.args.self.now in inside_table v.store.now v.pool.now v.inside
