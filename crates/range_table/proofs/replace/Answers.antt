-- `replace` meets its contract: three parts laid one behind the other.
use Rattle.range_table.specs.Edit.{rows_of}
use Rattle.range_table.specs.Made.{replaced}
use Rattle.range_table.proofs.replace.Goals as goal

pub returns : goal.returns
returns c =
    let a = c.args in
    let P = c.requires.rows in
    replaced a.s.now a.p a.q _ _ _ (rows_of a.before) (rows_of a.middle) (rows_of a.after) _ _ _ _ P.0 P.1 P.2 P.3
    c.width-x.ensures c.width-y.ensures c.width-z.ensures c.shift.ensures c.lay.ensures c.lay-2.ensures c.lay-3.ensures
