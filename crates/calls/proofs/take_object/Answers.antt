-- `calls::take_object` meets its contract.
use Rattle.store.specs.Good.{sound_table}
use Rattle.store.specs.Back.{sound_besides}
use Rattle.calls.proofs.take_object.Goals as goal

pub cut_range-requires-clause-table : goal.cut_range-requires-clause-table
cut_range-requires-clause-table c =
    let s = c.args.s.now in
    let r = c.requires.store in
    (sound_table s r.0 r.1, (sound_besides s r.0 r.1).rest_ranges)
