use Rattle.std.proofs.Common.{sym, ◌∙◌, arith}
use Rattle.charts.specs.Charts.{chain_at}
use Rattle.places.specs.Places.{place_at}
use Rattle.range_tests.specs.Chaining.{charted_next}
use Rattle.place_tests.specs.Alone.{chain_used}
use Rattle.place_tests.proofs.linked.Goals as goal

pub returns-clause-charted : goal.returns-clause-charted
returns-clause-charted c =
    let a = c.args in
    let ps = a.s.now.places in
    let e = rw c.requires.stands.0 at c.chain_to.ensures ∙ sym (chain_used (place_at ps a.f) c.requires.stands.1) in
    charted_next (chain_at ps) a.f a.chains.now c.requires.charted c.requires.in_table c.chain_to.result e (omega arith) _ c.put.ensures
