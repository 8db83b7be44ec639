use Rattle.std.specs.Prelude.{◌≡◌, count_by, take, eqb}
use Rattle.std.proofs.Common.{sym, ◌∙◌, rules}
use Rattle.table.specs.Table.{number_of}
use Rattle.table.specs.declared.PageRange.{PageRange}
use Rattle.range_table.proofs.Recursions.{holders_counted}
use Rattle.range_table.proofs.holder_count.Goals as goal

pub returns : goal.returns
returns c =
    let s = c.args.s.now in
    let k : c.count.result ≡ count_by (λ (r : PageRange). eqb c.args.b (number_of r.backing)) (take s.count s.ranges) = search rules in
    k ∙ sym (holders_counted _ _)
