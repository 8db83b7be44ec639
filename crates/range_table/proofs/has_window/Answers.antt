use Rattle.std.proofs.Common.{ap, sym, ◌∙◌, rules, tests}
use Rattle.std.specs.List.{list_any}
use Rattle.std.proofs.lemmas.Iterator.{YieldsList-from_slice}
use Rattle.std.proofs.lemmas.Iterator.Search.{any_from_yields_List}
use Rattle.ranges.specs.Table.{window}
use Rattle.table.specs.Table.{range_of}
use Rattle.range_table.proofs.Recursions.{named_any}
use Rattle.range_table.proofs.has_window.Goals as goal

pub returns : goal.returns
returns c =
    let k = any_from_yields_List (λ r. window c.args.b c.args.i (range_of r)) _ _ c.any.result c.any.ensures.ran (YieldsList-from_slice _ c.iter.ensures.rest) (λ x b q k. search (rules, tests)) in
    k ∙ ap (λ l. list_any (λ r. window c.args.b c.args.i (range_of r)) l) c.used.ensures.rows ∙ sym (named_any _ _ _)
