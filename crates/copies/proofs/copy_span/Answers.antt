-- `copies::copy_span` meets its contract.
use Rattle.std.proofs.Common.{◌≡◌, sym, ◌∙◌, ◌%◌}
use Rattle.copies.specs.Enters.{copy_even, copy_uneven}
use Rattle.copies.proofs.copy_span.Goals as goal

pub returns-then-place : goal.returns-then-place
returns-then-place c =
    let a = c.args.copier.now.between.passage in
    let f : c.place.result ≡ a.from % 4096 = c.place.ensures in
    let g : c.place-2.result ≡ a.to % 4096 = c.place-2.ensures in
    (copy_even c.args.work.now.store.now c.args.work.now.pool.now a.source a.from a.object a.to a.n (sym f ∙ c.if-place.true ∙ g) _ _ c.copy_equal.ensures.0, c.copy_equal.ensures.1)

pub returns-else-place : goal.returns-else-place
returns-else-place c =
    let a = c.args.copier.now.between.passage in
    let f : c.place.result ≡ a.from % 4096 = c.place.ensures in
    let g : c.place-2.result ≡ a.to % 4096 = c.place-2.ensures in
    (copy_uneven c.args.work.now.store.now c.args.work.now.pool.now a.source a.from a.object a.to a.n (λ e. c.if-place.false (f ∙ e ∙ sym g)) _ _ c.copy_over.ensures.0, c.copy_over.ensures.2)
