-- `refusals::needs::met_whole` meets its contract: two slots for each range that the whole pages meet.
use Rattle.std.proofs.Common.{ℕ, ◌+◌, length, ap, ◌∙◌}
use Rattle.ranges.specs.Range.{line}
use Rattle.ranges.specs.Table.{parts}
use Rattle.table.specs.Table.{ranges_of}
use Rattle.store.specs.Abs.{used}
use Rattle.refusals.specs.Spans.{whole_met}
use Rattle.refusals.proofs.needs.met_whole.Goals as goal

pub returns : goal.returns
returns c =
    let s = c.args.s.now in
    let e = c.args.within.extent in
    let p = c.span_of-span in
    let h = p.ensures in
    let g = c.line_of-a.ensures ∙ ap (line e.object) c.from_offset.ensures in
    let m = c.met.ensures.0 ∙ ap (λ (k : ℕ). length (parts k (k + p.result.whole) (ranges_of (used s)))) g in
    (whole_met e.offset e.n p.result h.0 h.1 h.2 s e.object c.met.result m, c.met.ensures.1)
