use Rattle.std.proofs.Common.{◌∙◌, ap, arith, get_or}
use Rattle.table.specs.Table.{zero_range}
use Rattle.lists.specs.Mapped.{mapped_none, mapped_rest, mapped_turn}
use Rattle.shares.specs.Moved.{moved_range}
use Rattle.whole_pages.specs.Laid.{moved_or, turned_all}
use Rattle.whole_pages.proofs.move_parts.Goals as goal

pub loop-r-init : goal.loop-r-init
loop-r-init c = let t = c.args.stretch in mapped_none (moved_range t.first t.end t.object t.to.0) c.args.ranges.now

pub part_of-requires : goal.part_of-requires
part_of-requires c =
    let t = c.args.stretch in
    let rs = c.args.ranges.now in
    let l = c.loop-r in
    rw (mapped_rest (moved_range t.first t.end t.object t.to.0) rs l.ranges l.r-index zero_range c.loop-r-test.true l.invariant) (c.requires l.r-index c.loop-r-test.true).0

pub loop-r-preserved : goal.loop-r-preserved
loop-r-preserved c =
    let t = c.args.stretch in
    let g = moved_range t.first t.end t.object t.to.0 in
    let rs = c.args.ranges.now in
    let l = c.loop-r in
    let z = mapped_rest g rs l.ranges l.r-index zero_range c.loop-r-test.true l.invariant in
    let m = (c.requires l.r-index c.loop-r-test.true).1 in
    mapped_turn g rs l.ranges l.r-index c.unwrap_or.result zero_range c.loop-r-test.true
    (c.unwrap_or.ensures ∙ moved_or t.first t.end t.object t.to.0 (get_or l.ranges l.r-index zero_range) (rw z m) c.part_of.result c.part_of.ensures ∙ ap g z) l.invariant

pub returns : goal.returns
returns c =
    let t = c.args.stretch in
    c.loop-r.invariant ∙ turned_all (moved_range t.first t.end t.object t.to.0) c.args.ranges.now c.loop-r.r-index (omega arith)
