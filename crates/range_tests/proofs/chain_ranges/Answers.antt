use Rattle.std.proofs.Common.{◌≡◌, ap, sym, ◌∙◌, ◌%◌, rules, arith}
use Rattle.table.specs.declared.PageRange.{PageRange}
use Rattle.table.specs.Table.{number_of}
use Rattle.lists.specs.Every.{all_below, below_fails, below_next, below_zero, none_both}
use Rattle.charts.specs.Charts.{chain_by}
use Rattle.range_tests.specs.Agree.{alike_to, used_at, used_low}
use Rattle.range_tests.specs.Chaining.{charted_next, charted_none}
use Rattle.range_tests.specs.Fit.{fitting?, fitting_at}
use Rattle.range_tests.proofs.chain_ranges.Goals as goal

pub loop-i-init : goal.loop-i-init
loop-i-init c =
    let l = c.args.s.now.ranges in
    record {
      charted = charted_none (chain_by l) c.args.chains.now c.requires.empty.0 c.requires.empty.1;
      agree = below_zero (λ j. all_below (alike_to l j) j);
      fit = below_zero (fitting_at l);
    }

pub returns-then-not-fits-clause-answer : goal.returns-then-not-fits-clause-answer
returns-then-not-fits-clause-answer c =
    let l = c.args.s.now.ranges in
    rw (← below_fails (fitting_at l) c.args.s.now.count c.loop-i.i (used_low c.args.s.now.ranges c.args.s.now.count c.loop-i.i c.loop-i-test.true) (ap fitting? (sym (used_at c.args.s.now.ranges c.args.s.now.count c.loop-i.i c.loop-i-test.true)) ∙ search rules))

pub agrees-requires-clause-linked : goal.agrees-requires-clause-linked
agrees-requires-clause-linked c =
    let l = c.loop-i in
    let h : c.chain_by.result ≡ chain_by c.args.s.now.ranges l.i = c.chain_by.ensures ∙ ap (λ k. k % 1024) c.number.ensures ∙ ap (λ (r : PageRange). number_of r.backing % 1024) (used_at c.args.s.now.ranges c.args.s.now.count c.loop-i.i c.loop-i-test.true) in
    let C = charted_next (chain_by c.args.s.now.ranges) l.i l.chains l.invariant.charted (omega (arith, used_low c.args.s.now.ranges c.args.s.now.count c.loop-i.i c.loop-i-test.true, c.requires.few)) _ h (omega arith) _ c.put.ensures in
    C.chained.next

pub returns-then-not-agrees-clause-answer : goal.returns-then-not-agrees-clause-answer
returns-then-not-agrees-clause-answer c =
    let s = c.args.s.now in
    rw (← below_fails (λ j. all_below (alike_to s.ranges j) j) s.count c.loop-i.i (used_low c.args.s.now.ranges c.args.s.now.count c.loop-i.i c.loop-i-test.true) (search rules)) (sym (none_both (all_below (fitting_at s.ranges) s.count)))

pub loop-i-preserved : goal.loop-i-preserved
loop-i-preserved c =
    let l = c.loop-i in
    let rs = c.args.s.now.ranges in
    let h : c.chain_by.result ≡ chain_by rs l.i = c.chain_by.ensures ∙ ap (λ k. k % 1024) c.number.ensures ∙ ap (λ (r : PageRange). number_of r.backing % 1024) (used_at c.args.s.now.ranges c.args.s.now.count c.loop-i.i c.loop-i-test.true) in
    record {
      charted = charted_next (chain_by rs) l.i l.chains l.invariant.charted (omega (arith, used_low c.args.s.now.ranges c.args.s.now.count c.loop-i.i c.loop-i-test.true, c.requires.few)) _ h (omega arith) _ c.put.ensures;
      agree = below_next (λ j. all_below (alike_to rs j) j) l.i l.invariant.agree (search rules);
      fit = below_next (fitting_at rs) l.i l.invariant.fit (ap fitting? (sym (used_at c.args.s.now.ranges c.args.s.now.count c.loop-i.i c.loop-i-test.true)) ∙ search rules);
    }
