-- `console::Console::answer_lines`: a line feed found (`line_law`), or none left (`done_rest`).
use Rattle.std.proofs.Common.{ap, length, rules}
use Rattle.console.specs.Scan.{index_none, index_some}
use Rattle.console.specs.Answers.{done_begun, done_rest, line_law, rest_left, rest_not_whole}
use Rattle.console.proofs.Console.answer_lines.Goals as goal

pub loop-end-init : goal.loop-end-init
loop-end-init c = record {
  left = search rules;
  fresh = λ _. ap length c.clear.ensures;
  done = done_begun _ _ _ _ _ c.clear.ensures;
}

pub returns-in_default-clause-done : goal.returns-in_default-clause-done
returns-in_default-clause-done c = rw c.hold.ensures (done_rest c.loop-end.invariant.done (index_none _ _ c.in_default.ensures))

pub loop-end-preserved : goal.loop-end-preserved
loop-end-preserved c =
    let l = c.loop-end.invariant in
    let m = c.in-Some.ensures in record {
      left = rest_left _ _ _ l.left m.0.high;
      fresh = λ e. absurd (rest_not_whole _ _ _ l.left m.0.high e);
      done = line_law _ l.done (index_some _ _ _ m.0.high m.1 m.0.before) m.0.high c.finish.ensures.spoke c.finish.ensures.held;
    }
