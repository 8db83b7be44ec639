-- `next_frame` meets its contract: the highest bit of the last word that is not 0 is the highest of all.
use Rattle.std.proofs.Common.{◌≡◌, ◌<◌, ℕ, get_or, sym, ◌∙◌, rules, tests}
use Rattle.frames.proofs.Laws.{highest_word, highest_zero}
use Rattle.page_steps.proofs.settling.next_frame.Goals as goal

pub returns : goal.returns
returns c =
    let ws = c.args.s.now.free in
    let i = c.in_ok-i.i in
    let above : (k : ℕ) → i < k → k < 16 → get_or ws k 0 ≡ 0 = search (rules, tests) in
    sym (highest_word ws i c.top_bit.result (search rules) c.top_bit.ensures above)

pub returns-in_err-i : goal.returns-in_err-i
returns-in_err-i c =
    let ws = c.args.s.now.free in
    let none : (k : ℕ) → k < 16 → get_or ws k 0 ≡ 0 = search (rules, tests) in
    c.from_residual.ensures ∙ sym (highest_zero ws none)
