use Rattle.std.proofs.Common.{rules, ◌≡◌, true, false, List, ℕ, ◌+◌, ◌≤◌, get_or, [], ◌∷◌, ◌∙◌, sym, ap, arith, length}
use Rattle.chains.specs.Falling.{falling, falling_below_link, falling_end, falling_step, link_to}
use Rattle.chains.proofs.FallingIterator.next.Goals as goal

pub returns-then-not-self-clause-steps : goal.returns-then-not-self-clause-steps
returns-then-not-self-clause-steps c =
    let s = c.self.inside in
    let m : s.more ≡ false = search rules in
    let e : c.args.self.now ≡ [] = sym c.self.view_is ∙ falling_end s.next.now (link_to s.more s.entry) (ap (λ b. link_to b s.entry) m) in
    (e, e)

pub returns-clause-steps : goal.returns-clause-steps
returns-clause-steps c =
    let s = c.self.inside in
    let i = s.entry in
    let m : s.more ≡ true = search rules in
    let z : link_to s.more i ≡ i + 1 = ap (λ b. link_to b i) m in
    let l : link_to s.more i ≤ 1024 = search rules in
    sym c.self.view_is ∙ ap (λ k. falling s.next.now k) z ∙ falling_step s.next.now i (omega arith)
    ∙ ap (λ r. i ∷ r) (sym (falling_below_link s.next.now i (get_or s.next.now i 0) (omega arith)) ∙ sym c.at.ensures ∙ search rules)

pub returns-clause-goes : goal.returns-clause-goes
returns-clause-goes c =
    let e = returns-clause-steps c in
    record { on = λ f. (tt, tt, let w = ap (λ (x : List ℕ). length x) e in omega arith); keeps = tt; rests = λ f. tt }
