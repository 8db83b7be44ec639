use Rattle.std.proofs.Common.{ℕ, ◌+◌, ◌%◌, ◌≡◌, ap, sym, ◌∙◌, arith}
use Rattle.chains.specs.Falling.{below_told, falling, falling_below_link}
use Rattle.chains.proofs.Falling.at.Goals as goal

pub returns : goal.returns
returns c =
    let a = c.args in
    let e : ℕ = (c.from-entry.result + 18446744073709551615) % 18446744073709551616 in
    let q : e ≡ (a.link + 18446744073709551615) % 18446744073709551616 = ap (λ (k : ℕ). (k + 18446744073709551615) % 18446744073709551616) c.from-entry.ensures in
    ap (λ (k : ℕ). falling a.next.now k) (below_told a.link a.end e q (omega arith) c.requires) ∙ sym (falling_below_link a.next.now a.end a.link c.requires)
