-- `calls::counts` meets its contract.
use Rattle.std.proofs.Common.{◌≡◌, refl, Err, rules}
use Rattle.book.specs.Book.{counts, numbers}
use Rattle.store.specs.Iff.{says_sound}
use Rattle.refusals.specs.Enter.{counts_none}
use Rattle.calls.specs.Calls.{did_not_enter}
use Rattle.calls.specs.Each.{counts_done}
use Rattle.calls.proofs.counts.Goals as goal

pub returns-in_err-enter : goal.returns-in_err-enter
returns-in_err-enter c =
    let a = c.args in
    let e = c.in_err-enter in
    let q : c.from_residual.result ≡ Err e.field-0.0 = search rules in
    rw q (did_not_enter counts a.s (numbers 0 0) (λ j. refl) e.field-0.0 e.ensures.tried)

pub returns : goal.returns
returns c =
    let s = c.args.s in
    let E = c.in_ok-enter.ensures.tried.enters in
    counts_done s E.sized (counts_none s (says_sound s E.sound)) _ _ c.used_count.ensures refl
