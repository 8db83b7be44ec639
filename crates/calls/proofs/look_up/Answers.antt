-- `calls::look_up` meets its contract.
use Rattle.std.proofs.Common.{◌≡◌, refl, Err, rules, arith}
use Rattle.book.specs.Book.{look_up, state}
use Rattle.book.specs.Need as need
use Rattle.calls.specs.Calls.{did_decline, did_not_enter}
use Rattle.calls.specs.Each.{look_page, look_done}
use Rattle.calls.proofs.look_up.Goals as goal

pub returns-in_err-entry : goal.returns-in_err-entry
returns-in_err-entry c =
    let a = c.args in
    let e = c.in_err-entry in
    let q : c.from_residual.result ≡ Err e.field-0.0 = search rules in
    rw q (did_not_enter (look_up a.object a.page.0) a.s (state need.absent) (λ j. refl) e.field-0.0 e.ensures.tried)

pub returns-in_err-look_up : goal.returns-in_err-look_up
returns-in_err-look_up c =
    let a = c.args in
    let e = c.in_err-look_up in
    let q : c.from_residual-in_err-look_up.result ≡ Err e.field-0.0 = search rules in
    rw q (did_decline (look_up a.object a.page.0) a.s (state need.absent) (λ j. refl) e.field-0.0 (rw c.in_ok-entry.ensures.same at e.ensures))

pub line_of-requires : goal.line_of-requires
line_of-requires c =
    let p = look_page c.args.s c.args.object c.args.page.0 (rw c.in_ok-entry.ensures.same at c.in_ok-look_up.ensures) in
    omega (arith, p.1)

pub returns : goal.returns
returns c =
    let a = c.args in
    let same = c.in_ok-entry.ensures.same in
    look_done a.s c.enter.ensures.tried.sized a.object a.page.0 (rw same at c.in_ok-look_up.ensures) c.of.result
    (rw (c.states.ensures.store, same, c.line_of.ensures) at c.of.ensures)
