-- `calls::new_object` meets its contract.
use Rattle.std.proofs.Common.{◌≡◌, refl, Err, rules}
use Rattle.book.specs.Book.{new_object, done}
use Rattle.calls.specs.Calls.{did_decline, did_not_enter}
use Rattle.calls.specs.Each.{new_name, new_done}
use Rattle.calls.proofs.new_object.Goals as goal

pub returns-in_err-enter : goal.returns-in_err-enter
returns-in_err-enter c =
    let a = c.args in
    let e = c.in_err-enter in
    let q : c.from_residual.result ≡ Err e.field-0.0 = search rules in
    rw q (did_not_enter (new_object a.object) a.s done (λ j. refl) e.field-0.0 e.ensures.tried)

pub returns-in_err-new_object : goal.returns-in_err-new_object
returns-in_err-new_object c =
    let a = c.args in
    let e = c.in_err-new_object in
    let q : c.from_residual-in_err-new_object.result ≡ Err e.field-0.0 = search rules in
    rw q (did_decline (new_object a.object) a.s done (λ j. refl) e.field-0.0 (rw c.in_ok-enter.ensures.same at e.ensures))

pub overflow_shl-s : goal.overflow_shl-s
overflow_shl-s c = new_name c.args.s c.args.object (rw c.in_ok-enter.ensures.same at c.in_ok-new_object.ensures)

pub returns : goal.returns
returns c = new_done c.args.s c.enter.ensures.tried.sized c.args.object (rw c.in_ok-enter.ensures.same at c.in_ok-new_object.ensures)
