-- `calls::drop_object` meets its contract.
use Rattle.std.proofs.Common.{◌≡◌, refl, Err, rules}
use Rattle.book.specs.Book.{drop_object, done}
use Rattle.calls.specs.Calls.{did_decline, did_not_enter}
use Rattle.calls.specs.Kept.{was_sound}
use Rattle.calls.proofs.Drop.{drop_name, drop_room, drop_done}
use Rattle.calls.proofs.drop_object.Goals as goal

pub returns-in_err-enter : goal.returns-in_err-enter
returns-in_err-enter c =
    let a = c.args in
    let e = c.in_err-enter in
    let q : c.from_residual.result ≡ Err e.field-0.0 = search rules in
    rw q (did_not_enter (drop_object a.object) a.s done (λ j. refl) e.field-0.0 e.ensures.tried)

pub returns-in_err-drop_object : goal.returns-in_err-drop_object
returns-in_err-drop_object c =
    let a = c.args in
    let e = c.in_err-drop_object in
    let q : c.from_residual-in_err-drop_object.result ≡ Err e.field-0.0 = search rules in
    rw q (did_decline (drop_object a.object) a.s done (λ j. refl) e.field-0.0 (rw c.in_ok-enter.ensures.same at e.ensures))

pub take_object-requires-clause-store : goal.take_object-requires-clause-store
take_object-requires-clause-store c =
    let a = c.args in
    let r = rw c.in_ok-enter.ensures.same at c.in_ok-drop_object.ensures in
    let Z = c.enter.ensures.tried.sized in
    (Z, was_sound (drop_object a.object) a.s r, drop_name a.s a.object Z r)

pub take_object-requires-clause-room : goal.take_object-requires-clause-room
take_object-requires-clause-room c = drop_room c.args.s c.args.object c.enter.ensures.tried.sized (rw c.in_ok-enter.ensures.same at c.in_ok-drop_object.ensures)

pub returns : goal.returns
returns c = drop_done c.args.s c.args.object c.enter.ensures.tried.sized (rw c.in_ok-enter.ensures.same at c.in_ok-drop_object.ensures) c.take_object.new.s c.take_object.ensures
