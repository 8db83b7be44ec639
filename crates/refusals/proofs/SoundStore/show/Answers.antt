-- `SoundStore::show` meets its contract: the rows of its opening, then that of its page.
use Rattle.std.proofs.Common.{◌≡◌, Err, rules}
use Rattle.refusals.specs.Refuse.{opening, opened, show_number, refused_first, known}
use Rattle.refusals.proofs.SoundStore.show.Goals as goal

pub returns-in_err-opening : goal.returns-in_err-opening
returns-in_err-opening c =
    let a = c.args in
    let e = c.in_err-opening in
    let q : c.from_residual.result ≡ Err e.field-0.0 = search rules in
    rw q (show_number a.self.now.store.now _ a.pool a.object a.page.0 (refused_first (opening a.self.now.store.now a.pool a.object) _ e.field-0.0 e.ensures.number))

pub returns : goal.returns
returns c =
    let a = c.args in
    show_number a.self.now.store.now _ a.pool a.object a.page.0 (opened a.self.now.store.now a.pool a.object c.in_ok-opening.ensures.number (known c.in_object.ensures))
