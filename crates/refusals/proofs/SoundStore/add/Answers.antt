-- `SoundStore::add` meets its contract: the rows of its opening, that of its page, then those of what it needs.
use Rattle.std.proofs.Common.{◌≡◌, Err, leb, rules, arith}
use Rattle.refusals.specs.Refuse.{opening, opened, add_number, refused_first, known, row_passes, row_refuses}
use Rattle.refusals.proofs.SoundStore.add.Goals as goal

pub returns-in_err-opening : goal.returns-in_err-opening
returns-in_err-opening c =
    let a = c.args in
    let e = c.in_err-opening in
    let q : c.from_residual.result ≡ Err e.field-0.0 = search rules in
    rw q (add_number a.self.now.store.now _ a.pool a.object a.page.0 (λ x. refused_first (opening a.self.now.store.now a.pool a.object) _ e.field-0.0 e.ensures.number))

pub returns-in_err-in_object : goal.returns-in_err-in_object
returns-in_err-in_object c =
    let a = c.args in
    let e = c.in_err-in_object in
    let q : c.from_residual-in_err-in_object.result ≡ Err e.field-0.0 = search rules in
    rw q (add_number a.self.now.store.now _ a.pool a.object a.page.0
    (λ x. opened a.self.now.store.now a.pool a.object c.in_ok-opening.ensures.number (row_refuses (leb 262144 a.page.0) 6 e.field-0.0 e.ensures)))

pub returns : goal.returns
returns c =
    let a = c.args in
    add_number a.self.now.store.now _ a.pool a.object a.page.0
    (λ x. opened a.self.now.store.now a.pool a.object c.in_ok-opening.ensures.number
    (row_passes (leb 262144 a.page.0) 6 (omega arith) c.in_ok-in_object.ensures (known (c.lacking.ensures x))))
