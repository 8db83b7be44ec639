-- `Entry::write` meets its contract: the rows of its opening, that of its bytes, then those of what it needs.
use Rattle.std.proofs.Common.{◌≡◌, Err, rules, arith}
use Rattle.book.specs.Book.{past_end}
use Rattle.refusals.specs.Refuse.{opening, opened, write_number, refused_first, known, row_passes, row_refuses}
use Rattle.refusals.proofs.Entry.write.Goals as goal

pub returns-in_err-opening : goal.returns-in_err-opening
returns-in_err-opening c =
    let a = c.args in
    let b = a.extent in
    let e = c.in_err-opening in
    let q : c.from_residual.result ≡ Err e.field-0.0 = search rules in
    rw q (write_number a.self.now.sound.store.now _ a.pool b.object b.offset b.n (λ x. refused_first (opening a.self.now.sound.store.now a.pool b.object) _ e.field-0.0 e.ensures.number))

pub returns-in_err-in_object : goal.returns-in_err-in_object
returns-in_err-in_object c =
    let a = c.args in
    let b = a.extent in
    let e = c.in_err-in_object in
    let q : c.from_residual-in_err-in_object.result ≡ Err e.field-0.0 = search rules in
    rw q (write_number a.self.now.sound.store.now _ a.pool b.object b.offset b.n
    (λ x. opened a.self.now.sound.store.now a.pool b.object c.in_ok-opening.ensures.number (row_refuses (past_end b.offset b.n) 6 e.field-0.0 e.ensures.number)))

pub returns : goal.returns
returns c =
    let a = c.args in
    let b = a.extent in
    write_number a.self.now.sound.store.now _ a.pool b.object b.offset b.n
    (λ x. opened a.self.now.sound.store.now a.pool b.object c.in_ok-opening.ensures.number
    (row_passes (past_end b.offset b.n) 6 (omega arith) c.in_ok-in_object.ensures.number (known (rw c.in_ok-in_object.ensures.same at (c.lacking_bytes.ensures x)))))
