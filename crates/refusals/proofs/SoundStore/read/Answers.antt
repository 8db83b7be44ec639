-- `SoundStore::read` meets its contract: the rows of its opening, then that of its bytes.
use Rattle.std.proofs.Common.{◌≡◌, Err, rules, arith}
use Rattle.book.specs.Book.{past_end}
use Rattle.refusals.specs.Refuse.{opening, opened, read_number, refused_first, none_left, row_passes, row_refuses}
use Rattle.refusals.proofs.SoundStore.read.Goals as goal

pub returns-in_err-opening : goal.returns-in_err-opening
returns-in_err-opening c =
    let a = c.args in
    let b = a.extent in
    let e = c.in_err-opening in
    let q : c.from_residual.result ≡ Err e.field-0.0 = search rules in
    rw q (read_number a.self.now.store.now _ a.pool b.object b.offset b.n (refused_first (opening a.self.now.store.now a.pool b.object) _ e.field-0.0 e.ensures.number))

pub returns-in_err-in_object : goal.returns-in_err-in_object
returns-in_err-in_object c =
    let a = c.args in
    let b = a.extent in
    let e = c.in_err-in_object in
    let q : c.from_residual-in_err-in_object.result ≡ Err e.field-0.0 = search rules in
    rw q (read_number a.self.now.store.now _ a.pool b.object b.offset b.n (opened a.self.now.store.now a.pool b.object c.in_ok-opening.ensures.number (row_refuses (past_end b.offset b.n) 6 e.field-0.0 e.ensures.number)))

pub returns : goal.returns
returns c =
    let a = c.args in
    let b = a.extent in
    read_number a.self.now.store.now _ a.pool b.object b.offset b.n (opened a.self.now.store.now a.pool b.object c.in_ok-opening.ensures.number (row_passes (past_end b.offset b.n) 6 (omega arith) c.in_ok-in_object.ensures.number none_left))
