-- `Entry::zero` meets its contract: the rows of its opening, that of its bytes, then those of what it needs.
use Rattle.std.proofs.Common.{◌≡◌, Err, rules, arith}
use Rattle.book.specs.Book.{past_end}
use Rattle.refusals.specs.Refuse.{opening, opened, zero_number, refused_first, known, row_passes, row_refuses}
use Rattle.refusals.proofs.Entry.zero.Goals as goal

pub returns-in_err-opening-clause-number : goal.returns-in_err-opening-clause-number
returns-in_err-opening-clause-number c =
    let a = c.args in
    let b = a.extent in
    let e = c.in_err-opening in
    let q : c.from_residual.result ≡ Err e.field-0.0 = search rules in
    rw q (zero_number a.self.now.sound.store.now _ a.pool b.object b.offset b.n (λ x. refused_first (opening a.self.now.sound.store.now a.pool b.object) _ e.field-0.0 e.ensures.number))

pub returns-in_err-within-clause-number : goal.returns-in_err-within-clause-number
returns-in_err-within-clause-number c =
    let a = c.args in
    let b = a.extent in
    let e = c.in_err-within in
    let q : c.from_residual-in_err-within.result ≡ Err e.field-0.0 = search rules in
    rw q (zero_number a.self.now.sound.store.now _ a.pool b.object b.offset b.n
    (λ x. opened a.self.now.sound.store.now a.pool b.object c.in_ok-opening.ensures.number (row_refuses (past_end b.offset b.n) 6 e.field-0.0 e.ensures.number)))

pub returns-in_err-lacking_zero-clause-number : goal.returns-in_err-lacking_zero-clause-number
returns-in_err-lacking_zero-clause-number c =
    let a = c.args in
    let b = a.extent in
    let e = c.in_err-lacking_zero in
    let q : c.from_residual-in_err-lacking_zero.result ≡ Err e.field-0.0 = search rules in
    rw q (zero_number a.self.now.sound.store.now _ a.pool b.object b.offset b.n
    (λ x. opened a.self.now.sound.store.now a.pool b.object c.in_ok-opening.ensures.number
    (row_passes (past_end b.offset b.n) 6 (omega arith) c.in_ok-within.ensures.number (known (rw c.in_ok-within.ensures.same at (e.ensures x))))))

pub returns-clause-number : goal.returns-clause-number
returns-clause-number c =
    let a = c.args in
    let b = a.extent in
    zero_number a.self.now.sound.store.now _ a.pool b.object b.offset b.n
    (λ x. opened a.self.now.sound.store.now a.pool b.object c.in_ok-opening.ensures.number
    (row_passes (past_end b.offset b.n) 6 (omega arith) c.in_ok-within.ensures.number (known (rw c.in_ok-within.ensures.same at (c.in_ok-lacking_zero.ensures x)))))
