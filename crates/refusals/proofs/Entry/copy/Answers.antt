-- `Entry::copy` meets its contract: the rows of both spans, then those of what it needs.
use Rattle.std.proofs.Common.{◌≡◌, Err, rules}
use Rattle.refusals.specs.Refuse.{pairing, paired, copy_number, refused_first, known}
use Rattle.refusals.proofs.Entry.copy.Goals as goal

pub returns-in_err-between-clause-number : goal.returns-in_err-between-clause-number
returns-in_err-between-clause-number c =
    let a = c.args in
    let p = a.passage in
    let e = c.in_err-between in
    let q : c.from_residual.result ≡ Err e.field-0.0 = search rules in
    rw q (copy_number a.self.now.sound.store.now _ a.pool p.source p.from p.object p.to p.n
    (λ x. refused_first (pairing a.self.now.sound.store.now a.pool p.source p.from p.object p.to p.n) _ e.field-0.0 e.ensures.number))

pub returns-in_err-lacking_copy-clause-number : goal.returns-in_err-lacking_copy-clause-number
returns-in_err-lacking_copy-clause-number c =
    let a = c.args in
    let p = a.passage in
    let e = c.in_err-lacking_copy in
    let q : c.from_residual-in_err-lacking_copy.result ≡ Err e.field-0.0 = search rules in
    rw q (copy_number a.self.now.sound.store.now _ a.pool p.source p.from p.object p.to p.n
    (λ x. paired a.self.now.sound.store.now a.pool p.source p.from p.object p.to p.n c.in_ok-between.ensures.number (known (rw c.in_ok-between.ensures.same at (e.ensures x)))))

pub returns-clause-number : goal.returns-clause-number
returns-clause-number c =
    let a = c.args in
    let p = a.passage in
    copy_number a.self.now.sound.store.now _ a.pool p.source p.from p.object p.to p.n
    (λ x. paired a.self.now.sound.store.now a.pool p.source p.from p.object p.to p.n c.in_ok-between.ensures.number (known (rw c.in_ok-between.ensures.same at (c.in_ok-lacking_copy.ensures x))))
