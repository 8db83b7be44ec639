-- `SoundStore::pairing` meets its contract: the rows of the source, then those of both spans.
use Rattle.std.proofs.Common.{◌≡◌, Err, rules, arith, eq-eqb, ne_eqb}
use Rattle.book.specs.Book.{past_end}
use Rattle.refusals.specs.Refuse.{no_name, opening, opened, decides, refused_first, applies, passes, none_left, row_passes, row_refuses, both_rows}
use Rattle.refusals.proofs.SoundStore.pairing.Goals as goal

pub returns-in_err-opening-clause-number : goal.returns-in_err-opening-clause-number
returns-in_err-opening-clause-number c =
    let e = c.in_err-opening in
    let q : c.from_residual.result ≡ Err e.field-0.0 = search rules in
    rw q (decides _ _ (refused_first (opening c.args.self.now.store.now c.args.pool c.args.passage.source) _ e.field-0.0 e.ensures.number))

pub returns-in_err-named-clause-number : goal.returns-in_err-named-clause-number
returns-in_err-named-clause-number c =
    let a = c.args in
    let e = c.in_err-named in
    let q : c.from_residual-in_err-named.result ≡ Err e.field-0.0 = search rules in
    rw q (decides _ _ (opened a.self.now.store.now a.pool a.passage.source c.in_ok-opening.ensures.number (row_refuses (no_name a.self.now.store.now a.passage.object) 3 e.field-0.0 e.ensures)))

pub returns-then-passage-clause-number : goal.returns-then-passage-clause-number
returns-then-passage-clause-number c =
    let a = c.args in
    let p = a.passage in
    decides _ _
    (opened a.self.now.store.now a.pool p.source c.in_ok-opening.ensures.number
    (row_passes (no_name a.self.now.store.now p.object) 3 (omega arith) c.in_ok-named.ensures
    (applies (eq-eqb p.source p.object c.if-passage.true))))

pub returns-in_err-in_object-clause-number : goal.returns-in_err-in_object-clause-number
returns-in_err-in_object-clause-number c =
    let a = c.args in
    let p = a.passage in
    let e = c.in_err-in_object in
    let q : c.from_residual-in_err-in_object.result ≡ Err e.field-0.0 = search rules in
    rw q (decides _ _
    (opened a.self.now.store.now a.pool p.source c.in_ok-opening.ensures.number
    (row_passes (no_name a.self.now.store.now p.object) 3 (omega arith) c.in_ok-named.ensures
    (passes (ne_eqb p.source p.object c.if-passage.false)
    (both_rows (past_end p.from p.n) (past_end p.to p.n) 6
    (row_refuses (past_end p.from p.n) 6 e.field-0.0 (rw c.origin.ensures at e.ensures.number)))))))

pub returns-in_err-in_object-2-clause-number : goal.returns-in_err-in_object-2-clause-number
returns-in_err-in_object-2-clause-number c =
    let a = c.args in
    let p = a.passage in
    let e = c.in_err-in_object-2 in
    let q : c.from_residual-in_err-in_object-2.result ≡ Err e.field-0.0 = search rules in
    rw q (decides _ _
    (opened a.self.now.store.now a.pool p.source c.in_ok-opening.ensures.number
    (row_passes (no_name a.self.now.store.now p.object) 3 (omega arith) c.in_ok-named.ensures
    (passes (ne_eqb p.source p.object c.if-passage.false)
    (both_rows (past_end p.from p.n) (past_end p.to p.n) 6
    (row_passes (past_end p.from p.n) 6 (omega arith) (rw c.origin.ensures at c.in_ok-in_object.ensures.number)
    (row_refuses (past_end p.to p.n) 6 e.field-0.0 (rw c.target.ensures at e.ensures.number))))))))

pub returns-clause-number : goal.returns-clause-number
returns-clause-number c =
    let a = c.args in
    let p = a.passage in
    decides _ _
    (opened a.self.now.store.now a.pool p.source c.in_ok-opening.ensures.number
    (row_passes (no_name a.self.now.store.now p.object) 3 (omega arith) c.in_ok-named.ensures
    (passes (ne_eqb p.source p.object c.if-passage.false)
    (both_rows (past_end p.from p.n) (past_end p.to p.n) 6
    (row_passes (past_end p.from p.n) 6 (omega arith) (rw c.origin.ensures at c.in_ok-in_object.ensures.number)
    (row_passes (past_end p.to p.n) 6 (omega arith) (rw c.target.ensures at c.in_ok-in_object-2.ensures.number) none_left))))))
