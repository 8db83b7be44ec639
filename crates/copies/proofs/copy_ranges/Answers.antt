-- `copies::copy_ranges` meets its contract.
use Rattle.std.proofs.Common.{◌≡◌, ◌%◌, refl, Err, rules}
use Rattle.lists.specs.Test.{by-eq}
use Rattle.book.specs.Book.{copy, done}
use Rattle.refusals.specs.Enter.{entered_charted}
use Rattle.calls.specs.With.{DidWith, with_decline, with_not_enter}
use Rattle.freeing.specs.Closed.{Closed}
use Rattle.access.specs.Finish.{handed}
use Rattle.copies.specs.Enters.{equal_enters, bytes_enters, copy_done}
use Rattle.copies.proofs.copy_ranges.Goals as goal

pub returns-in_err-entry : goal.returns-in_err-entry
returns-in_err-entry c =
    let a = c.args in
    let e = c.in_err-entry in
    let q : c.from_residual.result ≡ Err e.field-0.0 = search rules in
    rw q (with_not_enter (copy a.source a.from a.object a.to a.n) a.s a.pool.now done (λ j. refl) e.field-0.0 e.ensures.tried)

pub returns-in_err-copy : goal.returns-in_err-copy
returns-in_err-copy c =
    let a = c.args in
    let e = c.in_err-copy in
    let q : c.from_residual-in_err-copy.result ≡ Err e.field-0.0 = search rules in
    rw q (with_decline (copy a.source a.from a.object a.to a.n) a.s a.pool.now done (λ j. refl) e.field-0.0 (rw c.in_ok-entry.ensures.same at (e.ensures.number a.pool.now refl)))

pub invariant_of-work : goal.invariant_of-work
invariant_of-work c =
    let a = c.args in
    let Z = c.enter.ensures.tried.sized in
    let r = rw c.in_ok-entry.ensures.same at (c.in_ok-copy.ensures.number a.pool.now refl) in
    by-eq (a.from % 4096) (a.to % 4096)
    (λ e. record { inside = (equal_enters a.s a.pool.now Z a.source a.from a.object a.to a.n r e).inside })
    (λ e. record { inside = (bytes_enters a.s a.pool.now Z a.source a.from a.object a.to a.n r e).0.inside })

pub copy_span-requires-clause-room : goal.copy_span-requires-clause-room
copy_span-requires-clause-room c =
    let a = c.args in
    let Z = c.enter.ensures.tried.sized in
    let r = rw c.in_ok-entry.ensures.same at (c.in_ok-copy.ensures.number a.pool.now refl) in
    rw c.in_ok-copy.ensures.same (record { equal = equal_enters a.s a.pool.now Z a.source a.from a.object a.to a.n r; bytes = bytes_enters a.s a.pool.now Z a.source a.from a.object a.to a.n r })

pub copy_span-requires-clause-charted : goal.copy_span-requires-clause-charted
copy_span-requires-clause-charted c = let E = c.in_ok-entry.ensures.tried.enters in (entered_charted E, E.held)

pub returns : goal.returns
returns c =
    let a = c.args in
    let v = c.copy_span.new.work in
    let m : Closed v.store.now c.renew.new.s = search rules in
    let D : DidWith (copy a.source a.from a.object a.to a.n) a.s a.pool.now 0 done c.renew.new.s v.pool.now =
    handed _ _ _ _ _ _ _ _ m.0
    (copy_done a.s a.pool.now c.enter.ensures.tried.sized a.source a.from a.object a.to a.n (rw c.in_ok-entry.ensures.same at (c.in_ok-copy.ensures.number a.pool.now refl)) _ _ (rw c.in_ok-copy.ensures.same at c.copy_span.ensures.0) _ m.1) in
    search rules
