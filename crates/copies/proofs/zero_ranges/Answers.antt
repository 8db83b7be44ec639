-- `copies::zero_ranges` meets its contract.
use Rattle.std.proofs.Common.{◌≡◌, refl, Err, rules}
use Rattle.book.specs.Book.{zero_out, done}
use Rattle.calls.specs.With.{DidWith, with_decline, with_not_enter}
use Rattle.freeing.specs.Closed.{Closed}
use Rattle.access.specs.Finish.{handed}
use Rattle.copies.specs.Enters.{zero_enters, zero_done}
use Rattle.copies.proofs.zero_ranges.Goals as goal

pub returns-in_err-entry : goal.returns-in_err-entry
returns-in_err-entry c =
    let a = c.args in
    let e = c.in_err-entry in
    let q : c.from_residual.result ≡ Err e.field-0.0 = search rules in
    rw q (with_not_enter (zero_out a.object a.offset a.n) a.s a.pool.now done (λ j. refl) e.field-0.0 e.ensures.tried)

pub returns-in_err-zero : goal.returns-in_err-zero
returns-in_err-zero c =
    let a = c.args in
    let e = c.in_err-zero in
    let q : c.from_residual-in_err-zero.result ≡ Err e.field-0.0 = search rules in
    rw q (with_decline (zero_out a.object a.offset a.n) a.s a.pool.now done (λ j. refl) e.field-0.0 (rw c.in_ok-entry.ensures.same at (e.ensures.number a.pool.now refl)))

pub zero_span-requires : goal.zero_span-requires
zero_span-requires c =
    let a = c.args in
    zero_enters a.s a.pool.now c.enter.ensures.tried.sized a.object a.offset a.n (rw c.in_ok-entry.ensures.same at (c.in_ok-zero.ensures.number a.pool.now refl))

pub invariant_of-work : goal.invariant_of-work
invariant_of-work c =
    let a = c.args in
    let E = zero_enters a.s a.pool.now c.enter.ensures.tried.sized a.object a.offset a.n (rw c.in_ok-entry.ensures.same at (c.in_ok-zero.ensures.number a.pool.now refl)) in
    record { inside = E.inside }

pub returns : goal.returns
returns c =
    let a = c.args in
    let v = c.zero_span.new.work in
    let m : Closed v.store.now c.renew.new.s = search rules in
    let D : DidWith (zero_out a.object a.offset a.n) a.s a.pool.now 0 done c.renew.new.s v.pool.now =
    handed _ _ _ _ _ _ _ _ m.0 (zero_done a.s a.pool.now c.enter.ensures.tried.sized a.object a.offset a.n (rw c.in_ok-entry.ensures.same at (c.in_ok-zero.ensures.number a.pool.now refl)) _ _ c.zero_span.ensures.0 _ m.1) in
    search rules
