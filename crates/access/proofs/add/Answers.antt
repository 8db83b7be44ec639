-- `access::add` meets its contract.
use Rattle.std.proofs.Common.{◌≡◌, refl, Err, rules}
use Rattle.book.specs.Book.{add, added}
use Rattle.calls.specs.With.{DidWith, with_decline, with_not_enter}
use Rattle.freeing.specs.Closed.{Closed}
use Rattle.access.specs.Enters.{add_enters}
use Rattle.access.specs.Finish.{add_done, handed}
use Rattle.access.proofs.add.Goals as goal

pub returns-in_err-enter : goal.returns-in_err-enter
returns-in_err-enter c =
    let a = c.args in
    let e = c.in_err-enter in
    let q : c.from_residual.result ≡ Err e.field-0.0 = search rules in
    rw q (with_not_enter (add a.object a.page.0) a.s a.pool.now (added 0) (λ j. refl) e.field-0.0 e.ensures.tried)

pub returns-in_err-add : goal.returns-in_err-add
returns-in_err-add c =
    let a = c.args in
    let e = c.in_err-add in
    let q : c.from_residual-in_err-add.result ≡ Err e.field-0.0 = search rules in
    rw q (with_decline (add a.object a.page.0) a.s a.pool.now (added 0) (λ j. refl) e.field-0.0 (rw c.in_ok-enter.ensures.same at (e.ensures a.pool.now refl)))

pub invariant_of-add_page : goal.invariant_of-add_page
invariant_of-add_page c =
    let a = c.args in
    let E = add_enters a.s a.pool.now c.enter.ensures.tried.sized a.object a.page.0 (rw c.in_ok-enter.ensures.same at (c.in_ok-add.ensures a.pool.now refl)) in
    record { in_object = E.1 }

pub invariant_of-work : goal.invariant_of-work
invariant_of-work c =
    let a = c.args in
    let E = add_enters a.s a.pool.now c.enter.ensures.tried.sized a.object a.page.0 (rw c.in_ok-enter.ensures.same at (c.in_ok-add.ensures a.pool.now refl)) in
    record { inside = E.0 }

pub add_page-frame-requires : goal.add_page-frame-requires
add_page-frame-requires c =
    let a = c.args in
    let E = add_enters a.s a.pool.now c.enter.ensures.tried.sized a.object a.page.0 (rw c.in_ok-enter.ensures.same at (c.in_ok-add.ensures a.pool.now refl)) in
    (E.2, E.3)

pub returns : goal.returns
returns c =
    let a = c.args in
    let S = c.add_page-frame.ensures in
    let v = c.add_page-frame.new.self in
    let m : Closed v.store.now c.renew.new.s = search rules in
    let D : DidWith (add a.object a.page.0) a.s a.pool.now 0 (added c.add_page-frame.result) c.renew.new.s v.pool.now =
    handed _ _ _ _ _ _ _ _ m.0 (add_done a.s a.pool.now c.enter.ensures.tried.sized a.object a.page.0 (rw c.in_ok-enter.ensures.same at (c.in_ok-add.ensures a.pool.now refl)) _ _ _ S.0.0 S.1 _ m.1) in
    search rules
