-- `access::write` meets its contract: where bytes are left, there is room for them.
use Rattle.std.specs.Prelude.{length}
use Rattle.std.proofs.Common.{◌≡◌, refl, Err, rules, arith}
use Rattle.book.specs.Book.{write, done}
use Rattle.calls.specs.With.{DidWith, with_decline, with_not_enter}
use Rattle.writes.specs.Going.{going_end, rest_room, rest_written}
use Rattle.freeing.specs.Closed.{Closed}
use Rattle.access.specs.Enters.{write_enters}
use Rattle.access.specs.Finish.{write_done, write_stays, handed}
use Rattle.access.proofs.write.Goals as goal

pub returns-in_err-entry : goal.returns-in_err-entry
returns-in_err-entry c =
    let a = c.args in
    let e = c.in_err-entry in
    let q : c.from_residual.result ≡ Err e.field-0.0 = search rules in
    rw q (with_not_enter (write a.object a.offset a.src.now) a.s a.pool.now done (λ j. refl) e.field-0.0 e.ensures.tried)

pub returns-in_err-write : goal.returns-in_err-write
returns-in_err-write c =
    let a = c.args in
    let e = c.in_err-write in
    let q : c.from_residual-in_err-write.result ≡ Err e.field-0.0 = search rules in
    rw q (with_decline (write a.object a.offset a.src.now) a.s a.pool.now done (λ j. refl) e.field-0.0 (rw c.in_ok-entry.ensures.same at (e.ensures a.pool.now a.src.now refl refl)))

pub overwrite_pages-done-requires : goal.overwrite_pages-done-requires
overwrite_pages-done-requires c =
    let a = c.args in
    let same = c.in_ok-entry.ensures.same in
    rw (c.states.ensures.store, same) (write_enters a.s a.pool.now c.enter.ensures.tried.sized a.object a.offset a.src.now (rw same at (c.in_ok-write.ensures a.pool.now a.src.now refl refl)))

pub overflow_add-offset : goal.overflow_add-offset
overflow_add-offset c =
    let a = c.args in
    let R = write_enters a.s a.pool.now c.enter.ensures.tried.sized a.object a.offset a.src.now (rw c.in_ok-entry.ensures.same at (c.in_ok-write.ensures a.pool.now a.src.now refl refl)) in
    record { fits = omega (arith, R.ends, c.overwrite_pages-done.ensures.few) }

pub write_pages-requires : goal.write_pages-requires
write_pages-requires c =
    let a = c.args in
    let m = c.overwrite_pages-done.result in
    let R = write_enters a.s a.pool.now c.enter.ensures.tried.sized a.object a.offset a.src.now (rw c.in_ok-entry.ensures.same at (c.in_ok-write.ensures a.pool.now a.src.now refl refl)) in
    rest_room a.s a.pool.now a.object a.offset a.src.now m _ (rw (c.states.ensures.store, c.in_ok-entry.ensures.same) at c.overwrite_pages-done.ensures) (omega arith) R.ends

pub returns-then-done-src : goal.returns-then-done-src
returns-then-done-src c =
    let a = c.args in
    let m = c.overwrite_pages-done.result in
    let v = c.write_pages.new.work in
    let G = rw (c.states.ensures.store, c.in_ok-entry.ensures.same) at c.overwrite_pages-done.ensures in
    let p : Closed v.store.now c.renew.new.s = search rules in
    let D : DidWith (write a.object a.offset a.src.now) a.s a.pool.now 0 done c.renew.new.s v.pool.now =
    handed _ _ _ _ _ _ _ _ p.0
    (write_done a.s a.pool.now c.enter.ensures.tried.sized a.object a.offset a.src.now (rw c.in_ok-entry.ensures.same at (c.in_ok-write.ensures a.pool.now a.src.now refl refl)) _ _
    (rest_written a.s a.pool.now a.object a.offset a.src.now m _ G (omega arith) _ _ c.write_pages.ensures.0) _ p.1) in
    search rules

pub returns-else-done-src : goal.returns-else-done-src
returns-else-done-src c =
    let a = c.args in
    let m = c.overwrite_pages-done.result in
    let G = rw (c.states.ensures.store, c.in_ok-entry.ensures.same) at c.overwrite_pages-done.ensures in
    let q : m ≡ length a.src.now = omega (arith, G.few) in
    write_stays a.s a.pool.now c.enter.ensures.tried.sized a.object a.offset a.src.now (rw c.in_ok-entry.ensures.same at (c.in_ok-write.ensures a.pool.now a.src.now refl refl)) _
    (going_end a.s a.pool.now a.object a.offset a.src.now a.s _ (rw q at G))
