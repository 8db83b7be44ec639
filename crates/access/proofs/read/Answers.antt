-- `access::read` meets its contract.
use Rattle.std.specs.Prelude.{length}
use Rattle.std.proofs.Common.{◌≡◌, refl, Err, rules}
use Rattle.book.specs.Book.{read, bytes}
use Rattle.calls.specs.With.{with_decline, with_not_enter}
use Rattle.access.specs.Enters.{read_enters}
use Rattle.access.specs.Finish.{read_done}
use Rattle.access.proofs.read.Goals as goal

pub returns-in_err-entry-clause-did : goal.returns-in_err-entry-clause-did
returns-in_err-entry-clause-did c =
    let a = c.args in
    let e = c.in_err-entry in
    let q : c.from_residual.result ≡ Err e.field-0.0 = search rules in
    rw q (with_not_enter (read a.object a.offset (length a.buf.now)) a.s a.pool.now (bytes a.buf.now) (λ j. refl) e.field-0.0 e.ensures.tried)

pub returns-in_err-read-clause-did : goal.returns-in_err-read-clause-did
returns-in_err-read-clause-did c =
    let a = c.args in
    let e = c.in_err-read in
    let q : c.from_residual-in_err-read.result ≡ Err e.field-0.0 = search rules in
    rw q (with_decline (read a.object a.offset (length a.buf.now)) a.s a.pool.now (bytes a.buf.now) (λ j. refl) e.field-0.0 (rw c.in_ok-entry.ensures.same at (e.ensures a.pool.now refl)))

pub read_pages-requires-clause-pool : goal.read_pages-requires-clause-pool
read_pages-requires-clause-pool c =
    let a = c.args in
    let same = c.in_ok-entry.ensures.same in
    let R = read_enters a.s a.pool.now c.enter.ensures.tried.sized a.object a.offset (length a.buf.now) (rw same at (c.in_ok-read.ensures a.pool.now refl)) in
    rw (c.pages.ensures.store, same) R.0.3

pub read_pages-requires-clause-buf_bound : goal.read_pages-requires-clause-buf_bound
read_pages-requires-clause-buf_bound c =
    let a = c.args in
    (read_enters a.s a.pool.now c.enter.ensures.tried.sized a.object a.offset (length a.buf.now) (rw c.in_ok-entry.ensures.same at (c.in_ok-read.ensures a.pool.now refl))).1

pub returns-clause-did : goal.returns-clause-did
returns-clause-did c =
    let a = c.args in
    read_done a.s a.pool.now c.enter.ensures.tried.sized a.object a.offset (length a.buf.now) (rw c.in_ok-entry.ensures.same at (c.in_ok-read.ensures a.pool.now refl)) _ (rw (c.pages.ensures.store, c.in_ok-entry.ensures.same) at c.read_pages.ensures)
