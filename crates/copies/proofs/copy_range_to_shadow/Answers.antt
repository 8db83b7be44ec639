-- `copies::copy_range_to_shadow` meets its contract.
use Rattle.std.proofs.Common.{◌≡◌, refl, Err, rules, ◌/◌, arith}
use Rattle.book.specs.Book.{shadow, done}
use Rattle.calls.specs.With.{with_decline, with_not_enter}
use Rattle.access.specs.Finish.{handed}
use Rattle.pages.specs.Any.{zeros}
use Rattle.copies.specs.Enters.{shadow_enters, shadow_done}
use Rattle.copies.proofs.copy_range_to_shadow.Goals as goal

pub returns-in_err-enter : goal.returns-in_err-enter
returns-in_err-enter c =
    let a = c.args in
    let e = c.in_err-enter in
    let q : c.from_residual.result ≡ Err e.field-0.0 = search rules in
    rw q (with_not_enter (shadow a.source a.from a.object a.to a.n) a.s a.pool.now done (λ j. refl) e.field-0.0 e.ensures.tried)

pub returns-in_err-shadow : goal.returns-in_err-shadow
returns-in_err-shadow c =
    let a = c.args in
    let e = c.in_err-shadow in
    let q : c.from_residual-in_err-shadow.result ≡ Err e.field-0.0 = search rules in
    rw q (with_decline (shadow a.source a.from a.object a.to a.n) a.s a.pool.now done (λ j. refl) e.field-0.0 (rw c.in_ok-enter.ensures.same at (e.ensures.number a.pool.now refl)))

pub invariant_of-shared : goal.invariant_of-shared
invariant_of-shared c =
    let a = c.args in
    let r = rw c.in_ok-enter.ensures.same at (c.in_ok-shadow.ensures.number a.pool.now refl) in
    let p : c.from_offset.result.0 ≡ a.from / 4096 = c.from_offset.ensures in
    let g : c.from_offset-2.result.0 ≡ a.to / 4096 = c.from_offset-2.ensures in
    let q = shadow_enters a.s a.pool.now c.enter.ensures.tried.sized a.source a.from a.object a.to a.n r in
    record { apart = q.1; within = (rw p q.2, rw g q.3) }

pub copy_range_to_object_tree-requires-clause-inside : goal.copy_range_to_object_tree-requires-clause-inside
copy_range_to_object_tree-requires-clause-inside c =
    let a = c.args in
    let r = rw c.in_ok-enter.ensures.same at (c.in_ok-shadow.ensures.number a.pool.now refl) in
    let p : c.from_offset.result.0 ≡ a.from / 4096 = c.from_offset.ensures in
    let g : c.from_offset-2.result.0 ≡ a.to / 4096 = c.from_offset-2.ensures in
    let q = shadow_enters a.s a.pool.now c.enter.ensures.tried.sized a.source a.from a.object a.to a.n r in
    q.0

pub copy_range_to_object_tree-requires-clause-room : goal.copy_range_to_object_tree-requires-clause-room
copy_range_to_object_tree-requires-clause-room c =
    let a = c.args in
    let r = rw c.in_ok-enter.ensures.same at (c.in_ok-shadow.ensures.number a.pool.now refl) in
    let p : c.from_offset.result.0 ≡ a.from / 4096 = c.from_offset.ensures in
    let g : c.from_offset-2.result.0 ≡ a.to / 4096 = c.from_offset-2.ensures in
    let q = shadow_enters a.s a.pool.now c.enter.ensures.tried.sized a.source a.from a.object a.to a.n r in
    rw p q.4

pub renew-requires : goal.renew-requires
renew-requires c =
    let a = c.args in
    let r = rw c.in_ok-enter.ensures.same at (c.in_ok-shadow.ensures.number a.pool.now refl) in
    let p : c.from_offset.result.0 ≡ a.from / 4096 = c.from_offset.ensures in
    let g : c.from_offset-2.result.0 ≡ a.to / 4096 = c.from_offset-2.ensures in
    let q = shadow_enters a.s a.pool.now c.enter.ensures.tried.sized a.source a.from a.object a.to a.n r in
    omega (arith, (c.copy_range_to_object_tree.ensures (zeros a.s) q.0).frames, q.0.few_frames)

pub returns : goal.returns
returns c =
    let a = c.args in
    let r = rw c.in_ok-enter.ensures.same at (c.in_ok-shadow.ensures.number a.pool.now refl) in
    let p : c.from_offset.result.0 ≡ a.from / 4096 = c.from_offset.ensures in
    let g : c.from_offset-2.result.0 ≡ a.to / 4096 = c.from_offset-2.ensures in
    let q = shadow_enters a.s a.pool.now c.enter.ensures.tried.sized a.source a.from a.object a.to a.n r in
    let m = c.renew.ensures in
    handed _ _ _ _ _ _ _ _ m.0 (shadow_done a.s a.pool.now c.enter.ensures.tried.sized a.source a.from a.object a.to a.n r _ (rw (p, g) at c.copy_range_to_object_tree.ensures) _ m.1)
