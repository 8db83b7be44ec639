-- `pool::show_ref`: each return is a case of what is shown, and of where it begins.
use Rattle.std.proofs.Common.{arith}
use Rattle.pool.specs.Frames.{begins_at, begins_there, shown_absent, shown_code, shown_frame, shown_outside}
use Rattle.pool.proofs.show_ref.Goals.{in_default-via-in-Some+else-f-pool, in_default-via-in_default}
use Rattle.pool.proofs.show_ref.Goals as goal

pub returns-in-Some : goal.returns-in-Some
returns-in-Some c =
    let a = c.args in
    let f = c.in-Some.f in
    rw c.in-Some.is
    (record {
      result_value = shown_code 4096 a.pool.now f _ (omega arith) (omega arith);
      ref_ptr_value = begins_at a.pool.ref_ptr _ _ (shown_frame 4096 a.pool.now f (omega arith)).1;
    })

pub returns-in_default : goal.returns-in_default
returns-in_default c =
    let a = c.args in
    elim c.in_default.branch [
      | in_default-via-in-Some+else-f-pool w ↦
          let h = shown_outside 4096 a.pool.now w.in-Some.f (omega arith) in
          rw w.in-Some.is (record { result_value = h.0; ref_ptr_value = begins_there a.pool.ref_ptr _ h.1 })
      | in_default-via-in_default w ↦ rw w.in_default.is (let h = shown_absent 4096 a.pool.now in record { result_value = h.0; ref_ptr_value = begins_there a.pool.ref_ptr _ h.1 })
    ]
