-- `SoundStore::look_up` meets its contract: the rows that apply, in their order; row 1 does not.
use Rattle.std.proofs.Common.{◌≡◌, Err, rules, arith}
use Rattle.store.specs.Iff.{sound_says}
use Rattle.refusals.specs.Refuse.{no_name, look_number, known, passes, row_one, row_passes, row_refuses}
use Rattle.refusals.proofs.SoundStore.look_up.Goals as goal

pub returns-in_err-named : goal.returns-in_err-named
returns-in_err-named c =
    let s = c.args.self.now.store.now in
    let e = c.in_err-named in
    let q : c.from_residual.result ≡ Err e.field-0.0 = search rules in
    rw q (look_number s _ c.args.object c.args.page.0 (passes (row_one s (sound_says c.args.self.now.store.now c.args.self.now.sound)) (row_refuses (no_name s c.args.object) 3 e.field-0.0 e.ensures)))

pub returns : goal.returns
returns c =
    let s = c.args.self.now.store.now in
    look_number s _ c.args.object c.args.page.0
    (passes (row_one s (sound_says c.args.self.now.store.now c.args.self.now.sound)) (row_passes (no_name s c.args.object) 3 (omega arith) c.in_ok-named.ensures (known c.in_object.ensures)))
