-- `SoundStore::lacking` meets its contract: rows 8 and 9, by the free frames and the free slots.
use Rattle.std.proofs.Common.{arith, le-ltb, lt-ltb, ◌+◌, ◌*◌}
use Rattle.store.specs.Iff.{sound_says}
use Rattle.refusals.specs.Refuse.{applies, passes, none_left}
use Rattle.refusals.specs.Needs.{lacking_number}
use Rattle.refusals.proofs.SoundStore.lacking.Goals as goal

pub overflow_mul-frames : goal.overflow_mul-frames
overflow_mul-frames c =
    let s = c.args.self.now in
    let S = sound_says s.store.now s.sound in
    record { fits = omega (arith, S.few_frames, c.free_frames.ensures.frames.1) }

pub overflow_add-self : goal.overflow_add-self
overflow_add-self c =
    let s = c.args.self.now in
    let S = sound_says s.store.now s.sound in
    record { fits = omega (arith, S.few_frames, S.few_ranges, c.free_frames.ensures.frames.1) }

pub overflow_add-self-2 : goal.overflow_add-self-2
overflow_add-self-2 c =
    let s = c.args.self.now in
    let S = sound_says s.store.now s.sound in
    record { fits = omega (arith, S.few_frames, S.few_ranges, c.free_frames.ensures.frames.1) }

pub returns-then-free_frames-frames : goal.returns-then-free_frames-frames
returns-then-free_frames-frames c =
    let a = c.args in
    let n = c.free_frames in
    lacking_number a.self.now.store.now n.ensures.sized (sound_says c.args.self.now.store.now c.args.self.now.sound) a.frames a.slots n.result 8 n.ensures.frames.0 (applies (lt-ltb n.result a.frames c.if-free_frames-frames.true))

pub returns-then-self-frames-gt512 : goal.returns-then-self-frames-gt512
returns-then-self-frames-gt512 c =
    let a = c.args in
    let n = c.free_frames in
    let t = lt-ltb 512 (a.self.now.store.now.count + (2 * a.frames + a.slots)) (let h = c.if-self-frames-gt512.true in omega arith) in
    lacking_number a.self.now.store.now n.ensures.sized (sound_says c.args.self.now.store.now c.args.self.now.sound) a.frames a.slots n.result 9 n.ensures.frames.0
    (passes (le-ltb n.result a.frames c.if-free_frames-frames.false) (applies t))

pub returns : goal.returns
returns c =
    let a = c.args in
    let n = c.free_frames in
    let t = le-ltb 512 (a.self.now.store.now.count + (2 * a.frames + a.slots)) (let h = c.if-self-frames-gt512.false in omega arith) in
    lacking_number a.self.now.store.now n.ensures.sized (sound_says c.args.self.now.store.now c.args.self.now.sound) a.frames a.slots n.result 0 n.ensures.frames.0
    (passes (le-ltb n.result a.frames c.if-free_frames-frames.false) (passes t none_left))
