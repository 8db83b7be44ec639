-- `SoundStore::opening` meets its contract: the rows that apply, in their order; row 1 does not.
use Rattle.std.proofs.Common.{ap, not, ◌*◌, arith, eq-eqb, ne_eqb}
use Rattle.store.specs.Iff.{sound_says}
use Rattle.refusals.specs.Refuse.{decides, applies, passes, known, row_one}
use Rattle.refusals.proofs.SoundStore.opening.Goals as goal

pub overflow_mul-self : goal.overflow_mul-self
overflow_mul-self c =
    let s = c.args.self.now in
    let S = sound_says s.store.now s.sound in
    record { fits = omega (arith, S.few_frames) }

pub returns-then-pool-self-clause-number : goal.returns-then-pool-self-clause-number
returns-then-pool-self-clause-number c =
    let s = c.args.self.now.store.now in
    decides _ _ (passes (row_one s (sound_says c.args.self.now.store.now c.args.self.now.sound)) (applies (ap not (ne_eqb c.args.pool (s.frames * 4096) c.if-pool-self.true))))

pub returns-clause-number : goal.returns-clause-number
returns-clause-number c =
    let s = c.args.self.now.store.now in
    decides _ _ (passes (row_one s (sound_says c.args.self.now.store.now c.args.self.now.sound)) (passes (ap not (eq-eqb c.args.pool (s.frames * 4096) c.if-pool-self.false)) (known c.named.ensures)))
