-- `SoundStore::drop_object` meets its contract: row 3 alone may apply.
use Rattle.store.specs.Iff.{sound_says}
use Rattle.refusals.specs.Refuse.{drop_number, known, passes, row_one}
use Rattle.refusals.proofs.SoundStore.drop_object.Goals as goal

pub returns : goal.returns
returns c = drop_number c.args.self.now.store.now _ c.args.object (passes (row_one c.args.self.now.store.now (sound_says c.args.self.now.store.now c.args.self.now.sound)) (known c.named.ensures))
