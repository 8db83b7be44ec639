-- `SoundStore::free_frames` meets its contract: the map's bits are the book's free frames.
use Rattle.store.specs.Iff.{sound_says}
use Rattle.refusals.specs.Needs.{spare_count, spare_few}
use Rattle.refusals.proofs.SoundStore.free_frames.Goals as goal

pub returns-clause-frames : goal.returns-clause-frames
returns-clause-frames c =
    let s = c.args.self.now.store.now in
    let z = c.lengths.ensures in
    let n = c.free_count.ensures z.free in
    (spare_count s z (sound_says c.args.self.now.store.now c.args.self.now.sound) c.free_count.result n, spare_few s z (sound_says c.args.self.now.store.now c.args.self.now.sound) c.free_count.result n)
