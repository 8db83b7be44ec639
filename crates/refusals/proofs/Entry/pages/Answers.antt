-- `Entry::pages` meets its contract: pages can be looked up in a sound store.
use Rattle.store.specs.Iff.{sound_says}
use Rattle.lookup.specs.Charted.{sound_charted}
use Rattle.refusals.proofs.Entry.pages.Goals as goal

pub invariant_of-result : goal.invariant_of-result
invariant_of-result c =
    let e = c.args.self.now in
    record { charted = sound_charted e.sound.store.now e.charts.now c.lengths.ensures (sound_says e.sound.store.now e.sound.sound) e.framed }
