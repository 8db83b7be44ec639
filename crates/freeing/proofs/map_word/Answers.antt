use Rattle.freeing.specs.Words.{word_empty, word_full}
use Rattle.freeing.proofs.map_word.Goals as goal

pub returns-in-0 : goal.returns-in-0
returns-in-0 c = word_empty c.args.places.now c.vacant_frames.result c.vacant_frames.ensures c.in-0.is

pub returns-in-64 : goal.returns-in-64
returns-in-64 c = word_full c.args.places.now c.vacant_frames.result c.requires c.vacant_frames.ensures c.in-64.is
