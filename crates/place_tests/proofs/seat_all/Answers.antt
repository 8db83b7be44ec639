use Rattle.place_tests.specs.Placed.{seated_none}
use Rattle.place_tests.proofs.seat_all.Goals as goal

pub seat_words-requires-clause-seated : goal.seat_words-requires-clause-seated
seat_words-requires-clause-seated c = seated_none c.args.s.now c.args.chains.now c.requires.empty.0 c.requires.empty.1
