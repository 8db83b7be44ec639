-- The first `k` frames of the word pass.
use Rattle.std.proofs.Common.{◌≡◌, true}
use Rattle.lists.specs.Every.{all_below}
use Rattle.place_tests.specs.Bits.{word_kept?}
use Rattle.place_tests.proofs.word_bits.Given as goal

abbrev pub invariant-loop-k : goal.invariant-loop-k
invariant-loop-k l = all_below (word_kept? l.s.frames l.s.places l.word l.first) l.k ≡ true
