-- The loop's invariant: the bits of the first `k` frames are made, and the others are clear.
use Rattle.freeing.specs.Words.{Word}
use Rattle.freeing.proofs.free_word.Given as goal

abbrev pub invariant-loop-k : goal.invariant-loop-k
invariant-loop-k l = Word l.k l.places l.word
