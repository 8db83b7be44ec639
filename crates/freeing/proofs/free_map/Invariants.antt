-- The loop's invariant: the words of the parts so far are made, and what is left is what comes behind those.
use Rattle.std.proofs.Common.{◌≡◌, ◌*◌, drop}
use Rattle.std.specs.Iterator.Adapters.{enumerate_count, enumerate_source}
use Rattle.std.specs.Slice.Iter.{chunks_rest, chunks_size}
use Rattle.freeing.specs.Words.{Built}
use Rattle.freeing.proofs.free_map.Given as goal

abbrev pub invariant-loop-i : goal.invariant-loop-i
invariant-loop-i l = record {
  size : chunks_size (enumerate_source l.i-iterator) ≡ 64;
  left : chunks_rest (enumerate_source l.i-iterator) ≡ drop (enumerate_count l.i-iterator * 64) l.places;
  built : Built l.places (enumerate_count l.i-iterator) l.words;
}
