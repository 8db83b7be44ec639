-- The bytes found, before those of the digits that are left, are the line's.
use Rattle.std.proofs.Common.{◌≡◌, ◌+◌, ◌*◌, length}
use Rattle.std.specs.Slice.Iter.{chunks_rest, chunks_size}
use Rattle.hexadecimal.specs.Hex.{bytes_of}
use Rattle.hexadecimal.specs.Loops.{behind}
use Rattle.hexadecimal.proofs.decode.Given as goal

abbrev pub invariant-loop-pair : goal.invariant-loop-pair
invariant-loop-pair l = record {
  two : chunks_size l.pair-iterator ≡ 2;
  room : 2 * length l.bytes.items + length (chunks_rest l.pair-iterator) ≡ length l.line;
  found : behind l.bytes.items (bytes_of (chunks_rest l.pair-iterator)) ≡ bytes_of l.line;
}
