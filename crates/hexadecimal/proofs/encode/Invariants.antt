-- `hexadecimal::encode`: the digits so far are those of the first bytes; a turn adds two more (`encode_turn`).
use Rattle.std.proofs.Common.{◌≡◌, ◌*◌, length, take}
use Rattle.hexadecimal.specs.Hex.{digits_of}
use Rattle.hexadecimal.proofs.encode.Given as goal

abbrev pub invariant-loop-b : goal.invariant-loop-b
invariant-loop-b g l = record {
  room : length l.digits.items ≡ 2 * l.b-index;
  digits : l.digits.items ≡ digits_of (take l.b-index l.bytes);
}
