-- `hexadecimal::value`: the library's digit is the definition's (`value_law`).
use Rattle.std.proofs.Common.{rules}
use Rattle.hexadecimal.specs.Loops.{value_law}
use Rattle.hexadecimal.proofs.value.Goals as goal

pub returns-clause-value : goal.returns-clause-value
returns-clause-value c = value_law _ _ _ _ _ c.from.ensures c.to_digit.ensures.value c.map.ensures.cases (λ x y p. search rules)
