-- The table "Why a call was turned down": its numbers and its words.
use Rattle.std.specs.Prelude.{ℕ, ◌<◌, List, Result, Ok, Err, codes}
use Rattle.std.proofs.Common.{arith}
use Rattle.refusals.specs.declared.Refusal.{Refusal}
use Rattle.refusals.specs.declared.Refusal.TheVariants.{Spoiled, Pool, NoObject, Taken, Same, PastEnd, NotWhole, NoFrame, NoSlot}

-- "No."
abbrev pub number : Refusal → ℕ
number Spoiled = 1
number Pool = 2
number NoObject = 3
number Taken = 4
number Same = 5
number PastEnd = 6
number NotWhole = 7
number NoFrame = 8
number NoSlot = 9

pub number_positive : (e : Refusal) → 0 < number e
number_positive Spoiled = omega arith
number_positive Pool = omega arith
number_positive NoObject = omega arith
number_positive Taken = omega arith
number_positive Same = omega arith
number_positive PastEnd = omega arith
number_positive NotWhole = omega arith
number_positive NoFrame = omega arith
number_positive NoSlot = omega arith

-- "Word"
abbrev pub word : Refusal → List ℕ
word Spoiled = codes "spoiled"
word Pool = codes "pool"
word NoObject = codes "no object"
word Taken = codes "taken"
word Same = codes "same"
word PastEnd = codes "past end"
word NotWhole = codes "not whole"
word NoFrame = codes "no frame"
word NoSlot = codes "no slot"

-- the number of a call's answer: 0 where it is done
abbrev pub number_of : {T : Type 0} → Result T Refusal → ℕ
number_of (Ok x) = 0
number_of (Err e) = number e
