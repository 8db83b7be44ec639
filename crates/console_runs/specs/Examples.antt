-- Lines of inputs, and an output: theorems by computation, written by hand from document 01.
use Rattle.std.specs.Prelude.{◌≡◌, refl, List, [], ◌∷◌, ◌++◌, ℕ, codes}
use Rattle.console.specs.Lines.{feed}
use Rattle.console_runs.specs.Input.{lines_from, input_lines}
use Rattle.console_runs.specs.ConsoleRuns.{output}

abbrev two : List (List ℕ)
two = codes "0100" ∷ codes "0A" ∷ []

-- "Lines end in a line feed; the last one's may be missing."
each_ended : input_lines (codes "0100" ++ (feed ∷ (codes "0A" ++ (feed ∷ [])))) ≡ two
unfolding lines_from
each_ended = refl

last_missing : input_lines (codes "0100" ++ (feed ∷ codes "0A")) ≡ two
unfolding lines_from
last_missing = refl

-- no byte, no line; a line feed alone ends "An empty line"
no_line : input_lines [] ≡ []
unfolding lines_from
no_line = refl

empty_lines : input_lines (feed ∷ feed ∷ []) ≡ [] ∷ [] ∷ []
unfolding lines_from
empty_lines = refl

-- "It prints one line each"
line_each : output (codes "00" ∷ codes "FF" ∷ []) ≡ codes "00" ++ (feed ∷ (codes "FF" ++ (feed ∷ [])))
unfolding output
line_each = refl
