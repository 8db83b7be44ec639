-- The lines of an input, part after part.
use Rattle.std.specs.Prelude.{◌≡◌, List, ◌++◌, map, ℕ}
use Rattle.std.proofs.Common.{ap, ap₂, sym, ◌∙◌, append_assoc}
use Rattle.console.specs.Lines.{cut, ended, underway, last, cut_cut, ended_same, underway_same, ended_append, underway_append}
use Rattle.console_runs.specs.Input.{lines_from, lines_cut}

-- after a part c, of whose last line g is held, what comes goes on with g
pub lines_part : (h c g d : List ℕ) → underway h c ≡ cut g → map cut (lines_from h (c ++ d)) ≡ ended h c ++ map cut (lines_from g d)
lines_part h c g d e =
    let p : ended (underway h c) d ≡ ended g d = ap (λ l. ended l d) e ∙ ended_same (cut g) g d (cut_cut 513 g) in
    let q : underway (underway h c) d ≡ underway g d = ap (λ l. underway l d) e ∙ underway_same (cut g) g d (cut_cut 513 g) in
    lines_cut h (c ++ d)
    ∙ ap₂ (λ l w. l ++ last w) (ended_append h c d) (underway_append h c d)
    ∙ append_assoc (ended h c) (ended (underway h c) d) (last (underway (underway h c) d))
    ∙ ap₂ (λ l w. ended h c ++ (l ++ last w)) p q
    ∙ ap (λ l. ended h c ++ l) (sym (lines_cut g d))
