use Rattle.std.proofs.Common.{sym, ◌∙◌}
use Rattle.std.proofs.lemmas.Bool.{false≢true}
use Rattle.soundness.specs.Parts.{agreeing_number, placed_none, placed_rest, placed_some}
use Rattle.soundness.proofs.examine_places.Goals as goal
use Rattle.soundness.proofs.examine_places.Goals.{then-all_bits, else-all_bits}

pub all_seated-requires-clause-numbered : goal.all_seated-requires-clause-numbered
all_seated-requires-clause-numbered c = agreeing_number c.args.s.now c.requires.agreeing

pub returns-then-seat_all-clause-answer : goal.returns-then-seat_all-clause-answer
returns-then-seat_all-clause-answer c =
    let s = c.args.s.now in
    let t = c.if-seat_all.true in
    elim c.if-all_bits.branch [
      | then-all_bits w ↦ placed_rest s (sym c.all_bits.ensures ∙ w.if-all_bits.true) c.all_seated.result (sym w.seat_all.ensures.answer ∙ sym w.value-is ∙ t) c.all_seated.ensures
      | else-all_bits w ↦ absurd (false≢true (sym (w.value-is ∙ w.if-all_bits.false) ∙ t))
    ]

pub returns-else-seat_all-clause-answer : goal.returns-else-seat_all-clause-answer
returns-else-seat_all-clause-answer c =
    let s = c.args.s.now in
    let f = c.if-seat_all.false in
    elim c.if-all_bits.branch [
      | then-all_bits w ↦ f ∙ placed_some s (sym c.all_bits.ensures ∙ w.if-all_bits.true) (sym w.seat_all.ensures.answer ∙ sym w.value-is ∙ f)
      | else-all_bits w ↦ f ∙ placed_none s (sym c.all_bits.ensures ∙ w.if-all_bits.false)
    ]
