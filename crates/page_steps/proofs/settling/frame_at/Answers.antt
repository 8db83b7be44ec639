use Rattle.std.proofs.Common.{◌≡◌, true, false, ap, ◌∙◌, rules, tests}
use Rattle.std.proofs.lemmas.Iterator.{IsFirst-from_position, YieldsList-from_slice}
use Rattle.places.specs.Places.{frame_at, stands_at}
use Rattle.page_steps.proofs.First.{frame_told}
use Rattle.page_steps.proofs.settling.frame_at.Goals as goal

pub returns-clause-frame : goal.returns-clause-frame
returns-clause-frame c =
    let a = c.args in
    let ps = c.frame_places.result.now in
    frame_told a.backing a.index ps c.position.result
    (IsFirst-from_position _ _ _ (λ p. stands_at a.backing a.index p ≡ true) (λ p. stands_at a.backing a.index p ≡ false) c.position.ensures.ran
    (YieldsList-from_slice _ c.iter.ensures.rest) (λ x q k. search (rules, tests)) (λ x q k. search (rules, tests)))
    ∙ ap (frame_at a.backing a.index 0) c.frame_places.ensures.places
