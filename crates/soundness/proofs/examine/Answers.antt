use Rattle.std.proofs.Common.{rules, ◌≡◌, true, false, ◌&&◌, leb, refl, sym, ◌∙◌}
use Rattle.soundness.specs.Parts.{place_tests, placed_told, range_tests, sound_parts}
use Rattle.soundness.proofs.examine.Goals as goal

pub returns-then-not-contains-clause-answer : goal.returns-then-not-contains-clause-answer
returns-then-not-contains-clause-answer c =
    let s = c.args.s.now in
    let e : false ≡ (leb 1 s.frames && leb s.frames 1024) = search rules in
    sound_parts s false (leb s.count 512 && range_tests s) (place_tests s) e refl refl

pub returns-then-examine_ranges-clause-answer : goal.returns-then-examine_ranges-clause-answer
returns-then-examine_ranges-clause-answer c =
    let s = c.args.s.now in
    let e : true ≡ (leb 1 s.frames && leb s.frames 1024) = search rules in
    let r = c.examine_ranges.ensures in
    let t = c.if-examine_ranges.true in
    sound_parts s true true c.examine_places.result e (sym t ∙ r.answer) (c.examine_places.ensures.answer ∙ placed_told s (r.within t))

pub returns-else-examine_ranges-clause-answer : goal.returns-else-examine_ranges-clause-answer
returns-else-examine_ranges-clause-answer c =
    let s = c.args.s.now in
    let e : true ≡ (leb 1 s.frames && leb s.frames 1024) = search rules in
    let f = c.if-examine_ranges.false in
    f ∙ sound_parts s true false (place_tests s) e (sym f ∙ c.examine_ranges.ensures.answer) refl
