use Rattle.std.proofs.Common.{◌≡◌, ℕ, List, ◌++◌, ◌-◌, ◌*◌, ◌<◌, ap, sym, ◌∙◌, min, drop, length, length-drop, arith}
use Rattle.std.specs.Iterator.Adapters.{enumerate_count, enumerate_source}
use Rattle.std.specs.Slice.Iter.{chunks_rest}
use Rattle.places.specs.declared.Place.{Place}
use Rattle.freeing.specs.Words.{built_done, built_next, left_next}
use Rattle.freeing.proofs.free_map.Goals as goal

pub loop-i-preserved : goal.loop-i-preserved
loop-i-preserved c =
    let l = c.loop-i in
    let I = l.invariant in
    let s = c.in-Some.ensures.steps in
    let ps : List Place = c.args.places.now in
    let part : List Place = c.in-Some.part.now in
    let i : ℕ = enumerate_count l.i-iterator in
    let rest : List Place = chunks_rest (enumerate_source l.i-iterator) in
    let more : List Place = chunks_rest (enumerate_source c.next.new.self) in
    let e : drop (i * 64) ps ≡ part ++ more = sym I.left ∙ s.0.1.0 in
    let m : length part ≡ min 64 (length (drop (i * 64) ps)) =
    s.0.1.1 ∙ ap (λ k. min k (length rest)) I.size ∙ ap (λ (r : List Place). min 64 (length r)) I.left in
    let n : length rest ≡ length ps - i * 64 = ap (λ (r : List Place). length r) I.left ∙ length-drop (i * 64) ps in
    let h : i < 16 = omega (arith, s.0.1.2, n, c.requires) in
    record {
      size = s.0.0 ∙ I.size;
      left = rw s.2 (left_next ps i c.map_word.result l.words part more e m);
      built = rw (s.2, s.1) (built_next ps i c.map_word.result l.words part more e m h I.built c.map_word.ensures);
    }

pub returns : goal.returns
returns c =
    let l = c.loop-i in
    let I = l.invariant in
    let ps : List Place = c.args.places.now in
    let i : ℕ = enumerate_count l.i-iterator in
    let rest : List Place = chunks_rest (enumerate_source l.i-iterator) in
    let n : length rest ≡ length ps - i * 64 = ap (λ (r : List Place). length r) I.left ∙ length-drop (i * 64) ps in
    let z : length rest ≡ 0 = c.in-None.ensures.steps.0.1.0 in
    built_done ps i l.words I.built (omega arith)
