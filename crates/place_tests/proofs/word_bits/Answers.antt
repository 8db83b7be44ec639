use Rattle.std.proofs.Common.{rules, refl, Bool, List, ◌≡◌, ◌≤◌, ◌*◌, ◌+◌, ◌-◌, not, drop, get_or, get_or-drop, length, length-drop, subst, take, sym, arith}
use Rattle.std.specs.List.{list_all}
use Rattle.std.proofs.lemmas.Fn.{fold_over, fronts, slice_gives}
use Rattle.places.specs.declared.Place.{Place}
use Rattle.places.specs.Places.{is_vacant, nowhere}
use Rattle.lists.specs.Every.{below_fails, below_next}
use Rattle.place_tests.specs.Bits.{all_passed, passed_more, part_place, word_kept?, word_used, word_free, zero_place?}
use Rattle.place_tests.proofs.word_bits.Goals as goal

pub returns-then-word-eq0 : goal.returns-then-word-eq0
returns-then-word-eq0 c =
    let s = c.args.s.now in
    let a = c.args.i * 64 in
    let l = drop a s.places in
    let m : length s.places ≡ 1024 = search rules in
    let n : a + 64 - a ≡ 64 = omega arith in
    let h : a + 64 ≤ s.frames = c.if-first-s.true in
    let P : Place → Bool = λ p. not (is_vacant p) in
    let y : c.fold.result ≡ list_all P (take (a + 64 - a) l) = subst (λ (ys : List Place). c.fold.result ≡ list_all P ys) c.iter.ensures.rest
    (fold_over fronts (λ y. y.now) _ (λ ys b. b ≡ list_all P ys) _ (λ ys a x b f' j k. let more = passed_more P ys x.now in search rules)
    _ _ _ _ (slice_gives c.iter.result) refl c.fold.ensures.ran) in
    rw (y, n, c.if-word-eq0.true)
    (all_passed P nowhere l (word_kept? s.frames s.places 0 a) 64 (simp length-drop (omega (arith, c.requires)))
    (λ k u. rw (get_or-drop a s.places k nowhere) (word_used s.frames s.places a k (omega (arith, h, u)))))

pub returns-then-word : goal.returns-then-word
returns-then-word c =
    let s = c.args.s.now in
    let a = c.args.i * 64 in
    let l = drop a s.places in
    let m : length s.places ≡ 1024 = search rules in
    let n : a + 64 - a ≡ 64 = omega arith in
    let h : a + 64 ≤ s.frames = c.if-first-s.true in
    let y : c.fold-then-word.result ≡ list_all zero_place? (take (a + 64 - a) l) = subst (λ (ys : List Place). c.fold-then-word.result ≡ list_all zero_place? ys) c.iter-then-word.ensures.rest
    (fold_over fronts (λ y. y.now) _ (λ ys b. b ≡ list_all zero_place? ys) _ (λ ys a x b f' j k. let more = passed_more zero_place? ys x.now in search rules)
    _ _ _ _ (slice_gives c.iter-then-word.result) refl c.fold-then-word.ensures.ran) in
    rw (y, n, c.if-word.true)
    (all_passed zero_place? nowhere l (word_kept? s.frames s.places 18446744073709551615 a) 64 (simp length-drop (omega (arith, c.requires)))
    (λ k u. rw (get_or-drop a s.places k nowhere) (word_free s.frames s.places a k u (omega (arith, h, u)))))

pub returns-then-not-bit : goal.returns-then-not-bit
returns-then-not-bit c =
    let s = c.args.s.now in
    let a = c.args.i * 64 in
    let p = part_place s.places a c.loop-k.k c.loop-k-test.true in
    below_fails (word_kept? s.frames s.places (get_or s.free c.args.i 0) a) 64 c.loop-k.k p.0 (sym (rw p.1 at c.if-not-bit.ensures))

pub loop-k-preserved : goal.loop-k-preserved
loop-k-preserved c =
    let s = c.args.s.now in
    let a = c.args.i * 64 in
    let p = part_place s.places a c.loop-k.k c.loop-k-test.true in
    below_next (word_kept? s.frames s.places (get_or s.free c.args.i 0) a) c.loop-k.k c.loop-k.invariant (sym (rw p.1 at c.if-not-bit.ensures))
