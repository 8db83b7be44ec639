use Rattle.std.proofs.Common.{rules, ◌≡◌, ◌+◌, ◌*◌, ◌≤◌, ◌<◌, sym, ◌∙◌, get_or, get_or-take, length, length-take-le, min, take, arith}
use Rattle.std.proofs.lemmas.List.{length-take}
use Rattle.window_search.specs.Windows.{chains_in_use}
use Rattle.place_tests.specs.Placed.{free_word, placed_less, seated_free}
use Rattle.place_tests.proofs.seat_words.Goals as goal

pub invariant_of-windows : goal.invariant_of-windows
invariant_of-windows c =
    let s = c.args.s.now in
    let l : s.count ≤ length s.ranges = search rules in
    record {
      few = let q : length (take s.count s.ranges) ≡ s.count = length-take-le s.count s.ranges l in omega (arith, c.requires.few);
      chained = chains_in_use s.ranges s.count c.args.ranges.now l c.requires.ranges;
    }

pub loop-i-preserved-then-word : goal.loop-i-preserved-then-word
loop-i-preserved-then-word c =
    let s = c.args.s.now in
    let l = c.loop-i in
    let m : length s.free ≡ 16 = search rules in
    let b = length-take c.div_ceil.result s.free in
    let h : l.i < c.div_ceil.result = omega (arith, b, c.loop-i-test.true) in
    let k : l.i < 16 = omega (arith, b, m, c.loop-i-test.true) in
    let w : get_or s.free l.i 0 ≡ 18446744073709551615 = sym (get_or-take c.div_ceil.result s.free l.i 0 h) ∙ c.if-word.true in
    let p : (l.i + 1) * 64 ≡ l.i * 64 + 64 = omega arith in
    record {
      seated = rw p
          (seated_free s (min s.frames (l.i * 64)) (min s.frames (l.i * 64 + 64)) (omega arith)
          (λ g b h. free_word s.frames s.places s.free l.i k w c.requires.kept g (omega arith) h)
          l.chains l.invariant.seated);
      ranges = l.invariant.ranges;
    }

pub returns-then-not-branch : goal.returns-then-not-branch
returns-then-not-branch c =
    let s = c.args.s.now in
    placed_less s c.min-end.result s.frames _ (omega (arith, c.min-end.ensures)) (search rules)
