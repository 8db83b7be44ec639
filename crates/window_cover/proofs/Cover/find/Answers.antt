use Rattle.std.proofs.Common.{◌≡◌, ap, length, sym, ◌∙◌, arith, rules}
use Rattle.window_cover.specs.Intervals.{hit_shown, missed_next, missed_shown, size_count, small_size}
use Rattle.window_cover.proofs.Cover.find.Goals as goal

pub overflow_shr-place : goal.overflow_shr-place
overflow_shr-place c =
    let k = small_size c.args.self.now c.requires _ c.as_slice-sizes.ensures.value c.loop-size.size-index c.loop-size-test.true in
    omega (arith, k)

pub chain_of-h-requires : goal.chain_of-h-requires
chain_of-h-requires c = (small_size c.args.self.now c.requires _ c.as_slice-sizes.ensures.value c.loop-size.size-index c.loop-size-test.true, search rules)

pub returns-in-Some : goal.returns-in-Some
returns-in-Some c =
    rw c.deref.ensures.0
    (hit_shown c.args.self.now c.args.place c.requires c.in-Some.i c.in-Some.ensures.low (λ chain F. let k = (c.in-Some.ensures.first chain F).2 in search rules))

pub loop-size-preserved : goal.loop-size-preserved
loop-size-preserved c =
    let l = c.loop-size in
    missed_next c.args.self.now c.args.place l.size-index l.invariant
    (λ chain F i u e.
    let k = c.in_default.ensures.first chain F i u (e ∙ sym (rw c.as_slice-sizes.ensures.value at c.chain_of-h.ensures)) in
    search rules)

pub returns : goal.returns
returns c =
    let e : c.loop-size.size-index ≡ size_count c.args.self.now = omega (arith, ap length c.as_slice-sizes.ensures.value) in
    missed_shown c.args.self.now c.args.place c.requires (rw e at c.loop-size.invariant)
