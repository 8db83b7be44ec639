use Rattle.std.proofs.Common.{ap, sym, ◌∙◌, [], not, arith, rules, length, ◌≡◌}
use Rattle.chains.specs.Entries.{left_end, left_low, left_next}
use Rattle.chains.specs.Falling.{left_falling}
use Rattle.lookup.specs.Charted.{found_none, found_there, lacks, walk_frames}
use Rattle.lookup.proofs.frame_of.Goals as goal

pub loop-frame-init : goal.loop-frame-init
loop-frame-init c =
    let a = c.args in
    record {
      can_next = tt;
      is_finite = tt;
      left = rw c.into_iter-frame-iterator.ensures.into_iter_gives
          (left_falling a.charts.now.frames.next (lacks a.s.now.places a.backing a.index) a.s.now.frames _ c.falling-frame-items.result c.requires.1
          (rw c.chain_to.ensures (walk_frames a.s.now.places a.s.now.frames a.charts.now.frames a.backing a.index c.requires.0)) c.falling-frame-items.ensures);
    }

pub bounds-s-frame : goal.bounds-s-frame
bounds-s-frame c =
    let a = c.args in
    let r = c.requires.1 in
    let l = left_low a.charts.now.frames.next (lacks a.s.now.places a.backing a.index) a.s.now.frames c.in-Some.frame _ (rw c.in-Some.ensures.steps at c.loop-frame.invariant.left) in
    omega arith

pub offset_bounds-s-frame : goal.offset_bounds-s-frame
offset_bounds-s-frame c =
    let a = c.args in
    let r = c.requires.1 in
    let l = left_low a.charts.now.frames.next (lacks a.s.now.places a.backing a.index) a.s.now.frames c.in-Some.frame _ (rw c.in-Some.ensures.steps at c.loop-frame.invariant.left) in
    record { fits = omega arith }

pub returns-then-stands_at : goal.returns-then-stands_at
returns-then-stands_at c =
    let a = c.args in
    let s = a.s.now in
    let n : length s.places ≡ 1024 = search rules in
    let f = c.requires.1 in
    found_there s.places s.frames a.backing a.index (omega arith) c.requires.2.alone c.in-Some.frame
    (left_low a.charts.now.frames.next (lacks s.places a.backing a.index) s.frames c.in-Some.frame _ (rw c.in-Some.ensures.steps at c.loop-frame.invariant.left))
    (sym c.stands_at.ensures ∙ c.if-stands_at.true)

pub loop-frame-preserved : goal.loop-frame-preserved
loop-frame-preserved c =
    let a = c.args in
    record {
      can_next = tt;
      is_finite = tt;
      left = left_next a.charts.now.frames.next (lacks a.s.now.places a.backing a.index) a.s.now.frames c.in-Some.frame _
          (rw c.in-Some.ensures.steps at c.loop-frame.invariant.left) (ap not (sym c.stands_at.ensures ∙ c.if-stands_at.false));
    }

pub returns : goal.returns
returns c =
    let a = c.args in
    let e : c.loop-frame.frame-iterator ≡ [] = search rules in
    found_none a.s.now.places a.s.now.frames a.backing a.index
    (left_end a.charts.now.frames.next (lacks a.s.now.places a.backing a.index) a.s.now.frames (rw e at c.loop-frame.invariant.left))
