use Rattle.std.proofs.Common.{rules, [], ◌≡◌, arith, not, sym, ap, ◌∙◌}
use Rattle.chains.specs.Entries.{left_end, left_hit, left_low, left_next}
use Rattle.chains.specs.Falling.{left_falling}
use Rattle.place_tests.specs.Seats.{missing, missing_stands, stands_told, walk_stands}
use Rattle.place_tests.proofs.Frames.stands.Goals as goal

pub loop-frame-init : goal.loop-frame-init
loop-frame-init c =
    record {
      can_next = tt;
      is_finite = tt;
      left = rw c.into_iter-frame-iterator.ensures.into_iter_gives
          (left_falling c.args.self.now.chains.now.next (missing c.args.self.now.s.now.places c.args.backing) c.args.self.now.s.now.frames _ c.falling-frame-items.result c.args.self.now.few
          (rw c.chain_to.ensures (walk_stands c.args.self.now.s.now.places c.args.backing c.requires.numbered c.args.self.now.s.now.frames c.args.self.now.chains.now c.args.self.now.chained)) c.falling-frame-items.ensures);
    }

pub bounds-self-frame : goal.bounds-self-frame
bounds-self-frame c =
    let r = c.args.self.now.few in
    let l = left_low c.args.self.now.chains.now.next (missing c.args.self.now.s.now.places c.args.backing) c.args.self.now.s.now.frames c.in-Some.frame _ (rw c.in-Some.ensures.steps at c.loop-frame.invariant.left) in
    omega arith

pub offset_bounds-self-frame : goal.offset_bounds-self-frame
offset_bounds-self-frame c =
    let r = c.args.self.now.few in
    let l = left_low c.args.self.now.chains.now.next (missing c.args.self.now.s.now.places c.args.backing) c.args.self.now.s.now.frames c.in-Some.frame _ (rw c.in-Some.ensures.steps at c.loop-frame.invariant.left) in
    record { fits = omega arith }

pub returns-then-stands_at : goal.returns-then-stands_at
returns-then-stands_at c =
    ap not (left_hit c.args.self.now.chains.now.next (missing c.args.self.now.s.now.places c.args.backing) c.args.self.now.s.now.frames c.in-Some.frame _ (rw c.in-Some.ensures.steps at c.loop-frame.invariant.left)
    (missing_stands c.args.self.now.s.now.places c.args.backing c.requires.numbered c.in-Some.frame ∙ ap not (sym c.stands_at.ensures ∙ c.if-stands_at.true)))
    ∙ sym (stands_told c.args.self.now.s.now.places c.args.self.now.s.now.frames c.args.backing 0)

pub loop-frame-preserved : goal.loop-frame-preserved
loop-frame-preserved c =
    record {
      can_next = tt;
      is_finite = tt;
      left = left_next c.args.self.now.chains.now.next (missing c.args.self.now.s.now.places c.args.backing) c.args.self.now.s.now.frames c.in-Some.frame _ (rw c.in-Some.ensures.steps at c.loop-frame.invariant.left)
          (missing_stands c.args.self.now.s.now.places c.args.backing c.requires.numbered c.in-Some.frame ∙ ap not (sym c.stands_at.ensures ∙ c.if-stands_at.false));
    }

pub returns : goal.returns
returns c =
    let e : c.loop-frame.frame-iterator ≡ [] = search rules in
    ap not (left_end c.args.self.now.chains.now.next (missing c.args.self.now.s.now.places c.args.backing) c.args.self.now.s.now.frames (rw e at c.loop-frame.invariant.left))
    ∙ sym (stands_told c.args.self.now.s.now.places c.args.self.now.s.now.frames c.args.backing 0)
