use Rattle.std.proofs.Common.{true, false, Bool, ◌≡◌, ◌+◌, sym, ◌∙◌, arith, rules}
use Rattle.ranges.specs.Table.{named}
use Rattle.window_search.specs.Windows.{kept_ok}
use Rattle.table.specs.Table.{ranges_of}
use Rattle.places.specs.Places.{place_at}
use Rattle.place_tests.specs.Alone.{Used}
use Rattle.place_tests.specs.Placed.{in_window?, part_at, part_free, part_low, part_used, placed_by, placed_fails, placed_outside, seated_next, seated_over, window_is}
use Rattle.place_tests.proofs.seat_frames.Goals as goal

pub loop-k-preserved-then-is_free : goal.loop-k-preserved-then-is_free
loop-k-preserved-then-is_free g c =
    let s = c.args.s.now in
    let l = c.loop-k in
    let q : c.args.first + (l.k + 1) ≡ c.args.first + l.k + 1 = omega arith in
    let z = part_free s.places c.args.first c.args.end l.k c.loop-k-test.true (sym c.is_free.ensures ∙ c.if-is_free.true) in
    record { seated = rw q (seated_over s (c.args.first + l.k) l.chains z l.invariant.seated); ranges = l.invariant.ranges }

pub returns-then-not-branch-clause-placed : goal.returns-then-not-branch-clause-placed
returns-then-not-branch-clause-placed g c =
    let s = c.args.s.now in
    let l = c.loop-k in
    let f = c.args.first + l.k in
    let e = part_at s.places c.args.first c.args.end l.k c.loop-k-test.true in
    let u : Used s.places f = part_used s.places c.args.first c.args.end l.k c.loop-k-test.true (sym c.is_free.ensures ∙ c.if-is_free.false) in
    let a = kept_ok c.finds.result c.map_err.result c.in_ok-map_err.field-0 _ (λ (q : Bool). q ≡ named (place_at s.places f).backing (place_at s.places f).index (ranges_of (g.F.Finder.ranges l.finder)))
    c.map_err.ensures.cases c.map_err.ensures.variant c.in_ok-map_err.was (rw e at c.finds.ensures.answer) in
    let w : in_window? s (place_at s.places f) ≡ false = window_is s (place_at s.places f) (g.F.Finder.ranges l.finder) l.invariant.ranges false (rw c.if-not-branch.true at a) in
    placed_fails s c.args.end f _ (part_low s.places c.args.first c.args.end l.k c.loop-k-test.true) (placed_outside s f u w)

pub returns-then-not-linked-clause-placed : goal.returns-then-not-linked-clause-placed
returns-then-not-linked-clause-placed g c =
    let s = c.args.s.now in
    let l = c.loop-k in
    let f = c.args.first + l.k in
    let e = part_at s.places c.args.first c.args.end l.k c.loop-k-test.true in
    let u : Used s.places f = part_used s.places c.args.first c.args.end l.k c.loop-k-test.true (sym c.is_free.ensures ∙ c.if-is_free.false) in
    let a = kept_ok c.finds.result c.map_err.result c.in_ok-map_err.field-0 _ (λ (q : Bool). q ≡ named (place_at s.places f).backing (place_at s.places f).index (ranges_of (g.F.Finder.ranges l.finder)))
    c.map_err.ensures.cases c.map_err.ensures.variant c.in_ok-map_err.was (rw e at c.finds.ensures.answer) in
    let w : in_window? s (place_at s.places f) ≡ true = window_is s (place_at s.places f) (g.F.Finder.ranges l.finder) l.invariant.ranges true (rw c.if-not-branch.false at a) in
    placed_fails s c.args.end f _ (part_low s.places c.args.first c.args.end l.k c.loop-k-test.true) (placed_by s f u w false (search rules))

pub loop-k-preserved : goal.loop-k-preserved
loop-k-preserved g c =
    let s = c.args.s.now in
    let l = c.loop-k in
    let f = c.args.first + l.k in
    let q : c.args.first + (l.k + 1) ≡ c.args.first + l.k + 1 = omega arith in
    let e = part_at s.places c.args.first c.args.end l.k c.loop-k-test.true in
    let u : Used s.places f = part_used s.places c.args.first c.args.end l.k c.loop-k-test.true (sym c.is_free.ensures ∙ c.if-is_free.false) in
    let a = kept_ok c.finds.result c.map_err.result c.in_ok-map_err.field-0 _ (λ (q : Bool). q ≡ named (place_at s.places f).backing (place_at s.places f).index (ranges_of (g.F.Finder.ranges l.finder)))
    c.map_err.ensures.cases c.map_err.ensures.variant c.in_ok-map_err.was (rw e at c.finds.ensures.answer) in
    let w : in_window? s (place_at s.places f) ≡ true = window_is s (place_at s.places f) (g.F.Finder.ranges l.finder) l.invariant.ranges true (rw c.if-not-branch.false at a) in
    record { seated = rw q (seated_next s f l.chains _ u w (search rules) c.linked.ensures.charted l.invariant.seated); ranges = c.finds.ensures.ranges ∙ l.invariant.ranges }
