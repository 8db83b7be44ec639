use Rattle.std.proofs.Common.{sym, ◌∙◌, ◌≤◌, get_or, length, arith, rules, ◌≡◌, Err}
use Rattle.window_search.specs.Windows.{kept_ok, Met}
use Rattle.std.proofs.lemmas.List.{set-get_or}
use Rattle.lists.specs.Mapped.{mapped_none}
use Rattle.places.specs.Places.{nowhere}
use Rattle.trimming.specs.Trimming.{gone_met, kept, kept_free, kept_met, mapped_all, turn}
use Rattle.trimming.proofs.trim_along.Goals as goal
use Rattle.trimming.proofs.trim_along.Goals.{in-Some, in-None}

pub loop-f-init : goal.loop-f-init
loop-f-init c = mapped_none (kept c.args.windows.now.ranges.now) c.args.places.now

pub loop-f-preserved-then-eq : goal.loop-f-preserved-then-eq
loop-f-preserved-then-eq c =
    let s = c.args.windows.now in
    let l = c.loop-f in
    let p = get_or l.places l.f-counter nowhere in
    turn (kept s.ranges.now) c.args.places.now l.places l.f-counter c.loop-f-test.true l.invariant p (kept_free s.ranges.now p (sym c.eq.ensures ∙ c.if-eq.true))

pub loop-f-preserved : goal.loop-f-preserved
loop-f-preserved c =
    let s = c.args.windows.now in
    let l = c.loop-f in
    let p = get_or l.places l.f-counter nowhere in
    let F = kept_ok c.search.result c.map_err.result c.in_ok-found.found _ (Met s.ranges.now p) c.map_err.ensures.cases c.map_err.ensures.variant c.in_ok-found.was c.search.ensures in
    elim c.match-found.branch [
      | in-Some w ↦
          let M = rw w.in-Some.is at F in
          rw w.places-is (turn (kept s.ranges.now) c.args.places.now l.places l.f-counter c.loop-f-test.true l.invariant p (kept_met s.ranges.now p w.in-Some.field-0 M))
      | in-None w ↦
          let M = rw w.in-None.is at F in
          rw w.places-is (turn (kept s.ranges.now) c.args.places.now l.places l.f-counter c.loop-f-test.true l.invariant nowhere (gone_met s.ranges.now p M))
    ]

pub returns : goal.returns
returns c =
    let w = c.args.windows.now in
    c.loop-f.invariant ∙ mapped_all (kept w.ranges.now) c.args.places.now c.loop-f.f-counter (omega arith)

pub returns-in_err-found : goal.returns-in_err-found
returns-in_err-found c =
    let e : c.in_err-found.field-0.0.frame ≡ c.loop-f.f-counter = search rules in
    let r : c.from_residual.result ≡ Err c.in_err-found.field-0.0 = search rules in
    let l : c.loop-f.f-counter ≤ length c.args.places.now = omega (arith, c.loop-f-test.true) in
    rw (r, e, set-get_or) (l, c.loop-f.invariant)
