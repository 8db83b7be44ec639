-- `view::frame_shown` meets its contract.
use Rattle.std.specs.Prelude.{Some, None}
use Rattle.std.proofs.Common.{◌≡◌, ap, sym, ◌∙◌, arith}
use Rattle.ranges.specs.Range.{line}
use Rattle.look.specs.Look.{located}
use Rattle.look.specs.Found.{frame_is}
use Rattle.view.specs.Showing.{value_is, not_entered, not_shown, shows, accepts_length, frame_shown_lem, frame_inside}
use Rattle.view.proofs.frame_shown.Goals as goal

pub returns-in_err-entry-clause-book : goal.returns-in_err-entry-clause-book
returns-in_err-entry-clause-book c =
    let a = c.args in
    λ x l. c.from_residual.ensures ∙ not_entered a.s.now a.object a.page.0 _ c.enter.ensures.tried (sym c.in_err-entry.ensures.value) x

pub returns-in_err-ok-clause-book : goal.returns-in_err-ok-clause-book
returns-in_err-ok-clause-book c =
    let a = c.args in
    let s = a.s.now in
    let same : c.in_ok-entry.entry.sound.store.now ≡ s = value_is (λ q. q.sound.store.now ≡ s) c.enter.result c.enter.ensures.same (sym c.in_ok-entry.ensures.value) in
    λ x l. c.from_residual-in_err-ok.ensures ∙ not_shown s a.object a.page.0 a.pool c.show.result (rw same at c.show.ensures) (sym c.in_err-ok.ensures.value) x l

pub line_of-requires : goal.line_of-requires
line_of-requires c =
    let a = c.args in
    let W = shows (λ q. q.sound.store.now) a.s.now a.object a.page.0 a.pool c.enter.result c.show.result c.enter.ensures.same (sym c.in_ok-entry.ensures.value) c.show.ensures (sym c.in_ok-ok.ensures.value) in
    omega (arith, (accepts_length a.s.now a.pool a.object a.page.0 W.passed).page)

pub returns-in_err-located-clause-book : goal.returns-in_err-located-clause-book
returns-in_err-located-clause-book c =
    let a = c.args in
    let s = a.s.now in
    let W = shows (λ q. q.sound.store.now) s a.object a.page.0 a.pool c.enter.result c.show.result c.enter.ensures.same (sym c.in_ok-entry.ensures.value) c.show.ensures (sym c.in_ok-ok.ensures.value) in
    let l : located s (line a.object a.page.0) ≡ None = rw (← W.same, ← c.pages.ensures.store, ← c.line_of.ensures) (sym c.in_err-located.ensures.found) in
    λ x e. c.from_residual-in_err-located.ensures ∙ ap frame_is (sym l) ∙ frame_shown_lem s c.enter.ensures.tried.sized a.object a.page.0 x (W.passed x e)

pub returns-clause-book : goal.returns-clause-book
returns-clause-book c =
    let a = c.args in
    let s = a.s.now in
    let W = shows (λ q. q.sound.store.now) s a.object a.page.0 a.pool c.enter.result c.show.result c.enter.ensures.same (sym c.in_ok-entry.ensures.value) c.show.ensures (sym c.in_ok-ok.ensures.value) in
    let l : located s (line a.object a.page.0) ≡ Some c.in_ok-located.located = rw (← W.same, ← c.pages.ensures.store, ← c.line_of.ensures) (sym c.in_ok-located.ensures.found) in
    λ x e. ap frame_is (sym l) ∙ frame_shown_lem s c.enter.ensures.tried.sized a.object a.page.0 x (W.passed x e)

pub returns-clause-inside : goal.returns-clause-inside
returns-clause-inside c =
    let a = c.args in
    let s = a.s.now in
    let W = shows (λ q. q.sound.store.now) s a.object a.page.0 a.pool c.enter.result c.show.result c.enter.ensures.same (sym c.in_ok-entry.ensures.value) c.show.ensures (sym c.in_ok-ok.ensures.value) in
    let l : located s (line a.object a.page.0) ≡ Some c.in_ok-located.located = rw (← W.same, ← c.pages.ensures.store, ← c.line_of.ensures) (sym c.in_ok-located.ensures.found) in
    frame_inside s c.enter.ensures.tried.sized a.object a.page.0 a.pool (accepts_length s a.pool a.object a.page.0 W.passed) c.in_ok-located.located l
