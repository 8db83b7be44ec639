-- `refusals::needs::partly` meets its contract: by the bytes, the whole pages, and the page's state.
use Rattle.std.proofs.Common.{◌≡◌, ap, ◌∙◌, arith, eq-eqb, ne_eqb}
use Rattle.look.specs.declared.State.{State}
use Rattle.look.specs.Found.{state_is}
use Rattle.refusals.specs.Needs.{frames_at, frames_seen}
use Rattle.refusals.proofs.needs.partly.Goals as goal

pub returns-clause-told : goal.returns-clause-told
returns-clause-told g c =
    let a = c.args in
    let s = a.states.now.pages.store.now in
    let q = a.states.now.pages.charted in
    let z : a.span.whole ≡ 0 = omega arith in
    λ each counts x. rw (ne_eqb a.n 0 c.if-n-eq0.false, eq-eqb a.span.whole 0 z)
    (c.from.ensures ∙ counts c.of.result c.counts.result c.counts.ensures ∙ ap (λ (z : State). each (state_is z)) c.of.ensures ∙ ap (frames_at each s) c.line_of.ensures
    ∙ frames_seen s q.table q.places each a.object a.page.0 x)
