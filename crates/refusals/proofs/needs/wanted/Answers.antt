use Rattle.std.proofs.Common.{◌≡◌, ◌+◌, ◌-◌, ap, ◌∙◌, arith, rules}
use Rattle.ranges.specs.Range.{line}
use Rattle.book.specs.Need.{lacks, wanted}
use Rattle.book.specs.Book.{entry}
use Rattle.store.specs.Abs.{book_of}
use Rattle.look.specs.declared.State.{State}
use Rattle.look.specs.Found.{state_is}
use Rattle.refusals.specs.Needs.{frames_at, wanted_next, wants_seen, upto_all}
use Rattle.refusals.proofs.needs.wanted.Goals as goal

pub loop-i-preserved : goal.loop-i-preserved
loop-i-preserved c =
    let a = c.args in
    let q = a.states.now.pages.charted in
    let l = c.loop-i in
    let s = a.states.now.pages.store.now in
    let g : c.line_of.result ≡ line a.object (a.page.0 + l.i) = c.line_of.ensures ∙ ap (line a.object) c.offset.ensures in
    let w : c.from-count.result ≡ lacks (state_is c.near-near.result.found) = search rules in
    let r : c.from-count.result ≡ frames_at lacks s (line a.object (a.page.0 + l.i)) =
    rw (← g) (w ∙ ap (λ (z : State). lacks (state_is z)) c.near-near.ensures) in
    record {
      few = search rules;
      left = λ x. let m = r ∙ wants_seen s q.table q.places a.object (a.page.0 + l.i) x in
          omega (arith, l.invariant.left x, m, wanted_next a.n l.i a.object a.page.0 (entry (book_of s x)) (search rules));
    }

pub returns : goal.returns
unfolding wanted
returns c =
    let a = c.args in
    let l = c.loop-i in
    let z : a.n - l.i ≡ 0 = omega arith in
    λ x. upto_all _ _ _ (omega (arith, rw z at (l.invariant.left x)))
