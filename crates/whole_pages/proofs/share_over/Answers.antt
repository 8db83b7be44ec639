use Rattle.std.proofs.Common.{◌≡◌, ℕ, ◌+◌, ◌-◌, ◌≤◌, ◌<◌, subst, ◌∙◌, get_or, take, drop, get_or-take, get_or-drop, length, length-drop, length-take-le, arith}
use Rattle.std.proofs.lemmas.List.{length-take}
use Rattle.store.specs.declared.Store.{Store}
use Rattle.store.specs.With.{range_at}
use Rattle.table.specs.Table.{zero_range}
use Rattle.shares.specs.Sharing.{sharing_small, sharing_sharable, sharing_turn}
use Rattle.shares.specs.Tidied.{tidied}
use Rattle.shares.specs.Together.{Together}
use Rattle.whole_pages.specs.Spread.{sharing_first, sharing_last, sharing_none, begun_few}
use Rattle.whole_pages.proofs.share_over.Goals as goal

pub returns-then-stop-start : goal.returns-then-stop-start
returns-then-stop-start c =
    let a = c.args in
    let P = c.requires in
    let E = c.stretch-stretch.ensures in
    sharing_none a.s.now a.shared.source a.shared.from.0 a.shared.object a.shared.to.0 a.shared.n _ E.first P.inside P.room _ _
    (rw E.end at c.starts_before-stop.ensures) c.if-stop-start.true c.ends_by-start.ensures

pub offset_bounds-ranges-start : goal.offset_bounds-ranges-start
offset_bounds-ranges-start c =
    let m = begun_few c.args.s.now c.requires.inside _ _ c.starts_before-stop.ensures in
    let f = c.requires.inside.few_ranges in
    record { fits = omega arith }

pub slice_bounds-r-items-end : goal.slice_bounds-r-items-end
slice_bounds-r-items-end c =
    let m = begun_few c.args.s.now c.requires.inside _ _ c.starts_before-stop.ensures in
    let f = c.requires.inside.few_ranges in
    omega (arith, c.requires.inside.sized.ranges)

pub loop-r-init : goal.loop-r-init
loop-r-init c =
    let a = c.args in
    let P = c.requires in
    let z : c.ends_by-start.result + 0 ≡ c.ends_by-start.result = omega arith in
    let E = c.stretch-stretch.ensures in
    rw (z, E.end, E.target.0, E.target.1) (sharing_first a.s.now a.shared.source a.shared.from.0 a.shared.object a.shared.to.0 a.shared.n _ E.first P.inside P.room _ c.ends_by-start.ensures)

-- a range that the loop comes to is one of the table at the start
from_start : (s : Store) (f k i : ℕ) → i < k → get_or (take k (drop f s.ranges)) i zero_range ≡ range_at s (f + i)
from_start s f k i h = get_or-take k (drop f s.ranges) i zero_range h ∙ get_or-drop f s.ranges i zero_range

pub share_part-requires-clause-sharable : goal.share_part-requires-clause-sharable
share_part-requires-clause-sharable c =
    let a = c.args in
    let s = a.s.now in
    let P = c.requires in
    let g = c.stretch-stretch.result in
    let E = c.stretch-stretch.ensures in
    let l = c.loop-r in
    let f = c.ends_by-start.result in
    let e = c.starts_before-stop.result in
    let t = tidied l.s in
    let m = begun_few s P.inside _ _ c.starts_before-stop.ensures in
    let b : l.r-index < e - f = omega (arith, length-take (e - f) (drop f s.ranges), c.loop-r-test.true) in
    let h : f + l.r-index < s.count = omega arith in
    let r = from_start s f (e - f) l.r-index b in (
      rw r (sharing_small s g.first g.end g.object g.to.0 P.inside (f + l.r-index) t l.invariant h),
      rw r (sharing_sharable s g.first g.end g.object g.to.0 P.inside (f + l.r-index) t l.invariant h a.shared.source a.shared.from.0 a.shared.n E.first E.end a.shared.within.0 (λ z. a.shared.apart (z ∙ E.target.0))),
    )

pub loop-r-preserved : goal.loop-r-preserved
loop-r-preserved c =
    let a = c.args in
    let s = a.s.now in
    let P = c.requires in
    let g = c.stretch-stretch.result in
    let E = c.stretch-stretch.ensures in
    let l = c.loop-r in
    let f = c.ends_by-start.result in
    let e = c.starts_before-stop.result in
    let t = tidied l.s in
    let u = tidied c.share_part.new.s in
    let m = begun_few s P.inside _ _ c.starts_before-stop.ensures in
    let b : l.r-index < e - f = omega (arith, length-take (e - f) (drop f s.ranges), c.loop-r-test.true) in
    let h : f + l.r-index < s.count = omega arith in
    let z : f + (l.r-index + 1) ≡ f + l.r-index + 1 = omega arith in
    let T = subst (λ r. Together t g.first g.end g.object g.to.0 r u) (from_start s f (e - f) l.r-index b) c.share_part.ensures in
    rw z (sharing_turn s g.first g.end g.object g.to.0 P.inside (f + l.r-index) t l.invariant h u T)

pub returns : goal.returns
returns c =
    let a = c.args in
    let s = a.s.now in
    let P = c.requires in
    let g = c.stretch-stretch.result in
    let E = c.stretch-stretch.ensures in
    let l = c.loop-r in
    let f = c.ends_by-start.result in
    let e = c.starts_before-stop.result in
    let m = begun_few s P.inside _ _ c.starts_before-stop.ensures in
    let n : length (take (e - f) (drop f s.ranges)) ≡ e - f = length-take-le (e - f) (drop f s.ranges) (simp length-drop (omega (arith, P.inside.sized.ranges))) in
    let b : e ≤ f + l.r-index = omega arith in
    let h : f + l.r-index ≤ s.count = omega (arith, l.auto.r-index-end) in
    rw c.trim.ensures
    (sharing_last s a.shared.source a.shared.from.0 a.shared.object a.shared.to.0 a.shared.n g.first E.first P.inside P.room (f + l.r-index) e (rw E.end at c.starts_before-stop.ensures) b (tidied l.s) h (rw (E.end, E.target.0, E.target.1) at l.invariant))
