use Rattle.std.proofs.Common.{ℕ, drop, subst, take, ◌≡◌, ◌+◌, ◌-◌, length, refl, arith, rules}
use Rattle.book.specs.Page.{over}
use Rattle.pages.specs.Inside.{Wrote}
use Rattle.writes.specs.Going.{going_end, going_room, going_start}
use Rattle.page_steps.specs.Lent.{same_both}
use Rattle.in_place.specs.Turns.{part_going}
use Rattle.page_writes.proofs.write_pages.Goals as goal

pub loop-part-init : goal.loop-part-init
loop-part-init c =
    let a = c.args in
    let v = a.work.now in
    record {
      can_next = tt;
      is_finite = tt;
      offset = search rules;
      n = search rules;
      going = rw (c.into_iter-part-iterator.ensures.into_iter_gives, c.new-part-items.ensures.2) (going_start v.store.now v.pool.now a.object a.offset a.src.now c.requires);
      same = (refl, refl);
    }

pub write_page-requires-clause-room : goal.write_page-requires-clause-room
write_page-requires-clause-room c =
    let a = c.args in
    let v = a.work.now in
    let l = c.loop-part in
    let N = c.in-Some.ensures.steps.0 in
    rw (N.page, l.invariant.offset) (going_room v.store.now v.pool.now a.object a.offset a.src.now l.part-iterator.done l.work.store.now l.work.pool.now l.invariant.going (search rules))

pub loop-part-preserved : goal.loop-part-preserved
loop-part-preserved c =
    let a = c.args in
    let v = a.work.now in
    let l = c.loop-part in
    let p = c.in-Some.part in
    let N = c.in-Some.ensures.steps in
    let W = c.write_page in
    let k : p.done + p.n - p.done ≡ p.n = omega arith in
    let P : ℕ → Type 0 = λ n. Wrote l.work.store.now l.work.pool.now a.object p.page.0 (over p.place (take n (drop p.done a.src.now))) W.new.self.store.now W.new.self.pool.now in
    record {
      can_next = tt;
      is_finite = tt;
      offset = search rules;
      n = search rules;
      going = part_going v.store.now v.pool.now a.object a.offset _ l.part-iterator p N.0 l.invariant.offset l.invariant.n _ N.3 l.work.store.now l.work.pool.now _ _
          a.src.now refl c.requires.ends l.invariant.going (subst P k W.ensures.0);
      same = same_both v l.work W.new.self l.invariant.same W.ensures.1;
    }

pub returns : goal.returns
returns c =
    let a = c.args in
    let v = a.work.now in
    let l = c.loop-part in
    let e : l.part-iterator.done ≡ length a.src.now = search rules in
    (going_end v.store.now v.pool.now a.object a.offset a.src.now l.work.store.now l.work.pool.now (rw e at l.invariant.going), l.invariant.same)
