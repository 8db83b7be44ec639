use Rattle.std.proofs.Common.{refl, rules}
use Rattle.writes.specs.Going.{going_start}
use Rattle.in_place.specs.Turns.{part_going}
use Rattle.in_place.proofs.overwrite_pages.Goals as goal

pub loop-part-init : goal.loop-part-init
loop-part-init c =
    let a = c.args in
    record {
      can_next = tt;
      is_finite = tt;
      offset = search rules;
      n = search rules;
      going = rw (c.into_iter-part-iterator.ensures.into_iter_gives, c.new-part-items.ensures.2) (going_start a.states.now.pages.store.now a.pool.now a.object a.offset a.src.now c.requires);
    }

pub loop-part-preserved : goal.loop-part-preserved
loop-part-preserved c =
    let a = c.args in
    let l = c.loop-part in
    let N = c.in-Some.ensures.steps in
    record {
      can_next = tt;
      is_finite = tt;
      offset = search rules;
      n = search rules;
      going = part_going a.states.now.pages.store.now a.pool.now a.object a.offset _ l.part-iterator c.in-Some.part N.0 l.invariant.offset l.invariant.n _ N.3 a.states.now.pages.store.now l.pool a.states.now.pages.store.now _
          a.src.now refl c.requires.ends l.invariant.going c.in-Some-overwrite_part.ensures;
    }
