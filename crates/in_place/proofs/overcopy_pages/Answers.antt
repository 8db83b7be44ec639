use Rattle.std.proofs.Common.{rules}
use Rattle.moves.specs.Copying.{copying_start}
use Rattle.in_place.specs.Turns.{part_copying}
use Rattle.in_place.proofs.overcopy_pages.Goals as goal

pub loop-part-init : goal.loop-part-init
loop-part-init c =
    let a = c.args in
    record {
      can_next = tt;
      is_finite = tt;
      offset = search rules;
      n = search rules;
      copying = rw (c.into_iter-part-iterator.ensures.into_iter_gives, c.new-part-items.ensures.2) (copying_start a.states.now.pages.store.now a.pool.now a.passage.source a.passage.from a.passage.object a.passage.to a.passage.n c.requires.0);
    }

pub loop-part-preserved : goal.loop-part-preserved
loop-part-preserved c =
    let a = c.args in
    let q = c.requires in
    let l = c.loop-part in
    let N = c.in-Some.ensures.steps in
    record {
      can_next = tt;
      is_finite = tt;
      offset = search rules;
      n = search rules;
      copying = part_copying a.states.now.pages.store.now a.pool.now a.passage.object a.passage.to a.passage.n l.part-iterator c.in-Some.part N.0 l.invariant.offset l.invariant.n _ N.3 a.states.now.pages.store.now l.pool a.states.now.pages.store.now _
          a.passage.source a.passage.from q.0 q.1 q.2 l.invariant.copying c.in-Some-overcopy_part.ensures;
    }
