use Rattle.std.proofs.Common.{refl, rules}
use Rattle.moves.specs.Copying.{copying_end, copying_room, copying_start}
use Rattle.page_steps.specs.Lent.{same_both}
use Rattle.in_place.specs.Turns.{part_copying}
use Rattle.page_writes.proofs.Copier.copy_bytes.Goals as goal

pub loop-part-init : goal.loop-part-init
loop-part-init c =
    let v = c.args.work.now in
    let w = c.args.self.now.between.passage in
    record {
      can_next = tt;
      is_finite = tt;
      offset = search rules;
      n = search rules;
      copying = rw (c.into_iter-part-iterator.ensures.into_iter_gives, c.new-part-items.ensures.2) (copying_start v.store.now v.pool.now w.source w.from w.object w.to w.n c.requires);
      same = (refl, refl);
    }

pub copy_part-slot-requires-clause-room : goal.copy_part-slot-requires-clause-room
copy_part-slot-requires-clause-room c =
    let v = c.args.work.now in
    let w = c.args.self.now.between.passage in
    let l = c.loop-part in
    let N = c.in-Some.ensures.steps.0 in
    rw (N.page, l.invariant.offset) (copying_room v.store.now v.pool.now w.source w.from w.object w.to w.n c.requires l.part-iterator.done l.work.store.now l.work.pool.now l.invariant.copying (search rules))

pub loop-part-preserved : goal.loop-part-preserved
loop-part-preserved c =
    let a = c.args in
    let v = a.work.now in
    let w = a.self.now.between.passage in
    let l = c.loop-part in
    let N = c.in-Some.ensures.steps in
    let W = c.copy_part-slot in
    record {
      can_next = tt;
      is_finite = tt;
      offset = search rules;
      n = search rules;
      copying = part_copying v.store.now v.pool.now w.object w.to w.n l.part-iterator c.in-Some.part N.0 l.invariant.offset l.invariant.n _ N.3 l.work.store.now l.work.pool.now _ _
          w.source w.from c.requires a.self.now.between.apart a.self.now.between.begins l.invariant.copying W.ensures.0;
      same = same_both v l.work W.new.work l.invariant.same W.ensures.1;
    }

pub returns : goal.returns
returns c =
    let v = c.args.work.now in
    let w = c.args.self.now.between.passage in
    let l = c.loop-part in
    let E = copying_end v.store.now v.pool.now w.source w.from w.object w.to w.n c.requires l.part-iterator.done l.work.store.now l.work.pool.now (search rules) l.invariant.copying in
    (E.0, E.1, l.invariant.same)
