-- `copy_over` meets its contract: what is left of the copy, as a copy of its own, makes the whole of it.
use Rattle.std.proofs.Common.{refl, rules}
use Rattle.moves.specs.Copying.{copying_end, left_copied, left_room}
use Rattle.page_writes.proofs.Copier.copy_over.Goals as goal

pub copy_bytes-requires : goal.copy_bytes-requires
copy_bytes-requires c =
    let v = c.args.work.now in
    let w = c.args.self.now.between.passage in
    let o = c.overcopy_pages-done in
    rw c.part.ensures.passage (left_room v.store.now v.pool.now w.source w.from w.object w.to w.n c.requires.room o.result o.new.pool o.ensures (search rules))

pub returns-then-done-passage : goal.returns-then-done-passage
returns-then-done-passage c =
    let q = c.args.self.now in
    let v = c.args.work.now in
    let w = q.between.passage in
    let o = c.overcopy_pages-done in
    let b = c.copy_bytes in
    let B = rw c.part.ensures.passage at b.ensures in
    let E = left_copied v.store.now v.pool.now w.source w.from w.object w.to w.n c.requires.room o.result o.new.pool o.ensures (search rules) q.between.apart q.between.begins b.new.work.store.now b.new.work.pool.now B.0 B.1 in
    (E.0, E.1, B.2)

pub returns-else-done-passage : goal.returns-else-done-passage
returns-else-done-passage c =
    let v = c.args.work.now in
    let w = c.args.self.now.between.passage in
    let o = c.overcopy_pages-done in
    let E = copying_end v.store.now v.pool.now w.source w.from w.object w.to w.n c.requires.room o.result v.store.now o.new.pool (search rules) o.ensures in
    (E.0, E.1, (refl, refl))
