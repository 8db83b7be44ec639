-- `copy_part` meets its contract: the page is made writable, and bytes of the source are moved into its frame, which has no page of the source.
use Rattle.std.proofs.Common.{ℕ, ◌≡◌, ◌+◌, ◌*◌, ◌/◌, ◌%◌, arith}
use Rattle.std.proofs.iter.Serving.{serving}
use Rattle.book.specs.Page.{over}
use Rattle.book.specs.Bytes.{reading}
use Rattle.pages.specs.Inside.{Wrote, inside_table}
use Rattle.pages.specs.Steps.{frame_inside}
use Rattle.lookup.specs.Charted.{Lone}
use Rattle.moves.specs.Made.{made_away, source_wrote}
use Rattle.page_steps.specs.Lent.{state}
use Rattle.page_writes.specs.Alone.{inside_lone}
use Rattle.page_writes.proofs.Copier.copy_part.Goals as goal

-- the part is written to its page
wrote : (c : goal.After-move_in) → Wrote c.args.work.now.store.now c.args.work.now.pool.now c.args.self.now.between.passage.object c.args.part.page.0
    (over c.args.part.place (reading c.args.self.now.between.passage.source (c.args.self.now.between.passage.from + c.args.part.done) c.args.part.n (state c.args.work.now)))
    c.make_writable-frame.new.self.store.now c.move_in.new.pool
wrote c =
    let a = c.args in
    let v = a.work.now in
    let q = a.self.now in
    let w = q.between.passage in
    let p = a.part in
    let m = c.make_writable-frame in
    let off : ℕ = p.page.0 * 4096 + p.place in
    let u : off / 4096 ≡ p.page.0 = omega (arith, p.in_page.1) in
    let z : off % 4096 ≡ p.place = omega (arith, p.in_page.1) in
    rw (u, z) at
    (source_wrote v.store.now v.pool.now v.inside w.source w.object p.page.0 q.between.apart p.in_page.0 m.new.self.store.now m.new.self.pool.now m.result m.ensures.0 off p.place (omega (arith, p.in_page.0, p.in_page.1)) (omega (arith, u)) (omega (arith, z))
    (w.from + p.done) p.n (omega (arith, q.between.begins, c.requires.within)) (omega (arith, z, p.in_page.2)) c.move_in.new.pool c.move_in.ensures)

pub move_in-requires-clause-table : goal.move_in-requires-clause-table
move_in-requires-clause-table c =
    let w = c.make_writable-frame.new.self in
    let I = w.inside in
    (inside_table w.store.now w.pool.now I, I.few_frames, I.pool)

pub move_in-requires-clause-m_bound : goal.move_in-requires-clause-m_bound
move_in-requires-clause-m_bound c =
    let a = c.args in
    let v = a.work.now in
    let q = a.self.now in
    let w = q.between.passage in
    let p = a.part in
    let m = c.make_writable-frame in
    let M = m.ensures.0 in
    let A = made_away v.store.now v.pool.now v.inside w.source w.object p.page.0 q.between.apart p.in_page.0 m.new.self.store.now m.new.self.pool.now m.result M in
    let e : (m.result * 4096 + p.place) / 4096 ≡ m.result = omega (arith, p.in_page.1) in
    let l = frame_inside m.new.self.store.now m.new.self.pool.now M.inside m.result M.has.below in
    (omega (arith, q.between.begins, c.requires.within), omega (arith, p.in_page.1, p.in_page.2), omega (arith, p.in_page.2, l), rw e A)

pub move_in-requires-clause-callable : goal.move_in-requires-clause-callable
move_in-requires-clause-callable c =
    let w = c.make_writable-frame.new.self in
    let lone : Lone w.store.now = inside_lone w.store.now w.pool.now w.inside in
    grind (serving, lone)

pub invariant_of-work : goal.invariant_of-work
invariant_of-work c = record { inside = (wrote c).step.inside }

pub returns : goal.returns
returns c = (wrote c.before, c.make_writable-frame.ensures.1)
