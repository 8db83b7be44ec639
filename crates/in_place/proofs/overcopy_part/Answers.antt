-- `in_place::overcopy_part` meets its contract: bytes of the source are moved into the frame of a page that is present and private, which has no page of the
-- source.
use Rattle.std.proofs.Common.{ℕ, ◌≡◌, ◌+◌, ◌*◌, ◌/◌, ◌%◌, arith}
use Rattle.pages.specs.Steps.{frame_inside}
use Rattle.moves.specs.Made.{made_away, source_wrote}
use Rattle.in_place.specs.Stays.{stays}
use Rattle.in_place.proofs.overcopy_part.Goals as goal

pub move_in-next-requires-clause-m_bound : goal.move_in-next-requires-clause-m_bound
move_in-next-requires-clause-m_bound c =
    let a = c.args in
    let p = a.part in
    let q = c.requires in
    let f = c.in_ok-frame.frame in
    let S = stays a.states.now.pages.store.now a.pool.now q.inside a.passage.object p.page.0 c.line_of.result f c.private_near-near.result.found p.in_page.0 c.line_of.ensures c.private_near-near.ensures.found c.in_ok-frame.was in
    let A = made_away a.states.now.pages.store.now a.pool.now q.inside a.passage.source a.passage.object p.page.0 q.passage.0 p.in_page.0 a.states.now.pages.store.now a.pool.now f S in
    let e : (f * 4096 + p.place) / 4096 ≡ f = omega (arith, p.in_page.1) in
    let l = frame_inside a.states.now.pages.store.now a.pool.now q.inside f S.has.below in
    (q.passage.1, omega (arith, p.in_page.1, p.in_page.2), omega (arith, p.in_page.2, l), rw e A)

pub returns : goal.returns
returns c =
    let a = c.args in
    let p = a.part in
    let q = c.requires in
    let f = c.in_ok-frame.frame in
    let S = stays a.states.now.pages.store.now a.pool.now q.inside a.passage.object p.page.0 c.line_of.result f c.private_near-near.result.found p.in_page.0 c.line_of.ensures c.private_near-near.ensures.found c.in_ok-frame.was in
    let off : ℕ = p.page.0 * 4096 + p.place in
    let u : off / 4096 ≡ p.page.0 = omega (arith, p.in_page.1) in
    let v : off % 4096 ≡ p.place = omega (arith, p.in_page.1) in
    rw (u, v) at
    (source_wrote a.states.now.pages.store.now a.pool.now q.inside a.passage.source a.passage.object p.page.0 q.passage.0 p.in_page.0 a.states.now.pages.store.now a.pool.now f S off p.place (omega (arith, p.in_page.0, p.in_page.1)) (omega (arith, u)) (omega (arith, v))
    (a.passage.from + p.done) p.n q.passage.1 (omega (arith, v, p.in_page.2)) _ c.move_in-next.ensures)
