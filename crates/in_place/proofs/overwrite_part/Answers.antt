-- `in_place::overwrite_part` meets its contract: a page that is present and private is written where it is.
use Rattle.std.proofs.Common.{drop, arith, length-drop}
use Rattle.pages.specs.Steps.{write_stepped}
use Rattle.in_place.specs.Stays.{stays}
use Rattle.in_place.proofs.overwrite_part.Goals as goal

pub returns : goal.returns
returns c =
    let a = c.args in
    let p = a.part in
    let q = c.requires in
    let f = c.in_ok-frame.frame in
    let S = stays a.states.now.pages.store.now a.pool.now q.0 a.object p.page.0 c.line_of.result f c.private_near-near.result.found p.in_page.0 c.line_of.ensures c.private_near-near.ensures.found c.in_ok-frame.was in
    record {
      frame = f;
      step = rw c.copy.ensures
          (write_stepped a.states.now.pages.store.now a.pool.now q.0 a.object p.page.0 p.in_page.0 a.states.now.pages.store.now a.pool.now f S p.place (drop p.done a.src.now) p.n p.in_page.2 (omega (arith, length-drop p.done a.src.now, q.1)));
    }
