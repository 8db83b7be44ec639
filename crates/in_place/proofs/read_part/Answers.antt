-- `in_place::read_part`: an absent page is zeros (`read_absent`), a present one its frame's bytes in the pool (`read_present`).
use Rattle.std.proofs.Common.{◌≡◌, Some, None, sym, ◌∙◌, ap}
use Rattle.ranges.specs.Range.{line}
use Rattle.look.specs.Look.{located}
use Rattle.reads.specs.Reading.{read_absent, read_present}
use Rattle.in_place.proofs.read_part.Goals as goal

pub returns-in-None : goal.returns-in-None
returns-in-None c =
    let a = c.args in
    let q = a.part in
    let e : located a.pages.now.store.now (line a.object q.page.0) ≡ None = ap (located a.pages.now.store.now) (sym c.line_of.ensures) ∙ sym c.locate_near-near.ensures.found ∙ c.in-None.is in
    read_absent a.pages.now.store.now a.pool.now (line a.object q.page.0) a.buf.now _ q.done q.place q.n q.in_page.2 e c.fill.ensures

pub returns-in-Some : goal.returns-in-Some
returns-in-Some c =
    let a = c.args in
    let q = a.part in
    let l = c.in-Some.l in
    let e : located a.pages.now.store.now (line a.object q.page.0) ≡ Some l = ap (located a.pages.now.store.now) (sym c.line_of.ensures) ∙ sym c.locate_near-near.ensures.found ∙ c.in-Some.is in
    read_present a.pages.now.store.now a.pool.now (line a.object q.page.0) a.buf.now _ q.done q.place q.n q.in_page.2 l e c.copy.ensures
