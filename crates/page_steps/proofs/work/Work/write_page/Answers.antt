-- `write_page` meets its contract: the bytes are put into the page's frame.
use Rattle.pages.specs.Steps.{bytes_wrote}
use Rattle.page_steps.proofs.work.Work.write_page.Goals as goal

pub invariant_of-self : goal.invariant_of-self
invariant_of-self c =
    let a = c.args in
    let v = a.self.now in
    let W = c.make_writable in
    let R = bytes_wrote v.store.now v.pool.now v.inside a.address.object a.address.page.0 a.address.in_object W.new.self.store.now W.new.self.pool.now W.result W.ensures.0 a.place a.bytes.now c.requires.within _ c.copy.ensures in
    record { inside = R.step.inside }

pub returns : goal.returns
returns c =
    let a = c.args in
    let v = a.self.now in
    let W = c.make_writable in
    (bytes_wrote v.store.now v.pool.now v.inside a.address.object a.address.page.0 a.address.in_object W.new.self.store.now W.new.self.pool.now W.result W.ensures.0 a.place a.bytes.now c.requires.within _ c.copy.ensures, W.ensures.1)
