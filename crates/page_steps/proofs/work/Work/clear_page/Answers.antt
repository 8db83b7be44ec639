-- `clear_page` meets its contract: by whether there is anything to clear, and where the page is.
use Rattle.std.specs.Prelude.{List, ℕ, Option, Some, None}
use Rattle.std.specs.Option.{is_some}
use Rattle.std.proofs.Common.{◌≡◌, true, false, ◌/◌, refl, sym, ◌∙◌, arith}
use Rattle.std.proofs.lemmas.Bool.{false≢true}
use Rattle.store.specs.declared.Store.{Store}
use Rattle.look.specs.declared.Located.{Located}
use Rattle.ranges.specs.Range.{line}
use Rattle.book.specs.Work.{page_of}
use Rattle.store.specs.Spare.{work_of}
use Rattle.look.specs.Look.{located}
use Rattle.pages.specs.Inside.{Inside, inside_table, inside_room}
use Rattle.pages.specs.Present.{Present, located_held, located_absent}
use Rattle.pages.specs.Clear.{clear_nothing, clear_absent, clear_room, clear_present}
use Rattle.pages.specs.Steps.{clear_wrote}
use Rattle.page_steps.proofs.work.Work.clear_page.Goals as goal

-- what is found of the page
module _ (s : Store) (x : List ℕ) (I : Inside s x) (o p : ℕ) where
  found : (l : Option Located) → is_some l ≡ true → l ≡ located s (line o p) → (f : ℕ) × Present s x o p f
  found None h e = absurd (false≢true h)
  found (Some l) h e = (l.frame, (located_held s (inside_table s x I) (inside_room s x I) o p x l (sym e)).present)

  missed : (l : Option Located) → is_some l ≡ false → l ≡ located s (line o p) → page_of (line o p) (work_of s x) ≡ None
  missed None h e = located_absent s (inside_table s x I) (inside_room s x I) o p x (sym e)
  missed (Some l) h e = absurd (false≢true (sym h))

pub returns-then-n-eq0 : goal.returns-then-n-eq0
returns-then-n-eq0 c = let a = c.args in let v = a.self.now in (clear_nothing v.store.now v.pool.now a.object a.offset a.n c.if-n-eq0.true, (refl, refl))

pub make_writable-requires : goal.make_writable-requires
make_writable-requires c =
    let a = c.args in
    let v = a.self.now in
    let e = c.from_offset-address.ensures in
    let F = found v.store.now v.pool.now v.inside a.object (a.offset / 4096) c.locate.result (sym c.is_some.ensures ∙ c.if-is_some.true) (rw (e.0, e.1) at c.locate.ensures) in
    rw (e.0, e.1) (clear_room v.store.now v.pool.now a.object a.offset a.n (omega arith) _ F.1.page (c.requires.2 (omega arith)))

pub invariant_of-self : goal.invariant_of-self
invariant_of-self c =
    let a = c.args in
    let v = a.self.now in
    let e = c.from_offset-address.ensures in
    let W = c.make_writable in
    let R = clear_wrote v.store.now v.pool.now v.inside a.object a.offset (omega arith) _ _ refl c.place.ensures _ _ _ (rw (e.0, e.1) at W.ensures.0) a.n c.requires.1 _ c.fill.ensures in
    record { inside = R.step.inside }

pub returns-then-is_some : goal.returns-then-is_some
returns-then-is_some c =
    let a = c.args in
    let v = a.self.now in
    let e = c.from_offset-address.ensures in
    let F = found v.store.now v.pool.now v.inside a.object (a.offset / 4096) c.locate.result (sym c.is_some.ensures ∙ c.if-is_some.true) (rw (e.0, e.1) at c.locate.ensures) in
    let W = c.make_writable in
    let R = clear_wrote v.store.now v.pool.now v.inside a.object a.offset (omega arith) _ _ refl c.place.ensures _ _ _ (rw (e.0, e.1) at W.ensures.0) a.n c.requires.1 _ c.fill.ensures in
    (clear_present v.store.now v.pool.now a.object a.offset a.n (omega arith) _ F.1.page _ _ R, W.ensures.1)

pub returns-else-is_some : goal.returns-else-is_some
returns-else-is_some c =
    let a = c.args in
    let v = a.self.now in
    let e = c.from_offset-address.ensures in
    let m = missed v.store.now v.pool.now v.inside a.object (a.offset / 4096) c.locate.result (sym c.is_some.ensures ∙ c.if-is_some.false) (rw (e.0, e.1) at c.locate.ensures) in
    (clear_absent v.store.now v.pool.now a.object a.offset a.n (omega arith) m, (refl, refl))
