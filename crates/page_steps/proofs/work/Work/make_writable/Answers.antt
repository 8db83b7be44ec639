-- `make_writable` meets its contract: an absent page is added, a shared one copied, and a private one stays.
use Rattle.std.specs.Prelude.{Bool, List, ℕ, Some}
use Rattle.std.proofs.Common.{◌≡◌, ap, refl, sym, ◌∙◌}
use Rattle.store.specs.declared.Store.{Store}
use Rattle.look.specs.declared.Located.{Located}
use Rattle.ranges.specs.Range.{line}
use Rattle.book.specs.Work.{is_shared}
use Rattle.table.specs.Table.{ranges_of}
use Rattle.places.specs.Places.{place_at}
use Rattle.store.specs.Abs.{used}
use Rattle.look.specs.Look.{located}
use Rattle.pages.specs.Inside.{Inside, inside_table, inside_room}
use Rattle.pages.specs.Steps.{absent_stepped, stay_stepped}
use Rattle.pages.specs.Present.{Held, absent_room, located_absent, located_held, shared_room}
use Rattle.page_steps.proofs.work.Work.make_writable.Goals as goal

-- a page that is found, and whether its backing is shared
module _ (s : Store) (x : List ℕ) (I : Inside s x) (o p : ℕ) (l : Located) (e : Some l ≡ located s (line o p)) where
  held : Held s x o p l
  held = located_held s (inside_table s x I) (inside_room s x I) o p x l (sym e)

  sharing : (b : Bool) → b ≡ is_shared l.backing (ranges_of (used s)) → is_shared (place_at s.places l.frame).backing (ranges_of (used s)) ≡ b
  sharing b h = ap (λ (k : ℕ). is_shared k (ranges_of (used s))) held.backing ∙ sym h

pub add_page-requires : goal.add_page-requires
add_page-requires c =
    let a = c.args.address in
    let v = c.args.self.now in
    let s = v.store.now in
    absent_room s v.pool.now a.object a.page.0 c.requires (located_absent s (inside_table s v.pool.now v.inside) (inside_room s v.pool.now v.inside) a.object a.page.0 v.pool.now (sym c.in-None.ensures))

pub copy_page-requires-clause-room : goal.copy_page-requires-clause-room
copy_page-requires-clause-room c =
    let a = c.args.address in
    let v = c.args.self.now in
    let l = c.in-Some.l in
    let H = held v.store.now v.pool.now v.inside a.object a.page.0 l c.in-Some.ensures in
    shared_room v.store.now v.pool.now a.object a.page.0 c.requires l.frame H.present (sharing v.store.now v.pool.now v.inside a.object a.page.0 l c.in-Some.ensures _ c.if-is_shared.ensures)

pub copy_page-requires-clause-present : goal.copy_page-requires-clause-present
copy_page-requires-clause-present c =
    let a = c.args.address in
    let v = c.args.self.now in
    let l = c.in-Some.l in
    let H = held v.store.now v.pool.now v.inside a.object a.page.0 l c.in-Some.ensures in
    (H.present, sharing v.store.now v.pool.now v.inside a.object a.page.0 l c.in-Some.ensures _ c.if-is_shared.ensures)

pub returns-in-None : goal.returns-in-None
returns-in-None c =
    let a = c.args.address in
    let v = c.args.self.now in
    let s = v.store.now in
    let m = located_absent s (inside_table s v.pool.now v.inside) (inside_room s v.pool.now v.inside) a.object a.page.0 v.pool.now (sym c.in-None.ensures) in
    let E = c.add_page.ensures.0 in
    (absent_stepped s v.pool.now v.inside a.object a.page.0 a.in_object m _ _ _ E.0, E.1)

pub returns-in-Some-2 : goal.returns-in-Some-2
returns-in-Some-2 c =
    let a = c.args.address in
    let v = c.args.self.now in
    let l = c.in-Some.l in
    let H = held v.store.now v.pool.now v.inside a.object a.page.0 l c.in-Some.ensures in
    let q = sharing v.store.now v.pool.now v.inside a.object a.page.0 l c.in-Some.ensures _ c.if-is_shared.ensures in
    (stay_stepped v.store.now v.pool.now v.inside a.object a.page.0 a.in_object l.frame H.present q, (refl, refl))
