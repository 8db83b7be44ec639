-- PAGE STEPS on a store and a pool that are lent together: the same two stay lent.
use Rattle.std.specs.Prelude.{◌≡◌, List, ℕ}
use Rattle.std.proofs.Common.{◌∙◌}
use Rattle.page_steps.specs.declared.address.PageAddress.{PageAddress}
use Rattle.page_steps.specs.declared.work.Work.{Work}
use Rattle.book.specs.Work as book
use Rattle.store.specs.Spare.{work_of}
use Rattle.pages.specs.Inside.{Stepped, Wrote}

-- w lends the store and the pool that v lends
abbrev pub Same : Work → Work → Type 0
Same v w = (w.store.ghost_name ≡ v.store.ghost_name) × (w.pool.ghost_name ≡ v.pool.ghost_name)

pub same_both : (u v w : Work) → Same u v → Same v w → Same u w
same_both u v w a b = (b.0 ∙ a.0, b.1 ∙ a.1)

-- the state that they stand for
abbrev pub state : Work → book.Work
state w = work_of w.store.now w.pool.now

-- a page step that makes of it the state u, and in which the page has frame f
abbrev pub Steps : Work → PageAddress → book.Work → Work → ℕ → Type 0
Steps v a u w f = (Stepped v.store.now v.pool.now a.object a.page.0 u w.store.now w.pool.now f) × (Same v w)

-- a page written, its bytes changed by g
abbrev pub Writes : Work → PageAddress → (List ℕ → List ℕ) → Work → Type 0
Writes v a g w = (Wrote v.store.now v.pool.now a.object a.page.0 g w.store.now w.pool.now) × (Same v w)
