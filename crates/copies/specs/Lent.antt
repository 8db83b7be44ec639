-- A PART OF A CALL that does the book's work u, in a store and a pool that are lent together.
use Rattle.page_steps.specs.declared.work.Work.{Work}
use Rattle.book.specs.Work as book
use Rattle.page_steps.specs.Lent.{Same}
use Rattle.copies.specs.Room.{Worked}

abbrev pub Works : Work → book.Work → Work → Type 0
Works v u w = (Worked v.store.now v.pool.now u w.store.now w.pool.now) × (Same v w)
