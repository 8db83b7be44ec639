-- A COPY of bytes from one object to another, in a store and a pool that are lent together.
use Rattle.refusals.specs.declared.Passage.{Passage}
use Rattle.page_steps.specs.declared.work.Work.{Work}
use Rattle.book.specs.Bytes.{reading}
use Rattle.writes.specs.Written.{Written}
use Rattle.moves.specs.Source.{Elsewhere}
use Rattle.page_steps.specs.Lent.{Same, state}

abbrev pub Copied : Passage → Work → Work → Type 0
Copied p v w = (Written v.store.now v.pool.now p.object p.to (reading p.source p.from p.n (state v)) w.store.now w.pool.now) × (Elsewhere p.object (state v) (state w)) × (Same v w)
