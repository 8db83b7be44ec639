-- `SoundStore::shadow` meets its contract: the rows of both spans, row 7, then those of what it needs.
use Rattle.std.proofs.Common.{◌≡◌, Err, rules, ap, sym, ◌∙◌}
use Rattle.book.specs.Need.{needing}
use Rattle.book.specs.Book.{entry, lacking, lowest}
use Rattle.store.specs.Abs.{book_of}
use Rattle.store.specs.Good.{sound_table}
use Rattle.store.specs.Iff.{sound_says}
use Rattle.refusals.specs.Refuse.{pairing, paired, shadow_number, refused_first, applies, passes, known, part_first, part_second, whole_both}
use Rattle.refusals.proofs.SoundStore.shadow.Goals as goal
use Rattle.refusals.proofs.SoundStore.shadow.Goals.{then-place-ne0-via-then-place-ne0, then-place-ne0-via-else-place-ne0+then-place-ne0-2}

pub returns-in_err-between-clause-number : goal.returns-in_err-between-clause-number
returns-in_err-between-clause-number c =
    let a = c.args in
    let p = a.passage in
    let e = c.in_err-between in
    let q : c.from_residual.result ≡ Err e.field-0.0 = search rules in
    rw q (shadow_number a.self.now.store.now _ a.pool p.source p.from p.object p.to p.n
    (λ x. refused_first (pairing a.self.now.store.now a.pool p.source p.from p.object p.to p.n) _ e.field-0.0 e.ensures.number))

pub returns-then-place-ne0-clause-number : goal.returns-then-place-ne0-clause-number
returns-then-place-ne0-clause-number c =
    let a = c.args in
    let p = a.passage in
    shadow_number a.self.now.store.now _ a.pool p.source p.from p.object p.to p.n
    (λ x. paired a.self.now.store.now a.pool p.source p.from p.object p.to p.n c.in_ok-between.ensures.number
    (applies (elim c.then-place-ne0.branch [
      | then-place-ne0-via-then-place-ne0 w ↦ part_first p.from p.n (λ z. w.if-place-ne0.true (c.place.ensures ∙ z))
      | then-place-ne0-via-else-place-ne0+then-place-ne0-2 w ↦
          part_second p.from p.n (sym c.place.ensures ∙ w.if-place-ne0.false) (λ z. w.if-place-ne0-2.true (w.place-else-place-ne0.ensures ∙ z))
    ])))

pub met_whole-requires : goal.met_whole-requires
met_whole-requires c =
    let s = c.args.self.now in
    sound_table s.store.now c.in_ok-between.ensures.sized (sound_says s.store.now s.sound)

pub returns-in_err-lacking-clause-number : goal.returns-in_err-lacking-clause-number
returns-in_err-lacking-clause-number c =
    let a = c.args in
    let s = a.self.now.store.now in
    let p = a.passage in
    let e = c.in_err-lacking in
    let q : c.from_residual-in_err-lacking.result ≡ Err e.field-0.0 = search rules in
    let m = c.met_whole.ensures.0 in
    rw q (shadow_number s _ a.pool p.source p.from p.object p.to p.n
    (λ x. paired s a.pool p.source p.from p.object p.to p.n c.in_ok-between.ensures.number
    (passes (whole_both p.from p.n (sym c.place.ensures ∙ c.if-place-ne0.false) (sym c.place-else-place-ne0.ensures ∙ c.if-place-ne0-2.false))
    (known (e.ensures x ∙ ap (λ m. lowest (lacking (entry (book_of s x)) (needing 0 m))) (rw (c.origin.ensures, c.in_ok-between.ensures.same) at (m x)))))))

pub returns-clause-number : goal.returns-clause-number
returns-clause-number c =
    let a = c.args in
    let s = a.self.now.store.now in
    let p = a.passage in
    let m = c.met_whole.ensures.0 in
    shadow_number s _ a.pool p.source p.from p.object p.to p.n
    (λ x. paired s a.pool p.source p.from p.object p.to p.n c.in_ok-between.ensures.number
    (passes (whole_both p.from p.n (sym c.place.ensures ∙ c.if-place-ne0.false) (sym c.place-else-place-ne0.ensures ∙ c.if-place-ne0-2.false))
    (known (c.in_ok-lacking.ensures x ∙ ap (λ m. lowest (lacking (entry (book_of s x)) (needing 0 m))) (rw (c.origin.ensures, c.in_ok-between.ensures.same) at (m x))))))
