use Rattle.std.proofs.Common.{rules, ◌≡◌, List, ℕ, true, ◌+◌, ◌-◌, ◌≤◌, get_or, [], ◌∷◌, ◌∙◌, sym, ap, arith, length, min, Some, None, refl, tests}
use Rattle.std.proofs.Math.ListN.{get_or-eq_default}
use Rattle.lists.specs.Test.{by-lt}
use Rattle.chains.specs.Entries.{entries, entries_end, entries_none, entries_step, left}
use Rattle.chains.proofs.ChainIterator.next.Goals as goal
use Rattle.chains.proofs.ChainIterator.next.Goals.{then-self+in_ok-entry+in_ok-link, else-self}

pub returns-in_err-entry-clause-steps : goal.returns-in_err-entry-clause-steps
returns-in_err-entry-clause-steps c =
    let s = c.self.inside in
    let z : s.link ≡ 0 = search rules in
    let m : min (get_or s.next.now (s.link - 1) 0) (s.link - 1) ≡ 0 = omega arith in
    let v : left s.next.now s.link s.passed ≡ left s.next.now s.link true = ap (left s.next.now s.link) c.if-self.true in
    let e : c.args.self.now ≡ [] = sym c.self.view_is ∙ v ∙ entries_end s.next.now _ m in
    search (rules, e)

pub returns-in_err-link-clause-steps : goal.returns-in_err-link-clause-steps
returns-in_err-link-clause-steps c =
    let s = c.self.inside in
    let z : c.in_ok-entry.field-0 + 1 ≡ s.link = search rules in
    let l : 1024 ≤ c.in_ok-entry.field-0 = search rules in
    let n : length s.next.now ≡ 1024 = search rules in
    let d : get_or s.next.now (s.link - 1) 0 ≡ 0 = get_or-eq_default s.next.now 0 {n = s.link - 1} (omega arith) in
    let m : min (get_or s.next.now (s.link - 1) 0) (s.link - 1) ≡ 0 = omega arith in
    let v : left s.next.now s.link s.passed ≡ left s.next.now s.link true = ap (left s.next.now s.link) c.if-self.true in
    let e : c.args.self.now ≡ [] = sym c.self.view_is ∙ v ∙ entries_end s.next.now _ m in
    search (rules, e)

pub returns-in_err-i-clause-steps : goal.returns-in_err-i-clause-steps
returns-in_err-i-clause-steps c =
    let s = c.self.inside in
    let t = c.if-self.self-inside in
    let h : c.args.self.now ≡ entries c.if-self.self-inside.next.now c.if-self.self-inside.link =
    elim c.if-self.branch [
      | then-self+in_ok-entry+in_ok-link w ↦
          let v : left s.next.now s.link s.passed ≡ left s.next.now s.link true = ap (left s.next.now s.link) w.if-self.true in
          let z : w.in_ok-entry.field-0 + 1 ≡ s.link = search rules in
          let q : w.in_ok-entry.field-0 ≡ s.link - 1 = omega arith in
          let n : w.in_ok-link.field-0.now ≡ get_or s.next.now w.in_ok-entry.field-0 0 = search rules in
          let m : w.min-self-inside.result ≡ min (get_or s.next.now (s.link - 1) 0) (s.link - 1) =
          w.min-self-inside.ensures ∙ ap (λ k. min k (s.link - 1)) (n ∙ ap (λ j. get_or s.next.now j 0) q) in
          rw (w.self-inside-is, m) (sym c.self.view_is ∙ v)
      | else-self w ↦ rw w.self-inside-is (sym c.self.view_is ∙ ap (left s.next.now s.link) w.if-self.false)
    ] in
    let z : t.link ≡ 0 = search rules in
    let m : min (get_or t.next.now (t.link - 1) 0) (t.link - 1) ≡ 0 = omega arith in
    let e : c.args.self.now ≡ [] = h ∙ entries_end t.next.now t.link z in
    let f : entries t.next.now (min (get_or t.next.now (t.link - 1) 0) (t.link - 1)) ≡ [] = entries_end t.next.now _ m in
    search (rules, e, f)

pub returns-clause-steps : goal.returns-clause-steps
returns-clause-steps c =
    let s = c.self.inside in
    let t = c.if-self.self-inside in
    let i = c.in_ok-i.i in
    let h : c.args.self.now ≡ entries c.if-self.self-inside.next.now c.if-self.self-inside.link =
    elim c.if-self.branch [
      | then-self+in_ok-entry+in_ok-link w ↦
          let v : left s.next.now s.link s.passed ≡ left s.next.now s.link true = ap (left s.next.now s.link) w.if-self.true in
          let z : w.in_ok-entry.field-0 + 1 ≡ s.link = search rules in
          let q : w.in_ok-entry.field-0 ≡ s.link - 1 = omega arith in
          let n : w.in_ok-link.field-0.now ≡ get_or s.next.now w.in_ok-entry.field-0 0 = search rules in
          let m : w.min-self-inside.result ≡ min (get_or s.next.now (s.link - 1) 0) (s.link - 1) =
          w.min-self-inside.ensures ∙ ap (λ k. min k (s.link - 1)) (n ∙ ap (λ j. get_or s.next.now j 0) q) in
          rw (w.self-inside-is, m) (sym c.self.view_is ∙ v)
      | else-self w ↦ rw w.self-inside-is (sym c.self.view_is ∙ ap (left s.next.now s.link) w.if-self.false)
    ] in
    let z : i + 1 ≡ t.link = search rules in
    let q : t.link - 1 ≡ i = omega arith in
    by-lt i 1024
    (λ l.
    let r : c.and.result ≡ Some i = search (rules, tests) in
    let e : c.args.self.now ≡ i ∷ entries t.next.now (min (get_or t.next.now (t.link - 1) 0) (t.link - 1)) =
    rw q (h ∙ ap (λ k. entries t.next.now k) (sym z) ∙ entries_step t.next.now i l) in
    rw r e)
    (λ l.
    let r : c.and.result ≡ None = search (rules, tests) in
    let y : t.next.now ≡ s.next.now = elim c.if-self.branch [ then-self+in_ok-entry+in_ok-link w ↦ rw w.self-inside-is refl | else-self w ↦ rw w.self-inside-is refl ] in
    let u : length s.next.now ≡ 1024 = search rules in
    let n : length t.next.now ≡ 1024 = ap (λ (l : List ℕ). length l) y ∙ u in
    let d : get_or t.next.now (t.link - 1) 0 ≡ 0 = get_or-eq_default t.next.now 0 {n = t.link - 1} (omega arith) in
    let m : min (get_or t.next.now (t.link - 1) 0) (t.link - 1) ≡ 0 = omega arith in
    rw r (h ∙ entries_none t.next.now t.link (omega arith), entries_end t.next.now _ m))

pub returns-clause-goes : goal.returns-clause-goes
returns-clause-goes c =
    let s = c.self.inside in
    let t = c.if-self.self-inside in
    let i = c.in_ok-i.i in
    let h : c.args.self.now ≡ entries c.if-self.self-inside.next.now c.if-self.self-inside.link =
    elim c.if-self.branch [
      | then-self+in_ok-entry+in_ok-link w ↦
          let v : left s.next.now s.link s.passed ≡ left s.next.now s.link true = ap (left s.next.now s.link) w.if-self.true in
          let z : w.in_ok-entry.field-0 + 1 ≡ s.link = search rules in
          let q : w.in_ok-entry.field-0 ≡ s.link - 1 = omega arith in
          let n : w.in_ok-link.field-0.now ≡ get_or s.next.now w.in_ok-entry.field-0 0 = search rules in
          let m : w.min-self-inside.result ≡ min (get_or s.next.now (s.link - 1) 0) (s.link - 1) =
          w.min-self-inside.ensures ∙ ap (λ k. min k (s.link - 1)) (n ∙ ap (λ j. get_or s.next.now j 0) q) in
          rw (w.self-inside-is, m) (sym c.self.view_is ∙ v)
      | else-self w ↦ rw w.self-inside-is (sym c.self.view_is ∙ ap (left s.next.now s.link) w.if-self.false)
    ] in
    let z : i + 1 ≡ t.link = search rules in
    let q : t.link - 1 ≡ i = omega arith in
    by-lt i 1024
    (λ l.
    let r : c.and.result ≡ Some i = search (rules, tests) in
    let e : c.args.self.now ≡ i ∷ entries t.next.now (min (get_or t.next.now (t.link - 1) 0) (t.link - 1)) =
    rw q (h ∙ ap (λ k. entries t.next.now k) (sym z) ∙ entries_step t.next.now i l) in
    rw r (record { on = λ f. (tt, tt, let w = ap (λ (x : List ℕ). length x) e in omega arith); keeps = tt; rests = λ f. tt }))
    (λ l.
    let r : c.and.result ≡ None = search (rules, tests) in
    rw r (record { on = λ f. tt; keeps = tt; rests = λ f. tt }))
