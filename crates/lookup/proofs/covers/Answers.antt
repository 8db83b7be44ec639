-- `lookup::covers` meets its contract: a range of the table that covers the page is the one that a search finds.
use Rattle.std.proofs.Common.{◌≡◌, List, ℕ, ◌+◌, ◌≤◌, ◌<◌, ◌&&◌, Bool, true, false, leb, ltb, leb-true, ltb-true, length, take, length-take-le, get_or, get_or-take, arith, ap, sym, ◌∙◌, rules, of_calls, Bor}
use Rattle.std.specs.Prelude.{Option, Some, None, MatchOption}
use Rattle.std.specs.List.{HoldsAt}
use Rattle.std.proofs.lemmas.Bool.{false≢true}
use Rattle.lists.specs.Test.{and_left, and_right}
use Rattle.table.specs.declared.PageRange.{PageRange}
use Rattle.table.specs.Searching.{begins}
use Rattle.table.specs.Table.{Table, covering_at, ranged_of, zero_range}
use Rattle.lookup.specs.Covers.{covers_found}
use Rattle.lookup.proofs.covers.Goals as goal

-- what is looked up in slot k, of the first `count` of a table, and found to cover page g
there : (R : List PageRange) (count : ℕ) (T : Table R count) (k g : ℕ) (t : Bool) (q : Option (Bor PageRange)) (us : List PageRange) → us ≡ take count R
    → MatchOption q (length us ≤ k) (λ r. (k < length us) × HoldsAt (λ y. r.now ≡ y) us k)
    → MatchOption q (t ≡ false) (λ r. t ≡ (leb (begins r.now) g && ltb g (begins r.now + r.now.length))) → t ≡ true → Some k ≡ covering_at g (ranged_of (take count R))
there R count T k g t None us e h a z = absurd (false≢true (sym a ∙ z))
there R count T k g t (Some r) us e h a z =
    let l : k < count = omega (arith, h.0, ap (λ l. length l) e, length-take-le count R (omega (arith, T.few, T.full))) in
    let s = (T.small k l).ends in
    let i : r.now ≡ get_or R k zero_range = h.1 zero_range ∙ ap (λ l. get_or l k zero_range) e ∙ get_or-take count R k zero_range l in
    let b = and_left (leb (begins r.now) g) (ltb g (begins r.now + r.now.length)) (sym a ∙ z) in
    let c = and_right (leb (begins r.now) g) (ltb g (begins r.now + r.now.length)) (sym a ∙ z) in
    covers_found R count T k g l (omega (arith, leb-true _ _ (rw i at b))) (omega (arith, ltb-true _ _ (rw i at c)))

pub returns : goal.returns
returns c =
    let told : MatchOption c.get.result (c.is_some_and.result ≡ false) (λ r. c.is_some_and.result ≡ (leb (begins r.now) c.args.g && ltb c.args.g (begins r.now + r.now.length))) = search (rules, of_calls) in
    there _ _ c.requires c.args.slot c.args.g c.is_some_and.result c.get.result _ c.used.ensures.rows c.get.ensures.lookup.3 told
