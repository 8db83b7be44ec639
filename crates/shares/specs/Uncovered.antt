-- WHOLE PAGES LEFT UNCOVERED, in code: a cut of the table is the book's `uncover`.
use Rattle.std.specs.Prelude.{◌≡◌, refl, List, ℕ, ◌+◌, ◌≤◌, ◌<◌, length}
use Rattle.std.proofs.Common.{ap, ◌∙◌, inr, arith, length-take-le, ne_eqb}
use Rattle.std.proofs.lemmas.List.{length-map}
use Rattle.store.specs.declared.Store.{Store}
use Rattle.ranges.specs.Range.{line, carve, slot_at}
use Rattle.ranges.specs.Cut.{carve_below}
use Rattle.ranges.specs.Few.{carve_more}
use Rattle.book.specs.Pages.{with_ranges, uncover}
use Rattle.laws.specs.Kept.{uncover_kept}
use Rattle.table.specs.Table.{ranges_of, ranged_of}
use Rattle.edit.specs.Edit.{cut_table}
use Rattle.store.specs.Abs.{used, table_of}
use Rattle.store.specs.Ranges.{cut_ranges, cut_rest}
use Rattle.store.specs.Kinds.{cut_member, cut_agreed}
use Rattle.store.specs.Spare.{work_of}
use Rattle.pages.specs.Inside.{Inside, inside_table}
use Rattle.shares.specs.Reranged.{Reranged, reranged_none}
use Rattle.shares.specs.Retabled.{Retabled, retabled}

-- no page: the store as it is
pub uncovered_none : (s : Store) (o p : ℕ) (x : List ℕ) → Inside s x → Reranged s x (uncover o p 0 (work_of s x)) (line o p) s
unfolding uncover
uncovered_none s o p x I = reranged_none s x (work_of s x) (line o p) I refl

-- the table has room for what a cut leaves
pub uncovered_room : (s : Store) (x : List ℕ) (a e : ℕ) → Inside s x → a ≤ e → s.count + 1 ≤ 512 → length (carve a e (ranged_of (used s))) ≤ 512
unfolding ranged_of
uncovered_room s x a e I h l =
    let T = inside_table s x I in
    let n : length (ranged_of (used s)) ≡ s.count = length-map (used s) _ ∙ length-take-le s.count s.ranges (omega (arith, T.full, T.few)) in
    omega (arith, carve_more a e 0 (ranged_of (used s)) h T.rising)

-- THE PAGES CUT OUT
pub uncovered : (s : Store) (o p n : ℕ) (t : Store) → 0 < n → Retabled s (cut_table s.ranges s.count (line o p) (line o p + n)) t
    → (x : List ℕ) → Inside s x → Reranged s x (uncover o p n (work_of s x)) (line o p) t
unfolding uncover work_of
uncovered s o p n t l R x I =
    let a = line o p in
    let e = line o p + n in
    let T = inside_table s x I in
    let c = cut_ranges s.ranges s.count a e (table_of t) R.table in
    retabled s x I _ t R a
    (λ g h. ap (slot_at g) c ∙ carve_below a e g (ranges_of (used s)) (omega arith) h)
    (uncover o p n (work_of s x))
    (rw (ne_eqb n 0 (λ z. omega arith)) (ap (λ rs. with_ranges rs (work_of s x)) c))
    (uncover_kept o p n (work_of s x) (work_of s x) (record { good = I.good; size = refl; cells = refl })).good
    (record {
      kinds = λ q m. inr (cut_member s.ranges s.count T.rising a e (table_of t) (omega arith) R.table q m);
      agree = cut_agreed s.ranges s.count T.rising a e (table_of t) (omega arith) R.table I.agree;
      rest = cut_rest s.ranges s.count a e (table_of t) R.table;
    })
