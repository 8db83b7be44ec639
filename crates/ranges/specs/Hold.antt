-- Who holds a backing, and who does after a range is put over its span.
use Rattle.std.specs.Prelude.{◌≡◌, refl, ◌⊎◌, ℕ, suc, ◌≤◌, eqb}
use Rattle.std.proofs.Common.{ap, sym, ◌∙◌, ⊎_elim, arith, eqb-true, ne_eqb}
use mathlib.Core.List.Memᴰ
use mathlib.Core.List.{List, [], ◌∷◌, ◌++◌, Memᴰ}
use Rattle.std.proofs.lemmas.Bool.{eqb-false}
use Rattle.lists.specs.Test.{by-test, by-lt, by-eq}
use Rattle.ranges.specs.Range.{Range, from, upto, front, back, carve, insert, put, Rising}
use Rattle.ranges.specs.Table.{holders}
use Rattle.ranges.specs.Cut.{front_some, front_none, back_some, back_none}
use Rattle.ranges.specs.Put.{insert_here, insert_later}
use Rattle.ranges.specs.Over.{whole_piece}

-- no range, or one, holds a backing
pub unheld : (b : ℕ) (rs : List Range) (r : Range) → holders b rs ≡ 0 → Memᴰ r rs → b ≡ r.backing → ⊥
unfolding holders
unheld b [] r h m e = Memᴰ.not-nil m
unheld b (q ∷ rs) r h m e =
    by-test (eqb b q.backing)
    (λ t. let z : suc (holders b rs) ≡ 0 = rw t at h in omega arith)
    (λ t. ⊎_elim
    (λ i. eqb-false b q.backing t (e ∙ ap (λ x. x.backing) i))
    (λ n. unheld b rs r (rw t at h) n e)
    (Memᴰ.cases_cons m))

pub held_once : (b : ℕ) (rs : List Range) (r q : Range) → holders b rs ≡ 1 → Memᴰ r rs → Memᴰ q rs → b ≡ r.backing → b ≡ q.backing → r ≡ q
unfolding holders
held_once b [] r q h m n e f = absurd (Memᴰ.not-nil m)
held_once b (x ∷ rs) r q h m n e f =
    by-test (eqb b x.backing)
    (λ t. let z : suc (holders b rs) ≡ 1 = rw t at h in
    let y : holders b rs ≡ 0 = omega arith in
    ⊎_elim
    (λ i. ⊎_elim (λ j. i ∙ sym j) (λ k. absurd (unheld b rs q y k f)) (Memᴰ.cases_cons n))
    (λ k. absurd (unheld b rs r y k e))
    (Memᴰ.cases_cons m))
    (λ t. ⊎_elim
    (λ i. absurd (eqb-false b x.backing t (e ∙ ap (λ y. y.backing) i)))
    (λ k. ⊎_elim
    (λ j. absurd (eqb-false b x.backing t (f ∙ ap (λ y. y.backing) j)))
    (λ l. held_once b rs r q (rw t at h) k l e f)
    (Memᴰ.cases_cons n))
    (Memᴰ.cases_cons m))

-- a backing that a range holds and that is not shared has one holder
pub held_some : (b : ℕ) (rs : List Range) (r : Range) → Memᴰ r rs → b ≡ r.backing → holders b rs ≤ 1 → holders b rs ≡ 1
held_some b rs r m e h = by-eq (holders b rs) 0 (λ z. absurd (unheld b rs r z m e)) (λ z. omega arith)

other_piece : (b a e : ℕ) (r : Range) (rest : List Range) → (b ≡ r.backing → ⊥) → holders b (front a r ++ back e r ++ rest) ≡ holders b rest
unfolding holders
other_piece b a e r rest n =
    by-lt (from r) a
    (λ p. by-lt e (upto r) (λ q. rw (front_some a r p, back_some e r q, ne_eqb b r.backing n)) (λ q. rw (front_some a r p, back_none e r q, ne_eqb b r.backing n)))
    (λ p. by-lt e (upto r) (λ q. rw (front_none a r p, back_some e r q, ne_eqb b r.backing n)) (λ q. rw (front_none a r p, back_none e r q)))

holders_carve : (b a e low : ℕ) (rs : List Range) → a ≤ e → Rising low rs
    → ((r : Range) → Memᴰ r rs → b ≡ r.backing → (upto r ≤ a) ⊎ (e ≤ from r)) → holders b (carve a e rs) ≡ holders b rs
unfolding carve Rising holders
holders_carve b a e low [] h s c = refl
holders_carve b a e low (r ∷ rs) h s c =
    let ih : holders b (carve a e rs) ≡ holders b rs = holders_carve b a e (upto r) rs h s.2 (λ q m. c q (Memᴰ.tail m)) in
    by-test (eqb b r.backing)
    (λ t. rw (whole_piece a e r h s.1 (c r (Memᴰ.head refl) (eqb-true b r.backing t)), t) (ap suc ih))
    (λ t. other_piece b a e r (carve a e rs) (eqb-false b r.backing t) ∙ rw t ih)

holders_insert_other : (b : ℕ) (n : Range) (rs : List Range) → (b ≡ n.backing → ⊥) → holders b (insert n rs) ≡ holders b rs
unfolding holders insert
holders_insert_other b n [] e = rw (ne_eqb b n.backing e)
holders_insert_other b n (x ∷ rs) e =
    by-lt (from n) (from x)
    (λ p. rw (insert_here n x rs p, ne_eqb b n.backing e))
    (λ p. rw (insert_later n x rs p) (by-test (eqb b x.backing) (λ t. rw t (ap suc (holders_insert_other b n rs e))) (λ t. rw t (holders_insert_other b n rs e))))

pub holders_put : (b : ℕ) (n : Range) (rs : List Range) → Rising 0 rs → (b ≡ n.backing → ⊥)
    → ((r : Range) → Memᴰ r rs → b ≡ r.backing → (upto r ≤ from n) ⊎ (upto n ≤ from r)) → holders b (put n rs) ≡ holders b rs
unfolding put
holders_put b n rs s ne c = holders_insert_other b n (carve (from n) (upto n) rs) ne ∙ holders_carve b (from n) (upto n) 0 rs (omega arith) s c
