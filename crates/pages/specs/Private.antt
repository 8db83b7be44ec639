-- A PAGE THAT IS PRESENT AND PRIVATE, as `States::private_near` finds it: it is written where it is.
use Rattle.std.specs.Prelude.{◌≡◌, refl, false, List, ℕ, ltb, Option, Some, None}
use Rattle.std.proofs.Common.{ap, subst, ◌∙◌, arith}
use Rattle.store.specs.declared.Store.{Store}
use Rattle.lists.specs.Test.{by-test}
use Rattle.ranges.specs.Range.{line}
use Rattle.ranges.specs.Table.{holders}
use Rattle.book.specs.Work.{is_shared}
use Rattle.table.specs.Table.{ranges_of}
use Rattle.places.specs.Places.{place_at}
use Rattle.store.specs.Abs.{used}
use Rattle.look.specs.Look.{located, private_in}
use Rattle.pages.specs.Inside.{Inside, inside_table, inside_room}
use Rattle.pages.specs.Present.{Present, located_held}
-- frame f has page p of object o, and no other range shares it
use Rattle.look.specs.declared.Located.{Located}

pub record Private (s : Store) (x : List ℕ) (o p f : ℕ) : Type 0 where
  pub present : Present s x o p f
  pub alone : is_shared (place_at s.places f).backing (ranges_of (used s)) ≡ false

pub private_held : (s : Store) (x : List ℕ) → Inside s x → (o p f : ℕ) → private_in s (located s (line o p)) ≡ Some f → Private s x o p f
private_held s x I o p f h = go (located s (line o p)) refl h
  where
    go : (q : Option Located) → located s (line o p) ≡ q → private_in s q ≡ Some f → Private s x o p f
    go None e k = absurd (let z : ◌≡◌ {A = ℕ} 0 1 = cc in omega arith)
    go (Some l) e k =
        let H = located_held s (inside_table s x I) (inside_room s x I) o p x l e in
        by-test (ltb 1 (holders l.backing (ranges_of (used s))))
        (λ t. let j : None ≡ Some f = rw t at k in absurd (let z : ◌≡◌ {A = ℕ} 0 1 = cc in omega arith))
        (λ t.
        let j : Some l.frame ≡ Some f = rw t at k in
        let z : l.frame ≡ f = cc in
        subst (λ (i : ℕ). Private s x o p i) z (record { present = H.present; alone = ap (λ b. ltb 1 (holders b (ranges_of (used s)))) H.backing ∙ t }))
