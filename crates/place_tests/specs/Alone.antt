-- Frames at one place are in one chain, so that a frame is compared with those of its chain only.
use Rattle.std.specs.Prelude.{◌≡◌, refl, Bool, true, false, not, ◌&&◌, ◌||◌, List, ℕ, zero, suc, ◌+◌, ◌≤◌, ◌<◌, eqb, get_or}
use Rattle.std.proofs.Common.{sym, ◌∙◌, add-zero, arith, eq-eqb, lt-ltb, ne_eqb}
use Rattle.std.proofs.lemmas.Bool.{false≢true}
use Rattle.places.specs.declared.Place.{Place}
use Rattle.chains.specs.declared.Chains.{Chains}
use Rattle.lists.specs.Test.{by-eq}
use Rattle.lists.specs.Every.{at_below}
use Rattle.places.specs.Places.{place_at, stands_at}
use Rattle.chains.specs.Chains.{Linked, chained_over, in_chain}
use Rattle.chains.specs.Walk.{Walk, walk_before}
use Rattle.charts.specs.Charts.{chain_at, chain_of, chain_to}
use Rattle.store.specs.Sound.{alone?, apart?}
use Rattle.range_tests.specs.Chaining.{Charted}

-- frame f stands somewhere
abbrev pub Used : List Place → ℕ → Type 0
Used ps f = (place_at ps f).backing ≡ 0 → ⊥

module _ (p : Place) where
  pub chain_free : p.backing ≡ 0 → 1024 ≤ chain_of p
  chain_free e = rw (eq-eqb p.backing 0 e) (omega arith)

  pub chain_used : (p.backing ≡ 0 → ⊥) → chain_of p ≡ chain_to p.backing p.index
  chain_used e = rw (ne_eqb p.backing 0 e)

-- frames that are free, d of them, are passed over
pub charted_free : (ps : List Place) (c : Chains) (n d : ℕ) → ((f : ℕ) → n ≤ f → f < n + d → (place_at ps f).backing ≡ 0) → Charted (chain_at ps) n c → Charted (chain_at ps) (n + d) c
charted_free ps c n zero e C = rw (add-zero n) C
charted_free ps c n (suc d) e C =
    let q : n + suc d ≡ n + d + 1 = omega arith in
    let D = charted_free ps c n d (λ f l h. e f l (omega arith)) C in
    rw q
    (record {
      chained = chained_over (chain_at ps) c.heads c.next (n + d) D.chained (chain_free (place_at ps (n + d)) (e (n + d) (omega arith) (omega arith)));
      heads = D.heads;
      next = D.next;
    })

-- frame g does not stand at the place of frame f
abbrev pub apart_from : List Place → ℕ → ℕ → Bool
apart_from ps f g = apart? (place_at ps g) (place_at ps f)

module _ (ps : List Place) (f : ℕ) where
  -- a free frame stands at no other's place
  pub alone_free : (place_at ps f).backing ≡ 0 → true ≡ alone? ps f
  unfolding alone?
  alone_free e = sym (at_below (apart_from ps f) f (λ g k. rw (eq-eqb (place_at ps f).backing 0 e)))

  -- a frame in use, and a frame at its place or not
  module _ (used : Used ps f) (g : ℕ) where
    pub apart_stands : apart_from ps f g ≡ not (stands_at (place_at ps f).backing (place_at ps f).index (place_at ps g))
    apart_stands =
        rw (ne_eqb (place_at ps f).backing 0 used)
        (by-eq (place_at ps g).backing 0
        (λ z. rw (z, ne_eqb 0 (place_at ps f).backing (λ e. used (sym e))))
        (λ z. rw (lt-ltb 0 (place_at ps g).backing (omega arith)) (either (eqb (place_at ps g).backing (place_at ps f).backing) (eqb (place_at ps g).index (place_at ps f).index))))
      where
        either : (b i : Bool) → (not b || not i) ≡ not (b && i)
        either true i = refl
        either false i = refl

    -- a frame outside of the chain of frame f does not stand at its place
    pub apart_over : in_chain (chain_at ps) (chain_at ps f) g ≡ false → apart_from ps f g ≡ true
    apart_over o =
        by-eq (place_at ps g).backing (place_at ps f).backing
        (λ b. by-eq (place_at ps g).index (place_at ps f).index
        (λ i. absurd (false≢true (sym o ∙ eq-eqb (chain_at ps g) (chain_at ps f) (rw (b, i)))))
        (λ i. rw (ne_eqb (place_at ps f).backing 0 used, eq-eqb (place_at ps g).backing (place_at ps f).backing b, ne_eqb (place_at ps g).index (place_at ps f).index i)))
        (λ b. rw (ne_eqb (place_at ps f).backing 0 used, ne_eqb (place_at ps g).backing (place_at ps f).backing b))

  pub walk_alone : Used ps f → (ns : List ℕ) → Linked (chain_at ps) (f + 1) ns → Walk ns (apart_from ps f) f (get_or ns f 0)
  walk_alone used ns L =
      walk_before (chain_at ps) ns (f + 1) L (apart_from ps f) f (omega arith) (omega (arith, chain_used (place_at ps f) used)) (λ g b o. apart_over used g o)
