-- What the tests of the frames' places come to, frame by frame.
use Rattle.std.specs.Prelude.{◌≡◌, refl, Bool, true, false, ◌&&◌, List, ℕ, ◌+◌, ◌-◌, ◌*◌, ◌≤◌, ◌<◌, Result, Ok, Err, min, eqb, get_or, replicate}
use Rattle.std.proofs.Common.{sym, ap, ◌∙◌, arith, drop, length, eq-eqb, eqb-true, get_or-drop, get_or-take, ne_eqb, take}
use Rattle.table.specs.declared.PageRange.{PageRange}
use Rattle.places.specs.declared.Place.{Place}
use Rattle.chains.specs.declared.Chains.{Chains}
use Rattle.store.specs.declared.Store.{Store}
use Rattle.window_search.specs.declared.GaveUpAt.{GaveUpAt}
use Rattle.std.proofs.lemmas.Bool.{eqb-false, false≢true}
use Rattle.std.proofs.lemmas.List.{length-take}
use Rattle.lists.specs.Test.{and_left, by-lt, by-test}
use Rattle.lists.specs.Every.{all_below, at_below, below_at, below_fails, below_next, below_zero, none_both, true_both}
use Rattle.ranges.specs.Table.{named}
use Rattle.table.specs.Table.{ranges_of}
use Rattle.places.specs.Places.{is_vacant, nowhere, place_at}
use Rattle.charts.specs.Charts.{chain_at}
use Rattle.store.specs.Abs.{used}
use Rattle.store.specs.Sound.{alone?, window?}
use Rattle.range_tests.specs.Chaining.{Charted, charted_none}
use Rattle.place_tests.specs.Alone.{Used, alone_free, charted_free}
use Rattle.place_tests.specs.Bits.{kept_word, kept?, word_free, zero_place?}

-- place p lies in the window of some range
abbrev pub in_window? : Store → Place → Bool
in_window? s p = named p.backing p.index (ranges_of (used s))

-- what the windows of the store's ranges say
pub window_is : (s : Store) (p : Place) (rs : List PageRange) → rs ≡ used s → (q : Bool) → q ≡ named p.backing p.index (ranges_of rs) → in_window? s p ≡ q
window_is s p rs e q h = sym (h ∙ ap (λ (l : List PageRange). named p.backing p.index (ranges_of l)) e)

-- "Each frame .. stands in exactly one backing at one index, no two at the same", and "lies in the window of some range that holds the vector": of frame f
abbrev pub placed_at? : Store → ℕ → Bool
placed_at? s f = alone? s.places f && window? (ranges_of (used s)) (place_at s.places f)

-- the first f frames pass, and are chained
pub record Seated (s : Store) (f : ℕ) (c : Chains) : Type 0 where
  pub passed : all_below (placed_at? s) f ≡ true
  pub charted : Charted (chain_at s.places) f c

pub seated_none : (s : Store) (c : Chains) → c.heads ≡ replicate 1024 0 → c.next ≡ replicate 1024 0 → Seated s 0 c
seated_none s c h n = record { passed = below_zero (placed_at? s); charted = charted_none (chain_at s.places) c h n }

-- whether the first n frames pass, and those are chained then; where searches were given up, the frames before that frame pass, and are chained
abbrev pub Placed : Store → ℕ → Chains → Result Bool GaveUpAt → Type 0
Placed s n c (Ok q) = (q ≡ all_below (placed_at? s) n) × (q ≡ true → Charted (chain_at s.places) n c)
Placed s n c (Err e) = (e.frame ≤ n) × Seated s e.frame c

and_true : (q : Bool) → (q && true) ≡ q
and_true true = refl
and_true false = refl

-- what the tests of a frame in use say
module _ (s : Store) (f : ℕ) (u : Used s.places f) where
  placed_is : placed_at? s f ≡ (alone? s.places f && in_window? s (place_at s.places f))
  placed_is = rw (ne_eqb (place_at s.places f).backing 0 u)

  pub placed_by : in_window? s (place_at s.places f) ≡ true → (q : Bool) → q ≡ alone? s.places f → placed_at? s f ≡ q
  placed_by e q p = placed_is ∙ rw (e, ← p) (and_true q)

  pub placed_outside : in_window? s (place_at s.places f) ≡ false → placed_at? s f ≡ false
  placed_outside e = placed_is ∙ rw e (none_both (alone? s.places f))

-- ---- frames that are free pass, and are in no chain
pub seated_free : (s : Store) (f e : ℕ) → f ≤ e → ((g : ℕ) → f ≤ g → g < e → (place_at s.places g).backing ≡ 0) → (c : Chains) → Seated s f c → Seated s e c
seated_free s f e b free c S = record {
  passed = at_below (placed_at? s) e (λ g l. by-lt g f (λ m. below_at (placed_at? s) f S.passed g m) (λ m. one g (free g m l)));
  charted = let q : f + (e - f) ≡ e = omega arith in rw q at (charted_free s.places c f (e - f) (λ g m k. free g m (omega arith)) S.charted);
}
  where
    one : (g : ℕ) → (place_at s.places g).backing ≡ 0 → placed_at? s g ≡ true
    one g z = true_both _ _ (sym (alone_free s.places g z)) (rw (eq-eqb (place_at s.places g).backing 0 z))

-- one frame more, which is free
pub seated_over : (s : Store) (f : ℕ) (c : Chains) → (place_at s.places f).backing ≡ 0 → Seated s f c → Seated s (f + 1) c
seated_over s f c z S = seated_free s f (f + 1) (omega arith) (λ g l h. let e : g ≡ f = omega arith in rw e z) c S

-- one frame more, which is in use and passes
pub seated_next : (s : Store) (f : ℕ) (c d : Chains) → Used s.places f → in_window? s (place_at s.places f) ≡ true → alone? s.places f ≡ true
    → Charted (chain_at s.places) (f + 1) d → Seated s f c → Seated s (f + 1) d
seated_next s f c d u w a D S = record { passed = below_next (placed_at? s) f S.passed (placed_by s f u w true (sym a)); charted = D }

-- what a test of one frame, or of fewer frames, says of n
pub placed_fails : (s : Store) (n f : ℕ) (c : Chains) → f < n → placed_at? s f ≡ false → Placed s n c (Ok false)
placed_fails s n f c l e = (below_fails (placed_at? s) n f l e, λ h. absurd (false≢true h))

pub placed_less : (s : Store) (m n : ℕ) (c : Chains) → m ≤ n → Placed s m c (Ok false) → Placed s n c (Ok false)
placed_less s m n c l P =
    (by-test (all_below (placed_at? s) n) (λ h. P.0 ∙ at_below (placed_at? s) m (λ k b. below_at (placed_at? s) n h k (omega arith)) ∙ sym h) (λ h. sym h), λ h. absurd (false≢true h))

pub placed_seated : (s : Store) (n : ℕ) (c : Chains) → Placed s n c (Ok true) → Seated s n c
placed_seated s n c P = record { passed = sym P.0; charted = P.1 refl }

-- place k of those of the frames from a up to e is that of frame a + k
module _ (ps : List Place) (a e k : ℕ) (h : k < length (take (e - a) (drop a ps))) where
  below_end : k < e - a
  below_end = omega (arith, h, length-take (e - a) (drop a ps))

  pub part_low : a + k < e
  part_low = omega (arith, below_end)

  pub part_at : get_or (take (e - a) (drop a ps)) k nowhere ≡ place_at ps (a + k)
  part_at = get_or-take (e - a) (drop a ps) k nowhere below_end ∙ get_or-drop a ps k nowhere

  pub part_free : is_vacant (get_or (take (e - a) (drop a ps)) k nowhere) ≡ true → (place_at ps (a + k)).backing ≡ 0
  part_free t = eqb-true (place_at ps (a + k)).backing 0 (sym (ap is_vacant part_at) ∙ t)

  pub part_used : is_vacant (get_or (take (e - a) (drop a ps)) k nowhere) ≡ false → Used ps (a + k)
  part_used t = eqb-false (place_at ps (a + k)).backing 0 (sym (ap is_vacant part_at) ∙ t)

-- a word of the map with every bit set says that its frames are free
pub free_word : (n : ℕ) (ps : List Place) (ws : List ℕ) (i : ℕ) → i < 16 → get_or ws i 0 ≡ 18446744073709551615 → all_below (kept? n ps ws) 1024 ≡ true
    → (g : ℕ) → i * 64 ≤ g → g < min n (i * 64 + 64) → (place_at ps g).backing ≡ 0
free_word n ps ws i h e q g l u =
    let p : i * 64 + (g - i * 64) ≡ g = omega arith in
    let b : g - i * 64 < 64 = omega arith in
    let k = word_free n ps (i * 64) (g - i * 64) b (omega arith) in
    let t = kept_word n ps ws i (g - i * 64) b ∙ below_at (kept? n ps ws) 1024 q (i * 64 + (g - i * 64)) (omega arith) in
    let z : zero_place? (place_at ps g) ≡ true = rw p at (sym k ∙ (rw e at t)) in
    eqb-true (place_at ps g).backing 0 (and_left (eqb (place_at ps g).backing 0) _ z)
