-- The test of soundness by the parts that the code goes through: the ranges by themselves, then what needs the frames.
use Rattle.std.specs.Prelude.{◌≡◌, Bool, ℕ, ◌+◌, ◌≤◌, ◌<◌, ltb, leb, eqb, get_or, length, drop}
use Rattle.std.proofs.Math.Path.{refl, sym, ap, ap₂}
use Rattle.std.proofs.Common.{◌∙◌, leb-true}
use Rattle.std.proofs.Math.Bool.{true, false, ◌&&◌}
use mathlib.Core.List.{List, [], ◌∷◌}
use Rattle.table.specs.declared.PageRange.{PageRange}
use Rattle.table.specs.declared.BackingPages.{BackingPages}
use Rattle.table.specs.declared.BackingPages.TheVariants.{Nothing, Single, Many}
use Rattle.places.specs.declared.Place.{Place}
use Rattle.store.specs.declared.Store.{Store}
use Rattle.lists.specs.Test.{and_left, and_right, by-test}
use Rattle.lists.specs.Every.{all_below, below_at, both_true, every}
use Rattle.table.specs.Table.{number_of, ranges_of, zero_range}
use Rattle.places.specs.Places.{place_at}
use Rattle.store.specs.Abs.{used, live_bit}
use Rattle.store.specs.Sound.{alike, alone?, bit?, counts?, fine?, idle?, kind?, places?, ranges?, rising?, sound?, stands?, window?, zero?}
use Rattle.range_tests.specs.Agree.{alike_to, agree_told, back_at}
use Rattle.range_tests.specs.Fit.{fit_told, fitting_at, fitting_number, fitting_short}
use Rattle.range_tests.specs.Slots.{slots?, slots_parts}
use Rattle.range_tests.specs.Shape.{lies?, shaped_kind?, rises?, rises_parts}
use Rattle.place_tests.specs.Bits.{below_both, kept?}
use Rattle.place_tests.specs.Placed.{placed_at?}
use Rattle.place_tests.specs.Seats.{seated?, seated_at, seated_told}

-- ---- the three parts of the test of a range
module _ (live n : ℕ) (ps : List Place) where
  fine_parts : (r : PageRange) → fine? live n ps r ≡ (lies? live r && (shaped_kind? r r.backing && seated? n ps r.backing))
  fine_parts r =
      ap (λ k. leb r.object 31 && (live_bit live r.object && (leb 1 r.length && (leb (r.start.0 + r.length) 262144 && k)))) (kinds r.backing)
      ∙ out (leb r.object 31) (live_bit live r.object) (leb 1 r.length) (leb (r.start.0 + r.length) 262144) (shaped_kind? r r.backing && seated? n ps r.backing)
    where
      single : (a b c d : Bool) → (a && (b && (c && d))) ≡ ((a && (b && c)) && d)
      single false b c d = refl
      single true false c d = refl
      single true true c d = refl

      unit : (a : Bool) → (a && true) ≡ a
      unit true = refl
      unit false = refl

      kinds : (k : BackingPages) → kind? n ps r k ≡ (shaped_kind? r k && seated? n ps k)
      kinds Nothing = refl
      kinds (Single b) = single (ltb 0 b) (eqb r.length 1) (eqb r.offset 0) (stands? ps n b 0)
      kinds (Many b) = sym (unit (ltb 0 b && leb (r.offset + r.length) 1048576))

      out : (a b c d k : Bool) → (a && (b && (c && (d && k)))) ≡ ((a && (b && (c && d))) && k)
      out false b c d k = refl
      out true false c d k = refl
      out true true false d k = refl
      out true true true d k = refl

  all_fine_parts : (l : List PageRange)
      → every (fine? live n ps) l ≡ (every (lies? live) l && (every (λ r. shaped_kind? r r.backing) l && every (λ r. seated? n ps r.backing) l))
  unfolding every
  all_fine_parts [] = refl
  all_fine_parts (r ∷ rs) =
      rw (fine_parts r, all_fine_parts rs)
      (swap (lies? live r) (shaped_kind? r r.backing) (seated? n ps r.backing) (every (lies? live) rs) (every (λ r. shaped_kind? r r.backing) rs) (every (λ r. seated? n ps r.backing) rs))
    where
      swap : (a b c d e f : Bool) → ((a && (b && c)) && (d && (e && f))) ≡ ((a && d) && ((b && e) && (c && f)))
      swap false b c d e f = refl
      swap true false c false e f = refl
      swap true false c true e f = refl
      swap true true false false e f = refl
      swap true true false true false f = refl
      swap true true false true true f = refl
      swap true true true false e f = refl
      swap true true true true e f = refl

module _ (s : Store) where
  abbrev agree? : Bool
  agree? = every (λ a. every (λ b. alike a.backing b.backing) (used s)) (used s)

  abbrev kinds? : Bool
  kinds? = every (λ r. shaped_kind? r r.backing) (used s)

  abbrev rest? : Bool
  rest? = every zero? (drop s.count s.ranges)

  -- the ranges by themselves
  unfoldable pub range_tests : Bool
  range_tests = rises? s.live 0 (used s) && ((kinds? && agree?) && rest?)

  -- what needs the frames
  unfoldable pub place_tests : Bool
  place_tests = every (λ r. seated? s.frames s.places r.backing) (used s) && places? s

  pub tests_parts : (range_tests && place_tests) ≡ (ranges? s && places? s)
  unfolding range_tests place_tests ranges?
  tests_parts =
      rw (rises_parts s.live 0 (used s), all_fine_parts s.live s.frames s.places (used s))
      (sort (every (lies? s.live) (used s)) (rising? 0 (ranges_of (used s))) kinds? agree? rest? (every (λ r. seated? s.frames s.places r.backing) (used s)) (places? s))
    where
      sort : (a b k g z d e : Bool) → (((a && b) && ((k && g) && z)) && (d && e)) ≡ (((a && (k && d)) && (b && (g && z))) && e)
      sort false b k g z d e = refl
      sort true false false g z d e = refl
      sort true false true g z false e = refl
      sort true false true g z true e = refl
      sort true true false g z d e = refl
      sort true true true false z false e = refl
      sort true true true false z true e = refl
      sort true true true true false false e = refl
      sort true true true true false true e = refl
      sort true true true true true false e = refl
      sort true true true true true true e = refl

-- ---- the tests as the code has them
module _ (s : Store) where
  -- every backing fits its range, and ranges that hold one backing agree on its kind
  unfoldable pub agreeing? : Bool
  agreeing? = all_below (fitting_at s.ranges) s.count && all_below (λ i. all_below (alike_to s.ranges i) i) s.count

  unfoldable pub placed? : Bool
  placed? = all_below (kept? s.frames s.places s.free) 1024 && (all_below (placed_at? s) s.frames && all_below (seated_at s.ranges s.places s.frames) s.count)

  -- what a store that passes the first tests tells of its ranges
  module _ (e : agreeing? ≡ true) (i : ℕ) (l : i < s.count) where
    fitted : fitting_at s.ranges i ≡ true
    unfolding agreeing?
    fitted = below_at (fitting_at s.ranges) s.count (and_left _ _ e) i l

    pub agreeing_number : 0 < number_of (back_at s.ranges i)
    agreeing_number = fitting_number (get_or s.ranges i zero_range) fitted

    pub agreeing_short : (let r = get_or s.ranges i zero_range in r.offset + r.length ≤ 1048576)
    agreeing_short = fitting_short (get_or s.ranges i zero_range) fitted

  -- the tests put together
  pub placed_none : all_below (kept? s.frames s.places s.free) 1024 ≡ false → false ≡ placed?
  unfolding placed?
  placed_none e = rw e

  module _ (e : all_below (kept? s.frames s.places s.free) 1024 ≡ true) where
    pub placed_some : all_below (placed_at? s) s.frames ≡ false → false ≡ placed?
    unfolding placed?
    placed_some q = rw (e, q)

    pub placed_rest : (q : Bool) → all_below (placed_at? s) s.frames ≡ true → q ≡ all_below (seated_at s.ranges s.places s.frames) s.count → q ≡ placed?
    unfolding placed?
    placed_rest q p r = rw (e, p) r

module _ (s : Store) where
  pub counts_says : counts? s ≡ true → (s.frames ≤ 1024) × (s.count ≤ 512)
  unfolding counts?
  counts_says h =
      let a = both_true (leb 1 s.frames) _ h in
      let b = both_true _ _ a.1 in
      (leb-true _ _ b.0, leb-true _ _ b.1)

  pub sound_none : counts? s ≡ false → false ≡ sound? s
  unfolding sound?
  sound_none h = rw h

  pub sound_told : (a b : Bool) → counts? s ≡ true → a ≡ true → a ≡ range_tests s → b ≡ place_tests s → b ≡ sound? s
  unfolding sound?
  sound_told a b h e p q = rw (h, ← tests_parts s, ← p, e) q

  pub sound_ranges : (a : Bool) → counts? s ≡ true → a ≡ false → a ≡ range_tests s → false ≡ sound? s
  unfolding sound?
  sound_ranges a h e p = rw (h, ← tests_parts s, ← p, e)

module _ (s : Store) where
  slots_both : slots? s.live s.ranges s.count 0 0 ≡ (rises? s.live 0 (used s) && rest? s)
  slots_both = slots_parts s.ranges s.count s.live

  pub slots_none : slots? s.live s.ranges s.count 0 0 ≡ false → false ≡ range_tests s
  unfolding range_tests
  slots_none h = go (rises? s.live 0 (used s)) (kinds? s && agree? s) (rest? s) (sym slots_both ∙ h)
    where
      go : (r a z : Bool) → (r && z) ≡ false → false ≡ (r && (a && z))
      go false a z e = refl
      go true false z e = refl
      go true true z e = sym e

  module _ (m : s.count ≤ length s.ranges) where
    pub slots_agree : slots? s.live s.ranges s.count 0 0 ≡ true → agreeing? s ≡ range_tests s
    unfolding range_tests agreeing?
    slots_agree h =
        ap₂ ◌&&◌ (fit_told s.ranges s.count m) (agree_told s.ranges s.count m)
        ∙ go (rises? s.live 0 (used s)) (kinds? s && agree? s) (rest? s) (sym slots_both ∙ h)
      where
        go : (r a z : Bool) → (r && z) ≡ true → a ≡ (r && (a && z))
        go r a z e = let b = both_true r z e in rw (b.0, b.1) (unit a)
          where
            unit : (a : Bool) → a ≡ (a && true)
            unit true = refl
            unit false = refl

    pub placed_told : placed? s ≡ place_tests s
    unfolding placed? place_tests places?
    placed_told =
        rw (
          below_both (λ f. idle? s.frames f (place_at s.places f)) (bit? s.frames s.places s.free) 1024,
          below_both (alone? s.places) (λ f. window? (ranges_of (used s)) (place_at s.places f)) s.frames,
          seated_told s.ranges s.count m s.places s.frames,
        )
        (sort (all_below (λ f. idle? s.frames f (place_at s.places f)) 1024) (all_below (bit? s.frames s.places s.free) 1024)
        (all_below (alone? s.places) s.frames) (every (λ r. seated? s.frames s.places r.backing) (used s))
        (all_below (λ f. window? (ranges_of (used s)) (place_at s.places f)) s.frames))
      where
        both : (d w : Bool) → (w && d) ≡ (d && (w && true))
        both false false = refl
        both false true = refl
        both true false = refl
        both true true = refl

        sort : (i f l d w : Bool) → ((i && f) && ((l && w) && d)) ≡ (d && (w && (l && (i && f))))
        sort false f l false w = refl
        sort false f l true false = refl
        sort false f false true true = refl
        sort false f true true true = refl
        sort true false l false w = refl
        sort true false l true false = refl
        sort true false false true true = refl
        sort true false true true true = refl
        sort true true false false w = refl
        sort true true false true false = refl
        sort true true false true true = refl
        sort true true true d w = both d w

-- ---- the parts put together
module _ (s : Store) where
  pub ranges_fail : (leb s.count 512 && slots? s.live s.ranges s.count 0 0) ≡ false → false ≡ (leb s.count 512 && range_tests s)
  ranges_fail h =
      by-test (leb s.count 512) (λ c. rw (c, ← slots_none s (rw c at h))) (λ c. rw c)

  pub ranges_say : (leb s.count 512 && slots? s.live s.ranges s.count 0 0) ≡ true → s.count ≤ length s.ranges → (q : Bool) → q ≡ agreeing? s
      → q ≡ (leb s.count 512 && range_tests s)
  ranges_say h m q e =
      rw (and_left (leb s.count 512) _ h, ← slots_agree s m (and_right (leb s.count 512) _ h)) e

  pub sound_parts : (a b c : Bool) → a ≡ (leb 1 s.frames && leb s.frames 1024) → b ≡ (leb s.count 512 && range_tests s) → c ≡ place_tests s → (a && (b && c)) ≡ sound? s
  unfolding sound? counts?
  sound_parts a b c p q r =
      rw (p, q, r, ← tests_parts s) (turn (leb 1 s.frames) (leb s.frames 1024) (leb s.count 512) (range_tests s) (place_tests s))
    where
      turn : (a b c d e : Bool) → ((a && b) && ((c && d) && e)) ≡ ((a && (b && c)) && (d && e))
      turn false b c d e = refl
      turn true false c d e = refl
      turn true true false d e = refl
      turn true true true d e = refl
