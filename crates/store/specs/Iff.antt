-- THE TEST IS TRUE EXACTLY OF THE SOUND STORES.
use Rattle.std.specs.Prelude.{◌≡◌, refl, Bool, true, false, not, ◌||◌, ◌⊎◌, List, [], ◌∷◌, ℕ, zero, suc, ◌≤◌, ◌<◌, eqb, drop}
use Rattle.std.proofs.Common.{sym, ◌∙◌, inl, inr, ⊎_elim, arith, eq-or-lt_of_le, le_of_suc-le-suc, not-suc-le-zero, eq-eqb, eqb-true, le-leb, le-ltb, leb-true, lt-ltb, ltb-true, ne_eqb}
use Rattle.std.proofs.lemmas.Bool.{false≢true}
use Rattle.table.specs.declared.PageRange.{PageRange}
use Rattle.table.specs.declared.BackingPages.{BackingPages}
use Rattle.table.specs.declared.BackingPages.TheVariants.{Nothing, Single, Many}
use Rattle.places.specs.declared.Place.{Place}
use Rattle.store.specs.declared.Store.{Store}
use Rattle.lists.specs.Test.{by-eq, by-lt, by-test}
use Rattle.lists.specs.Every.{All, all_every, at_below, below_at, both_true, every, every_all, true_both}
use Rattle.ranges.specs.Range.{Range, Rising, upto}
use Rattle.ranges.specs.Table.{named}
use Rattle.table.specs.Table.{ranges_of, zero_range}
use Rattle.places.specs.Places.{place_at, nowhere}
use Rattle.store.specs.Abs.{used}
use Rattle.store.specs.Sound.{Agree, Fine, Kind, Sound, Stands, alike, alone?, apart?, bit?, counts?, fine?, idle?, is_at?, is_nothing?, kind?, places?, ranges?, rising?, same, sound?, stands?, window?, zero?}

-- ---- one sentence each, both ways

-- "its frame at index 0"
pub stands_says : (ps : List Place) (n b i : ℕ) → stands? ps n b i ≡ true → Stands ps n b i
unfolding stands?
stands_says ps zero b i h = absurd (false≢true h)
stands_says ps (suc n) b i h =
    by-test (is_at? ps b i n)
    (λ t. let u = both_true (eqb (place_at ps n).backing b) (eqb (place_at ps n).index i) t in
    record { frame = n; below = omega arith; backing = eqb-true _ _ u.0; index = eqb-true _ _ u.1 })
    (λ t. let r : Stands ps n b i = stands_says ps n b i (rw t at h) in
    record { frame = r.frame; below = omega arith; backing = r.backing; index = r.index })

pub says_stands : (ps : List Place) (n b i : ℕ) → Stands ps n b i → stands? ps n b i ≡ true
unfolding stands?
says_stands ps zero b i h = absurd (not-suc-le-zero h.below)
says_stands ps (suc n) b i h =
    by-test (is_at? ps b i n) (λ t. rw t)
    (λ t. rw t (says_stands ps n b i (record { frame = h.frame; below = less t; backing = h.backing; index = h.index })))
  where
    hit : h.frame ≡ n → is_at? ps b i n ≡ true
    hit q = true_both _ _ (eq-eqb (place_at ps n).backing b (rw (← q) h.backing)) (eq-eqb (place_at ps n).index i (rw (← q) h.index))

    less : is_at? ps b i n ≡ false → h.frame < n
    less t =
        ⊎_elim (λ (q : h.frame ≡ n). absurd (false≢true (sym t ∙ hit q))) (λ (q : h.frame < n). q) (eq-or-lt_of_le (le_of_suc-le-suc h.below))

-- the kind of a range's backing, and a range by itself
module _ (w n : ℕ) (ps : List Place) (r : PageRange) where
  kind_says : (k : BackingPages) → kind? n ps r k ≡ true → Kind n ps r k
  kind_says Nothing h = absurd (false≢true h)
  kind_says (Single b) h =
      let a = both_true _ _ h in
      let c = both_true _ _ a.1 in
      let d = both_true _ _ c.1 in
      (ltb-true _ _ a.0, eqb-true _ _ c.0, eqb-true _ _ d.0, stands_says _ _ _ _ d.1)
  kind_says (Many b) h = let a = both_true _ _ h in (ltb-true _ _ a.0, leb-true _ _ a.1)

  says_kind : (k : BackingPages) → Kind n ps r k → kind? n ps r k ≡ true
  says_kind Nothing h = absurd h
  says_kind (Single b) h = true_both _ _ (lt-ltb _ _ h.0) (true_both _ _ (eq-eqb _ _ h.1) (true_both _ _ (eq-eqb _ _ h.2) (says_stands _ _ _ _ h.3)))
  says_kind (Many b) h = true_both _ _ (lt-ltb _ _ h.0) (le-leb _ _ h.1)

  pub fine_says : fine? w n ps r ≡ true → Fine w n ps r
  fine_says h =
      let a = both_true _ _ h in
      let b = both_true _ _ a.1 in
      let c = both_true _ _ b.1 in
      let d = both_true _ _ c.1 in
      record { name = leb-true _ _ a.0; live = b.0; long = leb-true _ _ c.0; within = leb-true _ _ d.0; kind = kind_says r.backing d.1 }

  pub says_fine : Fine w n ps r → fine? w n ps r ≡ true
  says_fine h =
      let e = true_both _ _ (le-leb _ _ h.within) (says_kind r.backing h.kind) in
      true_both _ _ (le-leb _ _ h.name) (true_both _ _ h.live (true_both _ _ (le-leb _ _ h.long) e))

-- "by object, then start"
pub rising_says : (low : ℕ) (rs : List Range) → rising? low rs ≡ true → Rising low rs
unfolding rising? Rising
rising_says low [] h = tt
rising_says low (r ∷ rs) h =
    let a = both_true _ _ h in
    let b = both_true _ _ a.1 in
    (leb-true _ _ a.0, ltb-true _ _ b.0, rising_says (upto r) rs b.1)

pub says_rising : (low : ℕ) (rs : List Range) → Rising low rs → rising? low rs ≡ true
unfolding rising? Rising
says_rising low [] h = refl
says_rising low (r ∷ rs) h = true_both _ _ (le-leb _ _ h.0) (true_both _ _ (lt-ltb _ _ h.1) (says_rising (upto r) rs h.2))

-- "unused slots are zero"
pub zero_says : (r : PageRange) → zero? r ≡ true → r ≡ zero_range
zero_says r h =
    let a = both_true _ _ h in
    let b = both_true _ _ a.1 in
    let c = both_true _ _ b.1 in
    let d = both_true _ _ c.1 in
    let e = go r.backing d.1 in
    let p = eqb-true _ _ a.0 in
    let q = eqb-true _ _ b.0 in
    let u = eqb-true _ _ c.0 in
    let v = eqb-true _ _ d.0 in
    λ i. record { object = p i; start = record { 0 = q i }; length = u i; offset = v i; backing = e i }
  where
    go : (k : BackingPages) → is_nothing? k ≡ true → k ≡ Nothing
    go Nothing h = refl
    go (Single b) h = absurd (false≢true h)
    go (Many b) h = absurd (false≢true h)

pub says_zero : (r : PageRange) → r ≡ zero_range → zero? r ≡ true
says_zero r e = rw e

module _ (s : Store) where
  abbrev at : ℕ → Place
  at f = place_at s.places f

  -- frame f is in the window of some range
  abbrev within? : ℕ → Bool
  within? f = named (at f).backing (at f).index (ranges_of (used s))

  -- "Each vector entry lies in the window of some range that holds the vector."
  window_says : (f : ℕ) → window? (ranges_of (used s)) (at f) ≡ true → ((at f).backing ≡ 0 → ⊥) → within? f ≡ true
  window_says f h n = rw (ne_eqb (at f).backing 0 n) at h

  says_window : (f : ℕ) → (((at f).backing ≡ 0 → ⊥) → within? f ≡ true) → window? (ranges_of (used s)) (at f) ≡ true
  says_window f h = by-eq (at f).backing 0 (λ e. rw (eq-eqb (at f).backing 0 e)) (λ n. rw (ne_eqb (at f).backing 0 n) (h n))

  -- "unused slots are zero", of places
  idle_beyond : (f : ℕ) → idle? s.frames f (at f) ≡ true → s.frames ≤ f → (at f).backing ≡ 0
  idle_beyond f h g = by-eq (at f).backing 0 (λ e. e) (λ n. absurd (false≢true (rw (le-ltb f s.frames g, ne_eqb (at f).backing 0 n) at h)))

  idle_index : (f : ℕ) → idle? s.frames f (at f) ≡ true → (at f).backing ≡ 0 → (at f).index ≡ 0
  idle_index f h e =
      by-lt f s.frames (λ l. eqb-true _ _ (rw (lt-ltb f s.frames l, eq-eqb (at f).backing 0 e) at h))
      (λ l. eqb-true _ _ (rw (le-ltb f s.frames l, eq-eqb (at f).backing 0 e) at h))

  idle_says : (f : ℕ) → idle? s.frames f (at f) ≡ true → (s.frames ≤ f) ⊎ ((at f).backing ≡ 0) → at f ≡ nowhere
  idle_says f h o =
      let e : (at f).backing ≡ 0 = ⊎_elim (λ (g : s.frames ≤ f). idle_beyond f h g) (λ (e : (at f).backing ≡ 0). e) o in
      let j : (at f).index ≡ 0 = idle_index f h e in
      λ i. record { backing = e i; index = j i }

  nowhere_idle : (f : ℕ) → at f ≡ nowhere → idle? s.frames f (at f) ≡ true
  nowhere_idle f e = by-lt f s.frames (λ l. rw (e, lt-ltb f s.frames l)) (λ l. rw (e, le-ltb f s.frames l))

  says_idle : (f : ℕ) → ((s.frames ≤ f) ⊎ ((at f).backing ≡ 0) → at f ≡ nowhere) → idle? s.frames f (at f) ≡ true
  says_idle f h =
      by-lt f s.frames
      (λ l. by-eq (at f).backing 0 (λ e. nowhere_idle f (h (inr e))) (λ n. rw (lt-ltb f s.frames l, ne_eqb (at f).backing 0 n)))
      (λ g. nowhere_idle f (h (inl g)))

-- a frame's bit and its place
same_says : (a b : Bool) → same a b ≡ true → a ≡ b
same_says true true h = refl
same_says true false h = sym h
same_says false true h = h
same_says false false h = refl

says_same : (a b : Bool) → a ≡ b → same a b ≡ true
says_same a true e = rw e
says_same a false e = rw e

-- "no two at the same"
apart_says : (a b : Place) → apart? a b ≡ true → (b.backing ≡ 0 → ⊥) → a.backing ≡ b.backing → a.index ≡ b.index → ⊥
apart_says a b h n p q = false≢true (rw (ne_eqb b.backing 0 n, eq-eqb a.backing b.backing p, eq-eqb a.index b.index q) at h)

says_apart : (a b : Place) → ((b.backing ≡ 0 → ⊥) → a.backing ≡ b.backing → a.index ≡ b.index → ⊥) → apart? a b ≡ true
says_apart a b h = by-eq b.backing 0 (λ e. rw (eq-eqb b.backing 0 e)) (λ n. rw (ne_eqb b.backing 0 n) (far n))
  where
    other : (b.backing ≡ 0 → ⊥) → a.backing ≡ b.backing → not (eqb a.index b.index) ≡ true
    other n p = by-eq a.index b.index (λ q. absurd (h n p q)) (λ q. rw (ne_eqb a.index b.index q))

    far : (b.backing ≡ 0 → ⊥) → (not (eqb a.backing b.backing) || not (eqb a.index b.index)) ≡ true
    far n = by-eq a.backing b.backing (λ p. rw (eq-eqb a.backing b.backing p) (other n p)) (λ p. rw (ne_eqb a.backing b.backing p))

-- ---- THE LAW

pub sound_says : (s : Store) → sound? s ≡ true → Sound s
unfolding sound? counts? ranges? places?
sound_says s h =
    let a = both_true _ _ h in
    let b = both_true _ _ a.1 in
    let c₁ = both_true _ _ a.0 in
    let c₂ = both_true _ _ c₁.1 in
    let r₁ = both_true _ _ b.0 in
    let r₂ = both_true _ _ r₁.1 in
    let r₃ = both_true _ _ r₂.1 in
    let p₁ = both_true _ _ b.1 in
    let p₂ = both_true _ _ p₁.1 in
    let p₃ = both_true _ _ p₂.1 in
    record {
      some_frames = leb-true _ _ c₁.0;
      few_frames = leb-true _ _ c₂.0;
      few_ranges = leb-true _ _ c₂.1;
      fine = every_all (fine? s.live s.frames s.places) (Fine s.live s.frames s.places) fine (used s) r₁.0;
      order = rising_says 0 (ranges_of (used s)) r₂.0;
      agree = every_all (λ x. every (λ y. alike x.backing y.backing) (used s)) (λ x. All (Agree x) (used s)) one (used s) r₃.0;
      window = λ f l. window_says s f (below_at (λ g. window? (ranges_of (used s)) (at s g)) s.frames p₁.0 f l);
      alone = λ f g k l. apart_says (at s g) (at s f) (one_alone f (below_at (alone? s.places) s.frames p₂.0 f l) g k);
      rest_ranges = every_all zero? (λ r. r ≡ zero_range) zero_says (drop s.count s.ranges) r₃.1;
      rest_places = λ f l. idle_says s f (below_at (λ g. idle? s.frames g (at s g)) 1024 p₃.0 f l);
      bits = λ f l. same_says _ _ (below_at (bit? s.frames s.places s.free) 1024 p₃.1 f l);
    }
  where
    fine : (r : PageRange) → fine? s.live s.frames s.places r ≡ true → Fine s.live s.frames s.places r
    fine = fine_says s.live s.frames s.places

    one : (x : PageRange) → every (λ y. alike x.backing y.backing) (used s) ≡ true → All (Agree x) (used s)
    one x = every_all (λ y. alike x.backing y.backing) (Agree x) (λ y e. e) (used s)

    one_alone : (f : ℕ) → alone? s.places f ≡ true → (g : ℕ) → g < f → apart? (at s g) (at s f) ≡ true
    one_alone f e g k = below_at (λ g. apart? (at s g) (at s f)) f (unfold alone? in e) g k

module _ (s : Store) (h : Sound s) where
  says_counts : counts? s ≡ true
  unfolding counts?
  says_counts = true_both _ _ (le-leb _ _ h.some_frames) (true_both _ _ (le-leb _ _ h.few_frames) (le-leb _ _ h.few_ranges))

  says_agree : (x : PageRange) → All (Agree x) (used s) → every (λ y. alike x.backing y.backing) (used s) ≡ true
  says_agree x = all_every (λ y. alike x.backing y.backing) (Agree x) (λ y e. e) (used s)

  says_ranges : ranges? s ≡ true
  unfolding ranges?
  says_ranges =
      let fine = says_fine s.live s.frames s.places in
      let a = all_every (fine? s.live s.frames s.places) (Fine s.live s.frames s.places) fine (used s) h.fine in
      let b = says_rising 0 (ranges_of (used s)) h.order in
      let d = all_every (λ x. every (λ y. alike x.backing y.backing) (used s)) (λ x. All (Agree x) (used s)) says_agree (used s) h.agree in
      let e = all_every zero? (λ r. r ≡ zero_range) says_zero (drop s.count s.ranges) h.rest_ranges in
      true_both _ _ a (true_both _ _ b (true_both _ _ d e))

  says_alone : (f : ℕ) → f < s.frames → alone? s.places f ≡ true
  unfolding alone?
  says_alone f l = at_below (λ g. apart? (at s g) (at s f)) f (λ g k. says_apart (at s g) (at s f) (h.alone f g k l))

  says_places : places? s ≡ true
  unfolding places?
  says_places =
      let a = at_below (λ f. window? (ranges_of (used s)) (at s f)) s.frames (λ f l. says_window s f (h.window f l)) in
      let b = at_below (alone? s.places) s.frames says_alone in
      let d = at_below (λ f. idle? s.frames f (at s f)) 1024 (λ f l. says_idle s f (h.rest_places f l)) in
      let e = at_below (bit? s.frames s.places s.free) 1024 (λ f l. says_same _ _ (h.bits f l)) in
      true_both _ _ a (true_both _ _ b (true_both _ _ d e))

  pub says_sound : sound? s ≡ true
  unfolding sound?
  says_sound = true_both _ _ says_counts (true_both _ _ says_ranges says_places)
