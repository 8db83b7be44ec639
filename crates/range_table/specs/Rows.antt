-- The numbers that ranges hold, marked, and the first that is not.
use Rattle.std.specs.Prelude.{◌≡◌, Bool, true, false, List, [], ◌∷◌, ◌++◌, ℕ, zero, suc, ◌+◌, ◌≤◌, ◌<◌, length, set, take, drop, get_or, replicate, eqb, ltb, Option, Some, None, MatchOption}
use Rattle.std.specs.Option.{unwrap_or}
use Rattle.std.specs.List.{AllWithin, HoldsAt}
use Rattle.std.proofs.Common.{not-suc-le-zero, get_or-take, get_or-drop, length-take, length-drop, refl, ap, sym, ◌∙◌, arith, get_or-set_other, get_or-set_same}
use Rattle.std.proofs.lemmas.List.{get_or-replicate, take_more}
use borrow.Author.Tests.{eq-eqb, ne_eqb, lt-ltb, ltb-true, ltb-false}
use Rattle.lists.specs.Test.{pick, by-eq}
use Rattle.ranges.specs.Range.{Range}
use Rattle.ranges.specs.Table.{fresh, fresh_from, holders}
use Rattle.table.specs.declared.PageRange.{PageRange}
use Rattle.table.specs.Table.{number_of, ranges_of, zero_range}

-- number b is marked where a range of rs holds it
unfoldable pub Held : List Range → List Bool → Type 0
Held rs held = (b : ℕ) → b < 513 → get_or held b false ≡ ltb 0 (holders b rs)

module _ (rs : List Range) (held : List Bool) (H : Held rs held) (b : ℕ) (l : b < 513) where
  pub held_none : get_or held b false ≡ false → holders b rs ≡ 0
  unfolding Held
  held_none e = let k : holders b rs ≤ 0 = ltb-false 0 (holders b rs) (sym (H b l) ∙ e) in omega arith

  pub held_some : get_or held b false ≡ true → holders b rs ≡ 0 → ⊥
  unfolding Held
  held_some e n = let k : 0 < holders b rs = ltb-true 0 (holders b rs) (sym (H b l) ∙ e) in omega arith

-- nothing is marked before
pub held_start : Held [] (replicate 513 false)
unfolding Held holders
held_start b l = get_or-replicate 513 b false false l

-- ---- one range more: it holds its own backing, and no other

swapped : (t u : Bool) (h : ℕ) → pick u (suc (pick t (suc h) h)) (pick t (suc h) h) ≡ pick t (suc (pick u (suc h) h)) (pick u (suc h) h)
swapped true true h = refl
swapped true false h = refl
swapped false true h = refl
swapped false false h = refl

holders_more : (b : ℕ) (l : List PageRange) (r : PageRange)
    → holders b (ranges_of (l ++ r ∷ [])) ≡ pick (eqb b (number_of r.backing)) (suc (holders b (ranges_of l))) (holders b (ranges_of l))
unfolding holders ranges_of
holders_more b [] r = refl
holders_more b (x ∷ l) r =
    ap (λ h. pick (eqb b (number_of x.backing)) (suc h) h) (holders_more b l r) ∙ swapped (eqb b (number_of r.backing)) (eqb b (number_of x.backing)) (holders b (ranges_of l))

module _ (l : List PageRange) (i x : ℕ) (held : List Bool) (below : i < length l) (e : x ≡ number_of (get_or l i zero_range).backing) (H : Held (ranges_of (take i l)) held) where
  next : (b : ℕ) → holders b (ranges_of (take (i + 1) l)) ≡ pick (eqb b x) (suc (holders b (ranges_of (take i l)))) (holders b (ranges_of (take i l)))
  next b =
      ap (λ k. holders b (ranges_of k)) (take_more l i zero_range below)
      ∙ holders_more b (take i l) (get_or l i zero_range)
      ∙ ap (λ k. pick (eqb b k) (suc (holders b (ranges_of (take i l)))) (holders b (ranges_of (take i l)))) (sym e)

  -- of any other backing nothing changes
  other : (b : ℕ) → b < 513 → (b ≡ x → ⊥) → get_or held b false ≡ ltb 0 (holders b (ranges_of (take (i + 1) l)))
  unfolding Held
  other b h n = rw (next b, ne_eqb b x n) (H b h)

  pub held_end : 513 ≤ x → Held (ranges_of (take (i + 1) l)) held
  unfolding Held
  held_end o b h = other b h (λ n. omega arith)

  pub held_next : length held ≡ 513 → x < 513 → Held (ranges_of (take (i + 1) l)) (set held x true)
  unfolding Held
  held_next m o b h =
      by-eq b x
      (λ n.
      let y : ltb 0 (suc (holders b (ranges_of (take i l)))) ≡ true = lt-ltb 0 (suc (holders b (ranges_of (take i l)))) (omega arith) in
      rw (next b, eq-eqb b x n, y) (ap (λ k. get_or (set held x true) k false) n ∙ get_or-set_same held x true false (omega arith)))
      (λ n. get_or-set_other held x b true false n ∙ other b h n)

-- before the first
pub held_first : (l : List PageRange) (held : List Bool) → Held [] held → Held (ranges_of (take 0 l)) held
unfolding ranges_of
held_first l held H = H

-- ---- the first number that is not marked, of those from 1 on

module _ (rs : List Range) where
  -- it is the first that is tried and not held
  fresh_walk : (k n j : ℕ) → j < k → ((i : ℕ) → i < j → holders (n + i) rs ≡ 0 → ⊥) → holders (n + j) rs ≡ 0 → n + j ≡ fresh_from k n rs
  unfolding fresh_from
  fresh_walk zero n j l a e = absurd (not-suc-le-zero l)
  fresh_walk (suc k) n zero l a e = let z : n + 0 ≡ n = omega arith in let h : holders n rs ≡ 0 = rw z at e in rw (eq-eqb (holders n rs) 0 h) z
  fresh_walk (suc k) n (suc j) l a e =
      let z : n + suc j ≡ suc n + j = omega arith in
      let y : n + 0 ≡ n = omega arith in
      let h : holders n rs ≡ 0 → ⊥ = rw y at (a 0 (omega arith)) in
      rw (ne_eqb (holders n rs) 0 h)
      (z ∙ fresh_walk k (suc n) j (omega arith) (λ i m. let x : n + suc i ≡ suc n + i = omega arith in rw x at (a (suc i) (omega arith))) (rw z at e))

  -- or the number behind all that are tried
  fresh_full : (k n : ℕ) → ((i : ℕ) → i < k → holders (n + i) rs ≡ 0 → ⊥) → n + k ≡ fresh_from k n rs
  unfolding fresh_from
  fresh_full zero n a = omega arith
  fresh_full (suc k) n a =
      let z : n + suc k ≡ suc n + k = omega arith in
      let y : n + 0 ≡ n = omega arith in
      let h : holders n rs ≡ 0 → ⊥ = rw y at (a 0 (omega arith)) in
      rw (ne_eqb (holders n rs) 0 h) (z ∙ fresh_full k (suc n) (λ i m. let x : n + suc i ≡ suc n + i = omega arith in rw x at (a (suc i) (omega arith))))

  module _ (held : List Bool) (full : length held ≡ 513) (H : Held rs held) (n : ℕ) (few : n ≤ 512) (all : length rs ≡ n) where
    mark_at : (i : ℕ) → i < n → get_or (take n (drop 1 held)) i false ≡ get_or held (1 + i) false
    mark_at i l = get_or-take n (drop 1 held) i false l ∙ get_or-drop 1 held i false

    long : length (take n (drop 1 held)) ≡ n
    long = length-take n (drop 1 held) ∙ omega (arith, length-drop 1 held)

    taken : (i : ℕ) → i < n → get_or (take n (drop 1 held)) i false ≡ true → holders (1 + i) rs ≡ 0 → ⊥
    taken i l t = held_some rs held H (1 + i) (omega arith) (sym (mark_at i l) ∙ t)

    pub fresh_found : (q : Option ℕ)
        → MatchOption q (AllWithin (λ h. h ≡ true) (take n (drop 1 held)) 0 (length (take n (drop 1 held))))
        (λ i. (i < length (take n (drop 1 held))) × HoldsAt (λ h. h ≡ false) (take n (drop 1 held)) i × AllWithin (λ h. h ≡ true) (take n (drop 1 held)) 0 i)
        → 1 + unwrap_or q n ≡ fresh rs
    unfolding fresh
    fresh_found None h =
        fresh_full n 1 (λ i l. taken i l (h i false (omega arith) (omega (arith, long)))) ∙ ap (λ k. fresh_from k 1 rs) (sym all)
    fresh_found (Some i) h =
        let l : i < n = omega (arith, h.0, long) in
        fresh_walk n 1 i l (λ j m. taken j (omega arith) (h.2 j false (omega arith) m)) (held_none rs held H (1 + i) (omega arith) (sym (mark_at i l) ∙ h.1 false))
        ∙ ap (λ k. fresh_from k 1 rs) (sym all)
