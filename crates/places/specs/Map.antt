-- The free map made anew, word by word, and what it says as a list.
use Rattle.std.specs.Prelude.{◌≡◌, Bool, ◌&&◌, ltb, get_or, replicate, set, take}
use Rattle.std.proofs.Math.Path.{refl, ap}
use Rattle.std.proofs.Common.{sym, ◌∙◌, zero-mul, add-one, get_or-set_other, take-suc}
use Rattle.std.proofs.Math.Bool.{true, false}
use mathlib.Core.List.{List, [], ◌∷◌, ◌++◌}
use Prim.Native.Nat.{ℕ, zero, suc, ◌+◌, ◌-◌, ◌*◌, ◌/◌, ◌%◌, ◌^◌, ◌≤◌, ◌<◌}
use Rattle.std.proofs.Math.Nat.{zero-div}
use native.Mathlib.Omega.{arith}
use borrow.Author.Tests.{eq-eqb, le-ltb, lt-ltb, ne_eqb}
use mir.Val.{bool_byte}
use Rattle.std.specs.Int.Bits.{bit_or, or_zero_r}
use Rattle.std.proofs.Math.Dec.{eqb}
use Rattle.std.proofs.Math.ListN.{length, length-set, get_or-eq_default}
use Rattle.std.proofs.Math.Seq.{get_or-set_same, length-take-le}
use Rattle.lists.specs.Test.{by-eq, by-lt, by-test, pick}
use Rattle.frames.specs.Free.{free_bit, is_free, spare_of}
use Rattle.frames.specs.Bits.{not_bit, one_other, one_same, one_shifted, or_bit, zero_bit}
use Rattle.frames.specs.Spare.{spare_above}
use Rattle.places.specs.declared.Place.{Place}
use Rattle.places.specs.Places.{FreeMap, nowhere, place_at, used_count, vacant, vacant_from}
use Rattle.places.specs.Loops.{used_free, used_held}

-- a place more in the list that the table gives
vacant_snoc : (k : ℕ) (acc : List ℕ) (ps : List Place) (p : Place)
    → vacant_from k acc (ps ++ (p ∷ [])) ≡ pick (eqb p.backing 0) ((k + length ps) ∷ vacant_from k acc ps) (vacant_from k acc ps)
unfolding vacant_from
vacant_snoc k acc [] p = let z : k ≡ k + 0 = omega arith in by-test (eqb p.backing 0) (λ t. rw t (ap (λ j. j ∷ acc) z)) (λ t. rw t)
vacant_snoc k acc (x ∷ ps) p =
    let z : suc k + length ps ≡ k + suc (length ps) = omega arith in
    let a : List ℕ = pick (eqb x.backing 0) (k ∷ acc) acc in
    vacant_snoc (suc k) a ps p ∙ ap (λ j. pick (eqb p.backing 0) (j ∷ vacant_from (suc k) a ps) (vacant_from (suc k) a ps)) z

-- the word of the 64 frames from a on, once the first k are looked at
pub record Word (n : ℕ) (ps : List Place) (a k w : ℕ) : Type 0 where
  pub bits : (g : ℕ) → g < 64 → eqb (w / 2 ^ g % 2) 1 ≡ (ltb g k && vacant n ps (a + g))

-- n of the k frames from a on stand at no backing: what that says where it is none or all of them
pub record Vacant (ps : List Place) (a k n : ℕ) : Type 0 where
  pub few : n ≤ k
  pub none : n ≡ 0 → (g : ℕ) → g < k → (place_at ps (a + g)).backing ≡ 0 → ⊥
  pub all : n ≡ k → (g : ℕ) → g < k → (place_at ps (a + g)).backing ≡ 0

-- the map once the words below i are made
pub record Built (n : ℕ) (ps : List Place) (i : ℕ) (d : List ℕ) : Type 0 where
  pub long : length d ≡ 16
  pub bits : (g : ℕ) → g < i * 64 → is_free d g ≡ vacant n ps g

-- a frame more is looked at: the others as before
earlier : (f g : ℕ) → (g ≡ f → ⊥) → ltb g (f + 1) ≡ ltb g f
earlier f g ne =
    by-lt g f
    (λ l. rw (lt-ltb g f l) (lt-ltb g (f + 1) (omega arith)))
    (λ l. rw (le-ltb g f l) (le-ltb g (f + 1) (by-lt g (f + 1) (λ h. absurd (ne (omega arith))) (λ h. h))))

module _ (n : ℕ) (ps : List Place) where
  pub word_none : (a : ℕ) → Word n ps a 0 0
  word_none a = record { bits = λ g l. rw (zero-div (2 ^ g), le-ltb g 0 (omega arith)) }

  word_free : (a k w : ℕ) → Word n ps a k w → vacant n ps (a + k) ≡ true → Word n ps a (k + 1) (bit_or w (2 ^ k))
  word_free a k w W t =
      record {
        bits = λ g l. by-eq g k
            (λ e. rw e (eq-eqb (bit_or w (2 ^ k) / 2 ^ k % 2) 1 (omega (arith, or_bit w (2 ^ k) k, one_same k)) ∙ sym (rw (lt-ltb k (k + 1) (omega arith)) t)))
            (λ ne.
            let z : bit_or w (2 ^ k) / 2 ^ g % 2 ≡ w / 2 ^ g % 2 = omega (arith, or_bit w (2 ^ k) g, one_other k g ne) in
            ap (λ x. eqb x 1) z ∙ W.bits g l ∙ ap (λ x. x && vacant n ps (a + g)) (sym (earlier k g ne)));
      }

  word_used : (a k w : ℕ) → Word n ps a k w → vacant n ps (a + k) ≡ false → Word n ps a (k + 1) w
  word_used a k w W t =
      record {
        bits = λ g l. W.bits g l ∙ by-eq g k
            (λ e. rw e (rw (le-ltb k k (omega arith)) (sym (rw (lt-ltb k (k + 1) (omega arith)) t))))
            (λ ne. ap (λ x. x && vacant n ps (a + g)) (sym (earlier k g ne)));
      }

  -- frame a + k is looked at: its bit is put into the word
  pub word_next : (a k w : ℕ) (t : Bool) → k < 64 → t ≡ vacant n ps (a + k) → Word n ps a k w → Word n ps a (k + 1) (bit_or w (bool_byte t * 2 ^ k % 2 ^ 64))
  word_next a k w true h e W = rw (one_shifted k h) (word_free a k w W (sym e))
  word_next a k w false h e W = let z : 0 * 2 ^ k ≡ 0 = zero-mul (2 ^ k) in rw (z, or_zero_r w) (word_used a k w W (sym e))

  pub word_done : (a k w : ℕ) → k ≤ 64 → 64 ≤ k → Word n ps a k w → Word n ps a 64 w
  word_done a k w l h W = let e : k ≡ 64 = omega arith in rw (← e) W

  -- words of used frames alone, and of free ones alone
  pub word_empty : (a k : ℕ) → Vacant ps a 64 k → k ≡ 0 → Word n ps a 64 0
  word_empty a k C e =
      record { bits = λ g l. rw (zero-div (2 ^ g), ne_eqb (place_at ps (a + g)).backing 0 (C.none e g l)) (sym (never (ltb g 64) (ltb (a + g) n))) }
    where
      never : (p q : Bool) → (p && (q && false)) ≡ false
      never true true = refl
      never true false = refl
      never false q = refl

  pub word_full : (a k : ℕ) → a + 64 ≤ n → Vacant ps a 64 k → k ≡ 64 → Word n ps a 64 18446744073709551615
  word_full a k h C e =
      record {
        bits = λ g l.
            let b : 18446744073709551615 / 2 ^ g % 2 ≡ 1 = not_bit 0 g (omega arith) l ∙ rw (zero-div (2 ^ g)) in
            rw (b, lt-ltb g 64 l, lt-ltb (a + g) n (omega arith), eq-eqb (place_at ps (a + g)).backing 0 (C.all e g l));
      }

  pub built_none : Built n ps 0 (replicate 16 0)
  built_none = record { long = refl; bits = λ g l. absurd (omega arith) }

  pub built_next : (i : ℕ) (d : List ℕ) (w : ℕ) → i < 16 → Built n ps i d → Word n ps (i * 64) 64 w → Built n ps (i + 1) (set d i w)
  unfolding free_bit
  built_next i d w h b W = record { long = simp length-set b.long; bits = λ g l. by-lt g (i * 64) (λ o. there g o) (λ o. here g o l) }
    where
      here : (g : ℕ) → i * 64 ≤ g → g < (i + 1) * 64 → is_free (set d i w) g ≡ vacant n ps g
      here g o l =
          let e : g / 64 ≡ i = omega arith in
          let q : i * 64 + g % 64 ≡ g = omega arith in
          let k : i < length d = omega (arith, b.long) in
          let r : free_bit (set d i w) g ≡ w / 2 ^ (g % 64) % 2 = rw (e, get_or-set_same d i w 0 k) in
          let t : (ltb (g % 64) 64 && vacant n ps (i * 64 + g % 64)) ≡ vacant n ps (i * 64 + g % 64) = rw (lt-ltb (g % 64) 64 (omega arith)) in
          ap (λ x. eqb x 1) r ∙ W.bits (g % 64) (omega arith) ∙ t ∙ ap (vacant n ps) q

      there : (g : ℕ) → g < i * 64 → is_free (set d i w) g ≡ vacant n ps g
      there g o =
          let r : free_bit (set d i w) g ≡ free_bit d g = rw (get_or-set_other d i (g / 64) w 0 (λ e. omega arith)) in
          ap (λ x. eqb x 1) r ∙ b.bits g o

  pub built_done : (i : ℕ) (d : List ℕ) → n ≤ 1024 → Built n ps i d → 16 ≤ i → FreeMap n ps d
  built_done i d m b h =
      record {
        long = b.long;
        bits = λ g. by-lt g (i * 64) (λ l. b.bits g l) (λ l. ap (λ x. eqb x 1) (zero_bit d g (past g l)) ∙ rw (le-ltb g n (omega arith)));
      }
    where
      past : (g : ℕ) → i * 64 ≤ g → get_or d (g / 64) 0 ≡ 0
      past g l = get_or-eq_default d 0 {n = g / 64} (let e = b.long in omega arith)

-- ---- frames at no backing, counted
module _ (ps : List Place) (a k n : ℕ) (C : Vacant ps a k n) where
  pub vacant_more : (place_at ps (a + k)).backing ≡ 0 → Vacant ps a (k + 1) (n + 1)
  vacant_more z = record {
    few = let l = C.few in omega arith;
    none = λ e g l. absurd (omega arith);
    all = λ e g l. by-eq g k (λ q. rw q z) (λ q. C.all (omega arith) g (omega arith));
  }

  pub vacant_same : ((place_at ps (a + k)).backing ≡ 0 → ⊥) → Vacant ps a (k + 1) n
  vacant_same z = record {
    few = let l = C.few in omega arith;
    none = λ e g l. by-eq g k (λ q. rw q z) (λ q. C.none e g (omega arith));
    all = λ e g l. absurd (let m = C.few in omega arith);
  }

-- ---- the map as the list of free frames, the highest first
module _ (n : ℕ) (ps : List Place) (d : List ℕ) (m : FreeMap n ps d) where
  pub map_spare : n ≤ 1024 → spare_of d 1024 ≡ spare_of d n
  map_spare h =
      let z : 1024 ≡ n + (1024 - n) = omega arith in
      ap (spare_of d) z ∙ spare_above d n (1024 - n) (λ f a b. m.bits f ∙ rw (le-ltb f n a))

  map_bit : (k : ℕ) → k < n → is_free d k ≡ eqb (place_at ps k).backing 0
  map_bit k h = m.bits k ∙ rw (lt-ltb k n h)

  -- it is the list that the table itself gives
  pub map_vacant : n ≤ length ps → (k : ℕ) → k ≤ n → vacant_from 0 [] (take k ps) ≡ spare_of d k
  unfolding vacant_from spare_of
  map_vacant l zero h = refl
  map_vacant l (suc k) h =
      let q : length (take k ps) ≡ k = length-take-le k ps (omega arith) in
      let z : 0 + length (take k ps) ≡ k = omega arith in
      rw (take-suc ps k nowhere (omega arith), vacant_snoc 0 [] (take k ps) (place_at ps k), map_bit k (omega arith), z, map_vacant l k (omega arith))

  one_each : n ≤ length ps → (k : ℕ) → k ≤ n → length (spare_of d k) + used_count (take k ps) ≡ k
  unfolding spare_of used_count
  one_each l zero h = refl
  one_each l (suc k) h =
      let ih = one_each l k (omega arith) in
      let s : used_count (take (k + 1) ps) ≡ used_count (take (suc k) ps) = ap (λ j. used_count (take j ps)) (add-one k) in
      by-eq (place_at ps k).backing 0
      (λ e. let u = used_free ps k (omega arith) (omega arith) in
      let t : is_free d k ≡ true = map_bit k (omega arith) ∙ eq-eqb (place_at ps k).backing 0 e in
      rw t (omega arith))
      (λ e. let u = used_held ps k (omega arith) (omega arith) in
      let t : is_free d k ≡ false = map_bit k (omega arith) ∙ ne_eqb (place_at ps k).backing 0 e in
      rw t (omega arith))

  -- "Each frame is free or stands in exactly one backing": the two counts make up all frames
  pub free_and_used : n ≤ 1024 → n ≤ length ps → length (spare_of d 1024) + used_count (take n ps) ≡ n
  free_and_used h l = ap (λ (x : List ℕ). length x + used_count (take n ps)) (map_spare h) ∙ one_each l n (omega arith)
