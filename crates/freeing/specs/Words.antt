-- The free map made anew, word by word, from the places of the frames in use.
use Rattle.std.specs.Prelude.{◌≡◌, refl, Bool, true, false, ◌&&◌, List, [], ◌++◌, ℕ, zero, suc, ◌+◌, ◌-◌, ◌*◌, ◌/◌, ◌%◌, ◌^◌, ◌≤◌, ◌<◌, min, count_by, drop, eqb, get_or, length, ltb, replicate, set, take}
use Rattle.std.specs.Int.Bits.{bit_or, or_zero_r}
use Rattle.std.proofs.Common.{sym, ap, subst, ◌∙◌, add-one, zero-mul, arith, drop_at, drop_of_length-le, eq-eqb, eqb-true, get_or-drop, get_or-set_other, get_or-set_same, le_refl, le-ltb, length-drop, length-set, length-take-le, lt-ltb, ne_eqb, take_all}
use Rattle.std.proofs.Math.ListN.{get_or-append, get_or-eq_default}
use Rattle.std.proofs.Math.Nat.{zero-div}
use Rattle.std.proofs.Math.Seq.{drop-drop}
use Rattle.std.proofs.lemmas.Bool.{false≢true}
use Rattle.std.proofs.lemmas.List.{get_or-replicate, get_or-take}
use Rattle.std.proofs.lemmas.List.Sums.{count_by_more_no, count_by_more_yes}
use mir.Val.{bool_byte}
use Rattle.lists.specs.Test.{by-eq, by-lt, by-test}
use Rattle.frames.specs.Free.{free_bit, is_free}
use Rattle.frames.specs.Bits.{not_bit, one_other, one_same, one_shifted, or_bit, zero_bit}
use Rattle.places.specs.declared.Place.{Place}
use Rattle.places.specs.Places.{FreeMap, is_vacant, nowhere, place_at, vacant}

-- the word of the first k of at most 64 places: a frame's bit is set exactly if the frame is one of these and stands at no backing
pub record Word (k : ℕ) (ps : List Place) (w : ℕ) : Type 0 where
  pub bits : (g : ℕ) → g < 64 → eqb (w / 2 ^ g % 2) 1 ≡ vacant k ps g

-- n of the first k places are at no backing: what that says where it is none or all of them
pub record Vacant (ps : List Place) (k n : ℕ) : Type 0 where
  pub few : n ≤ k
  pub none : n ≡ 0 → (g : ℕ) → g < k → (place_at ps g).backing ≡ 0 → ⊥
  pub all : n ≡ k → (g : ℕ) → g < k → (place_at ps g).backing ≡ 0

-- the map once the words below i are made, and the others are clear
pub record Built (ps : List Place) (i : ℕ) (d : List ℕ) : Type 0 where
  pub long : length d ≡ 16
  pub bits : (g : ℕ) → g < i * 64 → is_free d g ≡ vacant (length ps) ps g
  pub rest : (k : ℕ) → i ≤ k → get_or d k 0 ≡ 0

-- ---- a word, place by place
-- a frame more is looked at: the others as before
earlier : (f g : ℕ) → (g ≡ f → ⊥) → ltb g (f + 1) ≡ ltb g f
earlier f g ne =
    by-lt g f
    (λ l. rw (lt-ltb g f l) (lt-ltb g (f + 1) (omega arith)))
    (λ l. rw (le-ltb g f l) (le-ltb g (f + 1) (by-lt g (f + 1) (λ h. absurd (ne (omega arith))) (λ h. h))))

-- what is left behind a part
left_by : (ps part more : List Place) (i : ℕ) → drop (i * 64) ps ≡ part ++ more → length part ≡ min 64 (length ps - i * 64) → more ≡ drop ((i + 1) * 64) ps
left_by ps part more i e m =
    let b : drop (length part) (drop (i * 64) ps) ≡ more = ap (drop (length part)) e ∙ drop_at part more (length part) refl in
    let c : drop (length part) (drop (i * 64) ps) ≡ drop (i * 64 + length part) ps = drop-drop (length part) (i * 64) ps in
    by-lt (length ps) ((i + 1) * 64)
    (λ u.
    let x : drop (i * 64 + length part) ps ≡ [] = drop_of_length-le ps (omega arith) in
    let y : drop ((i + 1) * 64) ps ≡ [] = drop_of_length-le ps (omega arith) in
    sym b ∙ c ∙ x ∙ sym y)
    (λ u. let n : i * 64 + length part ≡ (i + 1) * 64 = omega arith in sym b ∙ c ∙ ap (λ k. drop k ps) n)

module _ (ps : List Place) where
  pub word_none : Word 0 ps 0
  word_none = record { bits = λ g l. rw (zero-div (2 ^ g), le-ltb g 0 (omega arith)) }

  word_free : (k w : ℕ) → Word k ps w → is_vacant (place_at ps k) ≡ true → Word (k + 1) ps (bit_or w (2 ^ k))
  word_free k w W t =
      record {
        bits = λ g l. by-eq g k
            (λ e. rw e (eq-eqb (bit_or w (2 ^ k) / 2 ^ k % 2) 1 (omega (arith, or_bit w (2 ^ k) k, one_same k)) ∙ sym (rw (lt-ltb k (k + 1) (omega arith)) t)))
            (λ ne.
            let z : bit_or w (2 ^ k) / 2 ^ g % 2 ≡ w / 2 ^ g % 2 = omega (arith, or_bit w (2 ^ k) g, one_other k g ne) in
            ap (λ x. eqb x 1) z ∙ W.bits g l ∙ ap (λ x. x && is_vacant (place_at ps g)) (sym (earlier k g ne)));
      }

  word_used : (k w : ℕ) → Word k ps w → is_vacant (place_at ps k) ≡ false → Word (k + 1) ps w
  word_used k w W t =
      record {
        bits = λ g l. W.bits g l ∙ by-eq g k
            (λ e. rw e (rw (le-ltb k k (omega arith)) (sym (rw (lt-ltb k (k + 1) (omega arith)) t))))
            (λ ne. ap (λ x. x && is_vacant (place_at ps g)) (sym (earlier k g ne)));
      }

  -- place k is looked at: its bit is put into the word
  pub word_next : (k w : ℕ) (t : Bool) → k < 64 → t ≡ is_vacant (place_at ps k) → Word k ps w → Word (k + 1) ps (bit_or w (bool_byte t * 2 ^ k % 2 ^ 64))
  word_next k w true h e W = rw (one_shifted k h) (word_free k w W (sym e))
  word_next k w false h e W = let z : 0 * 2 ^ k ≡ 0 = zero-mul (2 ^ k) in rw (z, or_zero_r w) (word_used k w W (sym e))

  -- ---- words of used frames alone, and of free ones alone
  counted : (k : ℕ) → k ≤ length ps → Vacant ps k (count_by is_vacant (take k ps))
  counted zero h = record { few = omega arith; none = λ e g l. absurd (omega arith); all = λ e g l. absurd (omega arith) }
  counted (suc k) h =
      let C = counted k (omega arith) in
      by-test (is_vacant (place_at ps k))
      (λ t.
      let z = eqb-true (place_at ps k).backing 0 t in
      rw (← add-one k, count_by_more_yes is_vacant ps k nowhere (omega arith) t)
      (record {
        few = omega (arith, C.few);
        none = λ e g l. absurd (omega arith);
        all = λ e g l. by-eq g k (λ q. rw q z) (λ q. C.all (omega arith) g (omega arith));
      }))
      (λ t.
      let z : (place_at ps k).backing ≡ 0 → ⊥ = λ z. false≢true (sym t ∙ eq-eqb (place_at ps k).backing 0 z) in
      rw (← add-one k, count_by_more_no is_vacant ps k nowhere (omega arith) t)
      (record {
        few = omega (arith, C.few);
        none = λ e g l. by-eq g k (λ q. rw q z) (λ q. C.none e g (omega arith));
        all = λ e g l. absurd (omega (arith, C.few));
      }))

  pub vacant_all : (n : ℕ) → n ≡ count_by is_vacant ps → Vacant ps (length ps) n
  vacant_all n e =
      rw e
      (subst (λ (l : List Place). Vacant ps (length ps) (count_by is_vacant l)) (take_all (length ps) ps (le_refl (length ps))) (counted (length ps) (le_refl (length ps))))

  pub word_empty : (n : ℕ) → n ≡ count_by is_vacant ps → n ≡ 0 → Word (length ps) ps 0
  word_empty n q e =
      let C = vacant_all n q in
      record {
        bits = λ g l. by-lt g (length ps)
            (λ h. rw (zero-div (2 ^ g), ne_eqb (place_at ps g).backing 0 (C.none e g h)) (sym (never (ltb g (length ps)))))
            (λ h. rw (zero-div (2 ^ g), le-ltb g (length ps) h));
      }
    where
      never : (p : Bool) → (p && false) ≡ false
      never true = refl
      never false = refl

  pub word_full : (n : ℕ) → length ps ≤ 64 → n ≡ count_by is_vacant ps → n ≡ 64 → Word (length ps) ps 18446744073709551615
  word_full n h q e =
      let C = vacant_all n q in
      let k : length ps ≡ 64 = omega (arith, C.few) in
      record {
        bits = λ g l.
            let b : 18446744073709551615 / 2 ^ g % 2 ≡ 1 = not_bit 0 g (omega arith) l ∙ rw (zero-div (2 ^ g)) in
            rw (b, lt-ltb g (length ps) (omega arith), eq-eqb (place_at ps g).backing 0 (C.all (omega arith) g (omega arith)));
      }

  -- ---- the map, word by word
  pub built_none : Built ps 0 (replicate 16 0)
  built_none = record {
    long = refl;
    bits = λ g l. absurd (omega arith);
    rest = λ k l. by-lt k 16 (λ h. get_or-replicate 16 k 0 0 h) (λ h. get_or-eq_default (replicate 16 0) 0 {n = k} h);
  }

  -- a part is the next 64 places, or those that are left
  module _ (i w : ℕ) (d : List ℕ) (part more : List Place) (e : drop (i * 64) ps ≡ part ++ more) (m : length part ≡ min 64 (length (drop (i * 64) ps))) where
    short : length part ≡ min 64 (length ps - i * 64)
    short = m ∙ ap (min 64) (length-drop (i * 64) ps)

    same : (g : ℕ) → i * 64 ≤ g → g < (i + 1) * 64 → vacant (length part) part (g % 64) ≡ vacant (length ps) ps g
    same g o l =
        let q : i * 64 + g % 64 ≡ g = omega arith in
        by-lt g (length ps)
        (λ u.
        let v : g % 64 < length part = omega (arith, short) in
        let p : place_at part (g % 64) ≡ place_at ps g =
        sym (get_or-append part more nowhere (g % 64) v) ∙ sym (ap (λ (l : List Place). place_at l (g % 64)) e) ∙ get_or-drop (i * 64) ps (g % 64) nowhere ∙ ap (place_at ps) q in
        rw (lt-ltb (g % 64) (length part) v, lt-ltb g (length ps) u) (ap is_vacant p))
        (λ u. let v : length part ≤ g % 64 = omega (arith, short) in rw (le-ltb (g % 64) (length part) v, le-ltb g (length ps) u))

    pub built_next : i < 16 → Built ps i d → Word (length part) part w → Built ps (i + 1) (set d i w)
    unfolding free_bit
    built_next h B W =
        record {
          long = simp length-set B.long;
          bits = λ g l. by-lt g (i * 64) (λ o. there g o) (λ o. here g o l);
          rest = λ k l. get_or-set_other d i k w 0 (λ q. omega arith) ∙ B.rest k (omega arith);
        }
      where
        here : (g : ℕ) → i * 64 ≤ g → g < (i + 1) * 64 → is_free (set d i w) g ≡ vacant (length ps) ps g
        here g o l =
            let q : g / 64 ≡ i = omega arith in
            let k : i < length d = omega (arith, B.long) in
            let r : free_bit (set d i w) g ≡ w / 2 ^ (g % 64) % 2 = rw (q, get_or-set_same d i w 0 k) in
            ap (λ x. eqb x 1) r ∙ W.bits (g % 64) (omega arith) ∙ same g o l

        there : (g : ℕ) → g < i * 64 → is_free (set d i w) g ≡ vacant (length ps) ps g
        there g o =
            let r : free_bit (set d i w) g ≡ free_bit d g = rw (get_or-set_other d i (g / 64) w 0 (λ e. omega arith)) in
            ap (λ x. eqb x 1) r ∙ B.bits g o

    -- what is left behind it
    pub left_next : more ≡ drop ((i + 1) * 64) ps
    left_next = left_by ps part more i e short

  pub built_done : (i : ℕ) (d : List ℕ) → Built ps i d → length ps ≤ i * 64 → FreeMap (length ps) ps d
  built_done i d B h =
      record {
        long = B.long;
        bits = λ g. by-lt g (i * 64) (λ l. B.bits g l) (λ l. ap (λ x. eqb x 1) (zero_bit d g (B.rest (g / 64) (omega arith))) ∙ rw (le-ltb g (length ps) (omega arith)));
      }

-- the map of the first n places is the map of the n frames
pub map_in_use : (n : ℕ) (ps : List Place) (d : List ℕ) → n ≤ length ps → FreeMap (length (take n ps)) (take n ps) d → FreeMap n ps d
map_in_use n ps d h F =
    let q : length (take n ps) ≡ n = length-take-le n ps h in
    record {
      long = F.long;
      bits = λ g. F.bits g ∙ by-lt g n
          (λ u. rw (q, lt-ltb g n u) (ap is_vacant (get_or-take n ps g nowhere u)))
          (λ u. rw (q, le-ltb g n u));
    }
