-- Cuts and puts do not look at the backing: they are the same before and after each backing is replaced by a function of it.
use Rattle.std.specs.Prelude.{◌≡◌, ℕ}
use Rattle.std.proofs.Math.Path.{refl, ap}
use Rattle.std.proofs.Common.{◌∙◌}
use mathlib.Core.List.{List, [], ◌∷◌, ◌++◌, map, map-append}
use Rattle.lists.specs.Test.{by-lt}
use Rattle.ranges.specs.Range.{Ranged, from, upto, front, back, carve, insert, put, Rising}
use Rattle.ranges.specs.Cut.{front_some, front_none, back_some, back_none}
use Rattle.ranges.specs.Put.{insert_here, insert_later}

abbrev pub reback : {A B : Type 0} → (A → B) → Ranged A → Ranged B
reback f r = record { object = r.object; start = r.start; len = r.len; offset = r.offset; backing = f r.backing }

module _ {A : Type 0} {B : Type 0} (f : A → B) where
  front_reback : (a : ℕ) (r : Ranged A) → map (reback f) (front a r) ≡ front a (reback f r)
  front_reback a r = by-lt (from r) a (λ l. rw (front_some a r l, front_some a (reback f r) l)) (λ l. rw (front_none a r l, front_none a (reback f r) l))

  back_reback : (e : ℕ) (r : Ranged A) → map (reback f) (back e r) ≡ back e (reback f r)
  back_reback e r = by-lt e (upto r) (λ l. rw (back_some e r l, back_some e (reback f r) l)) (λ l. rw (back_none e r l, back_none e (reback f r) l))

  pub carve_reback : (a e : ℕ) (rs : List (Ranged A)) → map (reback f) (carve a e rs) ≡ carve a e (map (reback f) rs)
  unfolding carve
  carve_reback a e [] = refl
  carve_reback a e (r ∷ rs) =
      map-append (reback f) (front a r ++ back e r) (carve a e rs)
      ∙ ap (λ k. k ++ map (reback f) (carve a e rs)) (map-append (reback f) (front a r) (back e r))
      ∙ rw (front_reback a r, back_reback e r, carve_reback a e rs)

  insert_reback : (n : Ranged A) (rs : List (Ranged A)) → map (reback f) (insert n rs) ≡ insert (reback f n) (map (reback f) rs)
  unfolding insert
  insert_reback n [] = refl
  insert_reback n (r ∷ rs) =
      by-lt (from n) (from r)
      (λ l. rw (insert_here n r rs l, insert_here (reback f n) (reback f r) (map (reback f) rs) l))
      (λ l. rw (insert_later n r rs l, insert_later (reback f n) (reback f r) (map (reback f) rs) l) (ap (λ k. reback f r ∷ k) (insert_reback n rs)))

  pub put_reback : (n : Ranged A) (rs : List (Ranged A)) → map (reback f) (put n rs) ≡ put (reback f n) (map (reback f) rs)
  unfolding put
  put_reback n rs = insert_reback n (carve (from n) (upto n) rs) ∙ ap (λ k. insert (reback f n) k) (carve_reback (from n) (upto n) rs)

  pub rising_reback : (low : ℕ) (rs : List (Ranged A)) → Rising low (map (reback f) rs) → Rising low rs
  unfolding Rising
  rising_reback low [] s = tt
  rising_reback low (r ∷ rs) s = (s.0, s.1, rising_reback (upto r) rs s.2)

  pub reback_rising : (low : ℕ) (rs : List (Ranged A)) → Rising low rs → Rising low (map (reback f) rs)
  unfolding Rising
  reback_rising low [] s = tt
  reback_rising low (r ∷ rs) s = (s.0, s.1, reback_rising (upto r) rs s.2)
