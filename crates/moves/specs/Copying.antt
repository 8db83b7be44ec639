-- THE LOOP OF A COPY: the loop of a write whose data is what is read of the source. The source, another object, reads all along as it did.
use Rattle.std.specs.Prelude.{◌≡◌, refl, List, ℕ, ◌+◌, ◌-◌, ◌/◌, ◌%◌, ◌≤◌, ◌<◌, length, take, drop}
use Rattle.std.proofs.Common.{ap, sym, subst, ◌∙◌, inl, inr, ⊎_elim, arith, length-drop, length-take-le}
use Rattle.pages.specs.Present as pagesPresent
use Rattle.store.specs.declared.Store.{Store}
use Rattle.lists.specs.Test.{by-lt}
use Rattle.ranges.specs.Range.{line}
use Rattle.book.specs.Page.{over}
use Rattle.book.specs.Work.{page_of}
use Rattle.book.specs.Bytes.{reading}
use Rattle.laws.specs.PageLaw.{Other, write_elsewhere}
use Rattle.laws.specs.Turn.{in_page}
use Rattle.store.specs.Spare.{work_of}
use Rattle.pages.specs.Inside.{Wrote}
use Rattle.writes.specs.Written.{Room, Written}
use Rattle.writes.specs.Going.{Going, going_start, going_room, going_turn, going_end, rest_room, rest_written}
use Rattle.moves.specs.Source.{Elsewhere, source_length, source_part, source_same}

-- from store s and pool x, the first `done` of the n bytes of object `source` from offset `from` are written, which has made them t and y
pub record Copying (s : Store) (x : List ℕ) (source from o off n done : ℕ) (t : Store) (y : List ℕ) : Type 0 where
  pub going : Going s x o off (reading source from n (work_of s x)) done t y
  pub elsewhere : Elsewhere o (work_of s x) (work_of t y)

module _ (s : Store) (x : List ℕ) (source from o off n : ℕ) (R : Room s x o off n) where
  -- the bytes to write
  abbrev d : List ℕ
  d = reading source from n (work_of s x)

  -- there are n of them
  long : length d ≡ n
  long = source_length s x R.inside source from n

  -- nothing is written yet
  pub copying_start : Copying s x source from o off n 0 s x
  copying_start = record { going = going_start s x o off d (subst (λ k. Room s x o off k) (sym long) R); elsewhere = λ g c. refl }

  -- all is written
  pub copying_end : (done : ℕ) (t : Store) (y : List ℕ) → n ≤ done → Copying s x source from o off n done t y → Written s x o off d t y × Elsewhere o (work_of s x) (work_of t y)
  copying_end done t y h C =
      let e : done ≡ length d = omega (arith, C.going.few, long) in
      (going_end s x o off d t y (rw e at C.going), C.elsewhere)

  -- ---- a turn

  module _ (done : ℕ) (t : Store) (y : List ℕ) (C : Copying s x source from o off n done t y) (h : done < n) where
    abbrev p : ℕ
    p = (off + done) / 4096

    -- bytes are left
    some_left : done < length d
    some_left = omega (arith, long)

    -- there is room for the next page
    pub copying_room : pagesPresent.Room t y o p
    copying_room = going_room s x o off d done t y C.going some_left

    module _ (ne : source ≡ o → ⊥) (ends : from + n ≤ 1073741824) where
      -- a page of the source is of another object
      source_other : (q : ℕ) → q < 262144 → Other o (line source q)
      source_other q hq = by-lt source o (λ l. inl (omega arith)) (λ l. inr (omega (arith, ne)))

      -- what is read now is the next part of the data
      next_part : (m : ℕ) → done + m ≤ n → reading source (from + done) m (work_of t y) ≡ take m (drop done d)
      next_part m l =
          source_same s x R.inside source (from + done) m t y C.going.inside (omega arith) (λ q hq. C.elsewhere (line source q) (source_other q hq))
          ∙ sym (source_part s x R.inside source from n done m l)

    module _ (ne : source ≡ o → ⊥) (ends : from + n ≤ 1073741824) (m : ℕ) (e : m ≡ in_page 4096 (off + done) (n - done)) (t' : Store) (y' : List ℕ)
        (S : Wrote t y o p (over ((off + done) % 4096) (reading source (from + done) m (work_of t y))) t' y') where
      -- the pages of other objects still read as they did
      turn_elsewhere : Elsewhere o (work_of s x) (work_of t' y')
      turn_elsewhere g c =
          let G = C.going.inside.good in
          ap (page_of g) S.step.work
          ∙ write_elsewhere o p _ (work_of t y) G.whole G.tight (omega (arith, R.ends)) g
          (λ q. ⊎_elim (λ (l : g < line o 0). omega arith) (λ (l : line o 262144 ≤ g). omega (arith, R.ends)) c)
          ∙ C.elsewhere g c

      -- A PAGE'S TURN
      pub copying_turn : Copying s x source from o off n (done + m) t' y'
      copying_turn = record {
        going = going_turn s x o off d done t y C.going some_left (omega (arith, R.ends, long)) m (e ∙ ap (λ k. in_page 4096 (off + done) (k - done)) (sym long)) t' y'
            (subst (λ r. Wrote t y o p (over ((off + done) % 4096) r) t' y') (next_part ne ends m (omega arith)) S);
        elsewhere = turn_elsewhere;
      }

-- ---- what is left, as a copy of its own: where the store is as it was
module _ (s : Store) (x : List ℕ) (source from o off n : ℕ) (R : Room s x o off n) (done : ℕ) (y : List ℕ) (C : Copying s x source from o off n done s y) (h : done < n) where
  -- so many bytes are left of the data
  rest_length : length (d s x source from o off n R) - done ≡ n - done
  rest_length = omega (arith, long s x source from o off n R)

  pub left_room : Room s y o (off + done) (n - done)
  left_room =
      let e : List ℕ = d s x source from o off n R in
      let l : length (take (length e - done) (drop done e)) ≡ n - done = length-take-le (length e - done) (drop done e) (omega (arith, length-drop done e)) ∙ rest_length in
      rw l at (rest_room s x o off e done y C.going (some_left s x source from o off n R done s y C h) (omega (arith, R.ends, long s x source from o off n R)))

  -- it makes of all what the whole copy makes
  pub left_copied : (source ≡ o → ⊥) → from + n ≤ 1073741824 → (t : Store) (z : List ℕ)
      → Written s y o (off + done) (reading source (from + done) (n - done) (work_of s y)) t z → Elsewhere o (work_of s y) (work_of t z)
      → Written s x o off (reading source from n (work_of s x)) t z × Elsewhere o (work_of s x) (work_of t z)
  left_copied ne ends t z W E =
      let e : List ℕ = d s x source from o off n R in
      let k : reading source (from + done) (n - done) (work_of s y) ≡ take (length e - done) (drop done e) =
      next_part s x source from o off n R done s y C h ne ends (n - done) (omega arith) ∙ ap (λ j. take j (drop done e)) (sym rest_length) in (
        rest_written s x o off e done y C.going (some_left s x source from o off n R done s y C h) t z (subst (λ r. Written s y o (off + done) r t z) k W),
        λ g c. E g c ∙ C.elsewhere g c,
      )
