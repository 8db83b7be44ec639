-- What leaves with a page step, in the order in which the code finds it.
use Rattle.std.specs.Prelude.{◌≡◌, Option, Some, None, true, false, ◌&&◌, List, [], ◌∷◌, ℕ, zero, suc, replicate, ◌+◌, ◌-◌, ◌*◌, ◌/◌, ◌%◌, ◌<◌, ◌^◌, eqb, get_or, length, set, take}
use Rattle.std.proofs.Common.{ap, sym, ◌∙◌, arith, refl, length-take, not-suc-le-zero, get_or-set_other, length-set}
use Rattle.std.specs.Int.Bits.{bit_and}
use Rattle.frames.specs.Free.{TakenOut, cleared, free_bit, free_count}
use Rattle.frames.specs.Bits.{cleared_other, cleared_same, one_shifted}
use Rattle.std.specs.Int.Count.{ones}
use Rattle.std.proofs.Math.Seq.{get_or-set_same}
use Rattle.places.specs.declared.Place.{Place}
use Rattle.store.specs.declared.Store.{Store}
use Rattle.lists.specs.Test.{pick, by-eq}
use Rattle.lists.specs.Listed.{one_at}
use Rattle.ranges.specs.Range.{Slot}
use Rattle.ranges.specs.Table.{named}
use Rattle.table.specs.Table.{ranges_of}
use Rattle.places.specs.Places.{frame_at, nowhere}
use Rattle.places.specs.Found.{frame_found}
use Rattle.store.specs.Abs.{used}
use Rattle.store.specs.Edits.{slot}
use Rattle.frames.specs.Count.{taken_out}
use Rattle.store.specs.With.{with_free, with_place, with_places, with_word}

-- where a page was, as a slot of the book
abbrev pub old_slot : Option Place → Option Slot
old_slot None = None
old_slot (Some p) = Some (slot p.backing p.index)

-- the places once a frame that was found stands nowhere
abbrev pub without : Option ℕ → List Place → List Place
without None ps = ps
without (Some k) ps = set ps k nowhere

abbrev pub gone_at : Store → Place → List Place
gone_at s p = without (frame_at p.backing p.index 0 (take s.frames s.places)) s.places

-- the places once what leaves has left: s has the new table, the page is at index i of backing b
abbrev pub departed : Store → ℕ → ℕ → Option Place → List Place
departed s b i None = s.places
departed s b i (Some p) =
    pick (eqb p.backing b && eqb p.index i) (gone_at s p) (pick (named p.backing p.index (ranges_of (used s))) s.places (gone_at s p))

-- t is s with frame f taken out of the free map
pub record Taken (s : Store) (f : ℕ) (t : Store) : Type 0 where
  pub out : TakenOut s.free f t.free
  pub same : t ≡ with_free t.free s

-- ---- a frame released, as the code finds it
module _ (s : Store) (p : Place) where
  pub found_below : (k : ℕ) → frame_at p.backing p.index 0 (take s.frames s.places) ≡ Some k → k < s.frames
  found_below k e =
      let F = frame_found p.backing p.index 0 (take s.frames s.places) k e in
      omega (arith, F.number, F.inside, length-take s.frames s.places)

  pub gone_none : frame_at p.backing p.index 0 (take s.frames s.places) ≡ None → s ≡ with_places (gone_at s p) s
  gone_none e = rw e

  pub gone_one : (k : ℕ) (t : Store) → frame_at p.backing p.index 0 (take s.frames s.places) ≡ Some k → t ≡ with_place k nowhere s → t ≡ with_places (gone_at s p) s
  gone_one k t e h = rw e h

-- ---- what departs, by what the code asks
module _ (s : Store) (b i : ℕ) (old : Option Place) where
  pub depart_nowhere : old ≡ None → s ≡ with_places (departed s b i old) s
  depart_nowhere e = rw e

  module _ (p : Place) (e : old ≡ Some p) (t : Store) where
    pub depart_same : (eqb p.backing b && eqb p.index i) ≡ true → t ≡ with_places (gone_at s p) s → t ≡ with_places (departed s b i old) s
    depart_same q h = rw (e, q) h

    pub depart_stays : (eqb p.backing b && eqb p.index i) ≡ false → named p.backing p.index (ranges_of (used s)) ≡ true → s ≡ with_places (departed s b i old) s
    depart_stays q n = rw (e, q, n)

    pub depart_goes : (eqb p.backing b && eqb p.index i) ≡ false → named p.backing p.index (ranges_of (used s)) ≡ false → t ≡ with_places (gone_at s p) s
        → t ≡ with_places (departed s b i old) s
    depart_goes q n h = rw (e, q, n) h

-- ---- a bit cleared in its word

-- one word written: the count changes by what is set in it
count_set : (ws : List ℕ) (i v : ℕ) → i < length ws → free_count (set ws i v) + ones (get_or ws i 0) ≡ free_count ws + ones v
count_set [] i v h = absurd (not-suc-le-zero h)
count_set (w ∷ ws) zero v h = omega arith
count_set (w ∷ ws) (suc i) v h = omega (arith, count_set ws i v (omega arith))

module _ (ws : List ℕ) (f : ℕ) (long : length ws ≡ 16) (few : f < 1024) (fits : get_or ws (f / 64) 0 < 2 ^ 64) where
  abbrev word : ℕ
  word = get_or ws (f / 64) 0

  abbrev left : ℕ
  left = bit_and word (2 ^ 64 - 1 - 1 * 2 ^ (f % 64) % 2 ^ 64)

  left_cleared : set ws (f / 64) left ≡ cleared ws f
  unfolding cleared
  left_cleared = ap (λ (m : ℕ). set ws (f / 64) (bit_and word (2 ^ 64 - 1 - m))) (one_shifted (f % 64) (omega arith))

  -- the word alone, in a map that has no other bits: it has one bit fewer if the bit was set
  abbrev alone : List ℕ
  alone = set (replicate 16 0) (f / 64) word

  alone_word : get_or alone (f / 64) 0 ≡ word
  alone_word = get_or-set_same (replicate 16 0) (f / 64) word 0 (omega arith)

  alone_fits : (k : ℕ) → get_or alone k 0 < 2 ^ 64
  alone_fits k =
      by-eq k (f / 64)
      (λ e. let z : get_or alone k 0 ≡ word = ap (λ (j : ℕ). get_or alone j 0) e ∙ alone_word in omega arith)
      (λ n. let z : get_or alone k 0 ≡ 0 = get_or-set_other (replicate 16 0) (f / 64) k word 0 n ∙ one_at 0 16 k in omega arith)

  word_count : ones word ≡ ones left + free_bit ws f
  unfolding cleared free_bit
  word_count =
      let l : length alone ≡ 16 = simp length-set in
      let T = taken_out alone f l alone_fits few (cleared alone f) refl in
      let b : free_bit alone f ≡ free_bit ws f = ap (λ (w : ℕ). w / 2 ^ (f % 64) % 2) alone_word in
      let m : free_count (cleared alone f) ≡ free_count (set alone (f / 64) left) =
      ap (λ (w : ℕ). free_count (set alone (f / 64) w))
      (ap (λ (w : ℕ). bit_and w (2 ^ 64 - 1 - 2 ^ (f % 64))) alone_word ∙ ap (λ (j : ℕ). bit_and word (2 ^ 64 - 1 - j)) (sym (one_shifted (f % 64) (omega arith)))) in
      omega (arith, T.count, b, m, count_set alone (f / 64) left (omega arith), ap ones alone_word)

  pub word_out : TakenOut ws f (set ws (f / 64) left)
  word_out = record {
    words = left_cleared;
    clear = rw left_cleared (cleared_same ws f (omega arith));
    others = λ g n. rw left_cleared (cleared_other ws f (omega arith) g n);
    count = omega (arith, count_set ws (f / 64) left (omega arith), word_count);
  }

pub word_taken : (s t : Store) (f w : ℕ) → length s.free ≡ 16 → get_or s.free (f / 64) 0 < 2 ^ 64 → f < 1024 → w ≡ get_or s.free (f / 64) 0
    → t ≡ with_word (f / 64) (bit_and w (2 ^ 64 - 1 - 1 * 2 ^ (f % 64) % 2 ^ 64)) s → Taken s f t
word_taken s t f w l F h e q =
    let d : t.free ≡ set s.free (f / 64) (bit_and (get_or s.free (f / 64) 0) (2 ^ 64 - 1 - 1 * 2 ^ (f % 64) % 2 ^ 64)) =
    ap (λ (z : Store). z.free) q ∙ ap (λ (x : ℕ). set s.free (f / 64) (bit_and x (2 ^ 64 - 1 - 1 * 2 ^ (f % 64) % 2 ^ 64))) e in
    record {
      out = rw d (word_out s.free f l h F);
      same = q ∙ ap (λ (ws : List ℕ). with_free ws s) (sym (ap (λ (z : Store). z.free) q));
    }
