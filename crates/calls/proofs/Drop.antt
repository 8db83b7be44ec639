-- A drop is done as the run book does it.
use Rattle.std.specs.Prelude.{◌≡◌, List, [], ℕ, ◌+◌, ◌≤◌, ◌<◌, length}
use Rattle.std.proofs.Common.{ap, sym, ◌∙◌, arith}
use Rattle.std.proofs.Math.Logic.{inr}
use Rattle.std.proofs.lemmas.List.{length-map}
use Rattle.store.specs.declared.Store.{Store}
use Rattle.ranges.specs.Range.{line, carve}
use Rattle.ranges.specs.Reback.{reback, carve_reback}
use Rattle.book.specs.Pages.{uncover}
use Rattle.book.specs.Book.{drop_object, done, perform, entry}
use Rattle.laws.specs.Accepted.{drop_rows}
use Rattle.table.specs.Table.{ranges_of, ranged_of, number_of}
use Rattle.store.specs.Abs.{used, table_of, book_of}
use Rattle.store.specs.Sound.{Sound, Sized}
use Rattle.store.specs.Edits.{trimmed, trim_places}
use Rattle.store.specs.Ranges.{ranges_ranged, cut_ranges, cut_rest}
use Rattle.store.specs.Kinds.{kinds_kept, cut_member, cut_agreed}
use Rattle.store.specs.Stands.{Stay, stands_trimmed}
use Rattle.store.specs.Idle.{idle_trimmed}
use Rattle.store.specs.Live.{live_cleared}
use Rattle.store.specs.Settle.{trimmed_length}
use Rattle.store.specs.Good.{sound_table}
use Rattle.store.specs.Back.{Besides, sound_besides}
use Rattle.refusals.specs.Refuse.{refusal}
use Rattle.calls.specs.Calls.{Did, did_done}
use Rattle.calls.specs.Kept.{was_sound, accepted, left_sound, still_sound}
use Rattle.calls.specs.Drop.{Dropped}

module _ (s : Store) (o : ℕ) (Z : Sized s) (r : (x : List ℕ) → 0 ≡ refusal s x (drop_object o)) where
  abbrev a : ℕ
  a = line o 0

  abbrev e : ℕ
  e = line o 0 + 262144

  S : Sound s
  S = was_sound (drop_object o) s r

  small : s.frames ≤ length s.places
  small = omega (arith, S.few_frames, Z.places)

  pub drop_name : o < 32
  drop_name = (drop_rows (book_of s []) o (accepted (drop_object o) s r [])).small

  ranges_left : length (carve a e (ranges_of (used s))) ≤ 512
  unfolding perform uncover entry book_of
  ranges_left = (left_sound (drop_object o) s r Z).count

  -- the table has room for what is left
  pub drop_room : length (carve a e (ranged_of (used s))) ≤ 512
  drop_room =
      let m : length (carve a e (ranges_of (used s))) ≡ length (carve a e (ranged_of (used s))) =
      ap (λ l. length (carve a e l)) (ranges_ranged (used s))
      ∙ ap length (sym (carve_reback number_of a e (ranged_of (used s))))
      ∙ length-map (carve a e (ranged_of (used s))) (reback number_of) in
      omega (arith, ranges_left)

  module _ (t : Store) (D : Dropped s o t) where
    left : ranges_of (used t) ≡ carve a e (ranges_of (used s))
    left = cut_ranges s.ranges s.count a e (table_of t) D.table

    drop_does : (x : List ℕ) → perform (book_of s x) (drop_object o) ≡ record { answer = done; book = book_of t x }
    unfolding perform uncover entry book_of
    drop_does x =
        rw (D.frames, D.live, live_cleared s.live o drop_name, D.places, trim_places 4096 s.frames s.places x (ranges_of (used t)) small, left)

    besides : Besides t
    besides =
        let B = sound_besides s Z S in
        let h : a ≤ e = omega arith in
        let T = sound_table s Z S in
        let K : Stay s.places (trimmed s.frames (ranges_of (used t)) s.places) s.frames (ranges_of (used t)) =
        unfold Stay in λ b l n. stands_trimmed s.places s.frames b 0 (ranges_of (used t)) small n in
        record {
          few_ranges = D.few;
          kinds = rw (D.frames, D.places)
              (kinds_kept s.places (trimmed s.frames (ranges_of (used t)) s.places) s.frames (used s) (used t) B.kinds K
              (λ q m. inr (cut_member s.ranges s.count T.rising a e (table_of t) h D.table q m)));
          agree = cut_agreed s.ranges s.count T.rising a e (table_of t) h D.table B.agree;
          rest_ranges = cut_rest s.ranges s.count a e (table_of t) D.table;
          rest_places = rw (D.frames, D.places) (idle_trimmed s.frames s.places small B.rest_places (ranges_of (used t)));
          bits = rw D.frames D.bits;
        }

    sized : Sized t
    sized = record { ranges = D.full; places = ap length D.places ∙ trimmed_length s.frames (ranges_of (used t)) s.places ∙ Z.places; free = D.bits.long }

    pub drop_done : Did (drop_object o) s 0 done t
    drop_done =
        did_done (drop_object o) s done t r (still_sound (drop_object o) s r t Z (λ x. ap (λ d. d.book) (drop_does x)) besides) (λ _. sized) drop_does
