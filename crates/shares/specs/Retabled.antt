-- ANOTHER TABLE, IN CODE: the table is replaced, and the places are trimmed by it. It is the book's `with_ranges`.
use Rattle.std.specs.Prelude.{◌≡◌, true, ◌⊎◌, ℕ, ◌*◌, ◌≤◌, ◌<◌, length, drop, Some}
use Rattle.std.proofs.Math.Path.{ap, ap₂}
use Rattle.std.proofs.Common.{sym, ◌∙◌, arith}
use Rattle.std.proofs.Math.Logic.{inl, inr, ⊎_elim}
use mathlib.Core.List.{List, Memᴰ}
use Rattle.table.specs.declared.PageRange.{PageRange}
use Rattle.places.specs.declared.Place.{Place}
use Rattle.edit.specs.declared.RangeTable.{RangeTable}
use Rattle.store.specs.declared.Store.{Store}
use Rattle.lists.specs.Every.{All}
use Rattle.ranges.specs.Range.{Range, slot_at}
use Rattle.ranges.specs.Table.{named}
use Rattle.ranges.specs.Find.{slot_named}
use Rattle.book.specs.Cell.{trim}
use Rattle.book.specs.Work.{Work}
use Rattle.book.specs.Pages.{with_ranges}
use Rattle.laws.specs.State.{Good}
use Rattle.table.specs.Table.{ranges_of, zero_range}
use Rattle.frames.specs.Free.{spare_of}
use Rattle.places.specs.Places.{place_at}
use Rattle.pool.specs.Bytes.{frame_at}
use Rattle.store.specs.Trim.{kept_place}
use Rattle.store.specs.Abs.{used, cells_of, table_of}
use Rattle.store.specs.Sound.{Kind}
use Rattle.store.specs.Edits.{slot, trimmed, mapped_at, trim_places}
use Rattle.store.specs.Kinds.{Part, Agreed, kinds_kept}
use Rattle.store.specs.Stands.{Stay, stands_trimmed}
use Rattle.store.specs.Idle.{idle_trimmed}
use Rattle.store.specs.Settle.{trimmed_length}
use Rattle.store.specs.Spare.{work_of}
use Rattle.pages.specs.Inside.{Inside, inside_room}
use Rattle.pages.specs.Changed.{Among, Changed, spot}
use Rattle.shares.specs.Reranged.{Reranged}

-- what the code has done to the store: it has the table u, and "Entries in no holder's window go at once"
pub record Retabled (s : Store) (u : RangeTable) (t : Store) : Type 0 where
  pub frames : t.frames ≡ s.frames
  pub live : t.live ≡ s.live
  pub free : t.free ≡ s.free
  pub table : table_of t ≡ u
  pub few : t.count ≤ 512
  pub full : length t.ranges ≡ 512
  pub places : t.places ≡ trimmed s.frames (ranges_of (used t)) s.places

-- what an edit of the table must keep besides the book's state
pub record Sorts (s t : Store) : Type 0 where
  pub kinds : (q : PageRange) → Memᴰ q (used t) → (Kind s.frames t.places q q.backing) ⊎ Part (used s) q
  pub agree : Agreed (used t)
  pub rest : All (λ r. r ≡ zero_range) (drop t.count t.ranges)

module _ (s : Store) (x : List ℕ) (I : Inside s x) (u : RangeTable) (t : Store) (R : Retabled s u t) where
  abbrev rs : List Range
  rs = ranges_of (used t)

  -- the book's step
  retabled_work : work_of t x ≡ with_ranges (ranges_of (used t)) (work_of s x)
  unfolding work_of
  retabled_work =
      let c : cells_of 4096 t.frames t.places x ≡ trim rs (cells_of 4096 s.frames s.places x) =
      ap₂ (λ n ps. cells_of 4096 n ps x) R.frames R.places ∙ trim_places 4096 s.frames s.places x rs (inside_room s x I) in
      λ j. record { size = 4096; ranges = rs; cells = c j; spare = ap (λ ws. spare_of ws 1024) R.free j }

  -- a frame that a range now names stays at index 0 of its backing
  pub retabled_stay : Stay s.places t.places s.frames (ranges_of (used t))
  unfolding Stay
  retabled_stay b l n S = rw R.places (stands_trimmed s.places s.frames b 0 rs (inside_room s x I) n S)

  -- the store stays inside the call
  retabled_inside : Sorts s t → Good (work_of t x) → Inside t x
  retabled_inside K G = record {
    sized = record {
      ranges = R.full;
      places = ap length R.places ∙ trimmed_length s.frames rs s.places ∙ I.sized.places;
      free = ap length R.free ∙ I.sized.free;
    };
    few_frames = omega (arith, R.frames, I.few_frames);
    few_ranges = R.few;
    pool = I.pool ∙ ap (λ n. n * 4096) (sym R.frames);
    good = G;
    kinds = rw R.frames (kinds_kept s.places t.places s.frames (used s) (used t) I.kinds retabled_stay K.kinds);
    agree = K.agree;
    rest_ranges = K.rest;
    rest_places = rw (R.frames, R.places) (idle_trimmed s.frames s.places (inside_room s x I) I.rest_places rs);
  }

  -- a frame that has a page of the new table is where it was
  place_stays : (f : ℕ) → f < s.frames → named (spot s f).inside (spot s f).index (ranges_of (used t)) ≡ true → place_at t.places f ≡ place_at s.places f
  place_stays f l n = ap (λ ps. place_at ps f) R.places ∙ mapped_at (kept_place rs) s.frames s.places f (inside_room s x I) l ∙ rw n

  module _ (c : ℕ) (low : (g : ℕ) → g < c → slot_at g (ranges_of (used t)) ≡ slot_at g (ranges_of (used s))) where
    -- a frame that has a page below c still has it
    among_stays : (a e f : ℕ) → e ≤ c → f < s.frames → Among a e s f → Among a e t f
    among_stays a e f h l A =
        let k : slot_at A.page (ranges_of (used t)) ≡ Some (spot s f) = low A.page (omega (arith, A.high)) ∙ A.slot in
        let p = place_stays f l (slot_named A.page (ranges_of (used t)) (spot s f) k) in
        record {
          page = A.page;
          low = A.low;
          high = A.high;
          held = omega (arith, A.held, ap (λ (q : Place). q.backing) p);
          slot = k ∙ ap (λ (q : Place). Some (slot q.backing q.index)) (sym p);
        }

    -- so no other frame's bytes count as changed
    retabled_changed : (a e : ℕ) (x₀ : List ℕ) → e ≤ c → Changed a e s x₀ x → Changed a e t x₀ x
    unfolding Changed
    retabled_changed a e x₀ h C f l =
        let m : f < s.frames = omega (arith, R.frames) in
        ⊎_elim (λ (q : frame_at 4096 x f ≡ frame_at 4096 x₀ f). inl q) (λ (A : Among a e s f). inr (among_stays a e f h m A)) (C f m)

    -- ANOTHER TABLE that the book has too, and that is as it was below the line's page c
    pub retabled : (w : Work) → with_ranges (ranges_of (used t)) (work_of s x) ≡ w → Good w → Sorts s t → Reranged s x w c t
    retabled w e G K =
        let d : work_of t x ≡ w = retabled_work ∙ e in
        record { work = d; inside = retabled_inside K (rw d G); frames = R.frames; live = R.live; changed = retabled_changed }
