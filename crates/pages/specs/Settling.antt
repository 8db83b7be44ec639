-- THE PAGE STEP OF CODE: the range of a spot put into the table and a frame set at its index. It is the book's `settle`, and the store stays inside a call.
use Rattle.std.specs.Prelude.{◌≡◌, refl, ◌⊎◌, ℕ, ◌*◌, ◌≤◌, ◌<◌, Some}
use Rattle.std.proofs.Math.Path.{ap, sym}
use Rattle.std.proofs.Common.{ap₂, subst, ◌∙◌, inl, inr, ⊎_elim, le_refl, arith, get_or-set_same}
use mathlib.Core.List.{List, Memᴰ, head_d}
use Rattle.std.proofs.Math.ListN.{length, get_or, length-set}
use Rattle.table.specs.declared.PageRange.{PageRange}
use Rattle.table.specs.declared.BackingPages.{BackingPages}
use Rattle.table.specs.declared.BackingPages.TheVariants.{Single, Many}
use Rattle.places.specs.declared.Place.{Place}
use Rattle.store.specs.declared.Store.{Store}
use Rattle.pages.specs.declared.Spot.{Spot}
use Rattle.lists.specs.Test.{by-eq}
use Rattle.lists.specs.Every.{All}
use Rattle.ranges.specs.Range.{line, from, upto, put, slot_at}
use Rattle.ranges.specs.Table.{holders}
use Rattle.ranges.specs.Over.{put_hit}
use Rattle.book.specs.Cell.{free}
use Rattle.book.specs.Work.{settle, next}
use Rattle.laws.specs.State.{Good, spare_next, spare_room}
use Rattle.laws.specs.Cells.{holds_free}
use Rattle.table.specs.Table.{Small, number_of, ranged, range_of, ranges_of}
use Rattle.edit.specs.Edit.{put_table}
use Rattle.frames.specs.Free.{highest_below, TakenOut, cleared}
use Rattle.frames.specs.Spare.{highest_found}
use Rattle.places.specs.Places.{place, nowhere, place_at}
use Rattle.pool.specs.Bytes.{frame_at}
use Rattle.store.specs.Abs.{used, cells_of, table_of}
use Rattle.store.specs.Sound.{Kind, Stands}
use Rattle.store.specs.Edits.{slot, trimmed, vacated, cell_at, cell_holds, length_cells}
use Rattle.store.specs.Ranges.{put_ranges, put_rest}
use Rattle.store.specs.Kinds.{Part, Agreed, kinds_kept, put_member, put_agreed_same, put_agreed_new, put_agreed_over}
use Rattle.store.specs.Stands.{Stay}
use Rattle.store.specs.Idle.{Idle, idle_trimmed, idle_vacated, idle_placed}
use Rattle.store.specs.Settle.{settled, settle_work, settle_stay, trimmed_length, vacated_length}
use Rattle.store.specs.Spare.{work_of}
use Rattle.look.specs.Look.{index_in}
use Rattle.pages.specs.Inside.{Inside, Has, inside_room, inside_table}

-- what the code has done to the store
pub record Placed (s : Store) (q : Spot) (f : ℕ) (t : Store) : Type 0 where
  pub frames : t.frames ≡ s.frames
  pub live : t.live ≡ s.live
  pub table : table_of t ≡ put_table s.ranges s.count q.range
  pub few : t.count ≤ 512
  pub full : length t.ranges ≡ 512
  pub places : t.places ≡ settled s.frames (ranges_of (used t)) f (number_of q.range.backing) q.index s.places
  pub taken : TakenOut s.free f t.free

-- THE CASES of a range n that is put into the table of s: a new backing's, one that stands there, or one made longer that is its backing's one holder
pub data Lodging (s : Store) (n : PageRange) (i : ℕ) : Type 0 where
  begun : (b : ℕ) → n.backing ≡ Single b → holders b (ranges_of (used s)) ≡ 0 → n.length ≡ 1 → n.offset ≡ 0 → i ≡ 0 → Lodging s n i
  stayed : Memᴰ n (used s) → Lodging s n i
  joined : (r : PageRange) → Memᴰ r (used s) → n.backing ≡ Many (number_of r.backing) → holders (number_of r.backing) (ranges_of (used s)) ≡ 1
      → from (ranged n) ≡ from (ranged r) → upto (ranged r) ≤ upto (ranged n) → Lodging s n i

-- page p of object o can be settled at the spot q
pub record Lodged (s : Store) (o p : ℕ) (q : Spot) : Type 0 where
  pub small : Small q.range
  pub low : from (ranged q.range) ≤ line o p
  pub high : line o p < upto (ranged q.range)
  pub index : q.index ≡ index_in q.range (line o p)
  pub positive : 0 < number_of q.range.backing
  pub cases : Lodging s q.range q.index

module _ (s : Store) (x : List ℕ) (I : Inside s x) (f : ℕ) (hf : highest_below s.free 1024 ≡ Some f) where
  -- the highest free frame is the one that the book takes next
  pub next_frame : next (work_of s x) ≡ f
  unfolding work_of head_d
  next_frame = ap (λ (k : List ℕ). head_d k (length (cells_of 4096 s.frames s.places x))) (highest_found s.free 1024 f hf).0

  spare_one : 0 < length (work_of s x).spare
  unfolding work_of
  spare_one = rw (highest_found s.free 1024 f hf).0 (omega arith)

  pub frame_below : f < s.frames
  unfolding work_of
  frame_below = omega (arith, next_frame, spare_room (work_of s x) I.good.whole spare_one, length_cells 4096 s.frames s.places x)

  frame_vacant : (place_at s.places f).backing ≡ 0
  unfolding work_of
  frame_vacant =
      let e : get_or (cells_of 4096 s.frames s.places x) f free ≡ free = ap (λ k. get_or (cells_of 4096 s.frames s.places x) k free) (sym next_frame) ∙ spare_next (work_of s x) I.good.whole in
      by-eq (place_at s.places f).backing 0
      (λ z. z)
      (λ ne. absurd (holds_free _ _ _ (sym (cell_holds (place_at s.places f) (frame_at 4096 x f) ne) ∙ sym (cell_at 4096 s.frames s.places x f frame_below) ∙ e)))

  module _ (o p : ℕ) (q : Spot) (L : Lodged s o p q) (t : Store) (P : Placed s q f t) where
    abbrev n : PageRange
    n = q.range

    abbrev b : ℕ
    b = number_of q.range.backing

    long : 0 < n.length
    long = omega (arith, L.low, L.high)

    ranges_put : ranges_of (used t) ≡ put (range_of n) (ranges_of (used s))
    ranges_put = put_ranges s.ranges s.count n (table_of t) P.table

    -- THE BOOK'S PAGE STEP
    pub settled_work : (y z : List ℕ) → ((k : ℕ) → (k ≡ f → ⊥) → frame_at 4096 y k ≡ frame_at 4096 x k) → frame_at 4096 y f ≡ z
        → work_of t y ≡ settle (range_of n) q.index z (work_of s x)
    settled_work y z e h =
        settle_work s t x y (range_of n) q.index f z (inside_room s x I) frame_below L.positive
        (record { frames = P.frames; ranges = ranges_put; places = P.places; highest = hf; taken = P.taken; others = e; bytes = h })

    -- ---- what besides is kept

    abbrev emptied : List Place
    emptied = vacated s.frames b q.index (trimmed s.frames (ranges_of (used t)) s.places)

    emptied_length : length emptied ≡ 1024
    emptied_length =
        vacated_length s.frames b q.index (trimmed s.frames (ranges_of (used t)) s.places)
        ∙ trimmed_length s.frames (ranges_of (used t)) s.places ∙ I.sized.places

    placed_at : place_at t.places f ≡ place b q.index
    placed_at = ap (λ ps. place_at ps f) P.places ∙ get_or-set_same emptied f (place b q.index) nowhere (omega (arith, emptied_length, frame_below, I.few_frames))

    stay : Stay s.places t.places s.frames (ranges_of (used t))
    stay = rw P.places (settle_stay s.frames (ranges_of (used t)) f b q.index s.places (inside_room s x I) frame_below frame_vacant)

    -- the range put in is of a sound kind, or an old one
    new_kind : Lodging s n q.index → (Kind s.frames t.places n n.backing) ⊎ Part (used s) n
    new_kind (begun c e h l d i) =
        let z : c ≡ b = sym (ap number_of e) in
        let S : Stands t.places s.frames c 0 =
        record { frame = f; below = frame_below; backing = ap (λ k. k.backing) placed_at ∙ sym z; index = ap (λ k. k.index) placed_at ∙ i } in
        inl (subst (λ (k : BackingPages). Kind s.frames t.places n k) (sym e) (omega (arith, L.positive), l, d, S))
    new_kind (stayed m) = inr (record { slot = n; mem = m; piece = record { object = refl; backing = refl; first = le_refl _; last = le_refl _; shift = refl }; long = long })
    new_kind (joined r m e h lo hi) =
        let z : number_of r.backing ≡ b = sym (ap number_of e) in
        inl (subst (λ (k : BackingPages). Kind s.frames t.places n k) (sym e) (omega (arith, L.positive), L.small.indexes))

    settled_kinds : All (λ r. Kind t.frames t.places r r.backing) (used t)
    settled_kinds =
        rw P.frames
        (kinds_kept s.places t.places s.frames (used s) (used t) I.kinds stay
        (λ k m. ⊎_elim
        (λ (e : k ≡ n). rw e (new_kind L.cases))
        (λ u. inr u.0)
        (put_member s.ranges s.count (inside_table s x I).rising n (table_of t) long P.table k m)))

    settled_agree : Lodging s n q.index → Agreed (used t)
    settled_agree (begun c e h l d i) =
        put_agreed_new s.ranges s.count (inside_table s x I).rising n (table_of t) long P.table I.agree (ap (λ k. holders (number_of k) (ranges_of (used s))) e ∙ h)
    settled_agree (stayed m) = put_agreed_same s.ranges s.count (inside_table s x I).rising n (table_of t) long P.table I.agree n m refl
    settled_agree (joined r m e h lo hi) =
        put_agreed_over s.ranges s.count (inside_table s x I).rising n (table_of t) long P.table I.agree r
        (ap (λ k. holders (number_of k) (ranges_of (used s))) e ∙ h) m (ap number_of e) (omega arith) hi

    settled_idle : Idle t.frames t.places
    settled_idle =
        rw (P.frames, P.places)
        (idle_placed s.frames emptied (omega (arith, emptied_length, I.few_frames))
        (idle_vacated s.frames (trimmed s.frames (ranges_of (used t)) s.places) (omega (arith, trimmed_length s.frames (ranges_of (used t)) s.places, (inside_room s x I)))
        (idle_trimmed s.frames s.places (inside_room s x I) I.rest_places (ranges_of (used t))) b q.index)
        f b q.index frame_below L.positive)

    pub settled_inside : (y : List ℕ) → length y ≡ length x → Good (work_of t y) → Inside t y
    unfolding cleared
    settled_inside y e G = record {
      sized = record {
        ranges = P.full;
        places = ap length P.places ∙ length-set emptied f (place b q.index) ∙ emptied_length;
        free = ap length P.taken.words ∙ length-set s.free _ _ ∙ I.sized.free;
      };
      few_frames = omega (arith, P.frames, I.few_frames);
      few_ranges = P.few;
      pool = e ∙ I.pool ∙ ap (λ k. k * 4096) (sym P.frames);
      good = G;
      kinds = settled_kinds;
      agree = settled_agree L.cases;
      rest_ranges = put_rest s.ranges s.count n (table_of t) P.table;
      rest_places = settled_idle;
    }

    -- the frame has the page
    pub settled_has : Has t o p f
    settled_has = record {
      below = omega (arith, P.frames, frame_below);
      held = omega (arith, ap (λ k. k.backing) placed_at, L.positive);
      slot = ap (slot_at (line o p)) ranges_put
          ∙ put_hit (range_of n) (line o p) (ranges_of (used s)) L.low L.high
          ∙ ap₂ (λ c i. Some (slot c i)) (sym (ap (λ k. k.backing) placed_at)) (sym (ap (λ k. k.index) placed_at ∙ L.index));
    }
