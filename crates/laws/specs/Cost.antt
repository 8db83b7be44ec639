-- What the parts of a call take: frames, range slots, and frames in use.
use Rattle.std.specs.Prelude.{◌≡◌, refl, List, [], ◌∷◌, map, ℕ, zero, suc, ◌+◌, ◌-◌, ◌*◌, ◌/◌, ◌%◌, ◌≤◌, ◌<◌, min, eqb, length, take, drop, replicate, Option, Some, None}
use Rattle.std.proofs.Common.{ap, inl, inr, arith, ne_eqb, eq-eqb}
use Rattle.std.proofs.lemmas.List.{length-map}
use Rattle.lists.specs.Test.{pick, by-test, by-lt, by-eq}
use Rattle.ranges.specs.Range.{Range, Slot, line, slot_in, slot_at, carve, Rising, put}
use Rattle.ranges.specs.Table.{parts, moved}
use Rattle.ranges.specs.Over.{put_rising}
use Rattle.ranges.specs.Few.{carve_apart, carve_more, put_more}
use Rattle.book.specs.Cell.{Cell, free, holds, is_at, edit}
use Rattle.book.specs.Page.{over, touched}
use Rattle.book.specs.Work.{Work, page_of, settle, add_page, writable, edited, write_page}
use Rattle.book.specs.Bytes.{write_from, writing, cleared, clear}
use Rattle.book.specs.Pages.{with_ranges, share, sharing, met, uncover}
use Rattle.book.specs.Need.{state_of, common, wants, wanted}
use Rattle.book.specs.Book.{in_use}
use Rattle.laws.specs.State.{Ordered, Tight, Good}
use Rattle.laws.specs.PageLaw.{write_good, tail_length}
use Rattle.laws.specs.Way.{Way, as_is, add_page_way, writable_way, settled}
use Rattle.laws.specs.Count.{in_use_trim, settle_count}
use Rattle.laws.specs.Enough.{wants_ready, wanted_less, present_wants}
use Rattle.laws.specs.Kept.{Proper, parts_proper}
use Rattle.laws.specs.Spans.{page_bound, page_in}

-- ---- what is taken

-- on the way from w to v at most f frames and m range slots are taken
pub record Cost (f m : ℕ) (w v : Work) : Type 0 where
  pub spare : length w.spare ≤ length v.spare + f  -- at most f frames are taken
  pub ranges : length v.ranges ≤ length w.ranges + m  -- at most m ranges more
  pub used : in_use v.cells ≤ in_use w.cells + f  -- at most f frames more are in use

-- nothing; one after the other; no more than
pub cost_none : (w : Work) → Cost 0 0 w w
cost_none w = record { spare = omega arith; ranges = omega arith; used = omega arith }

pub cost_then : (f m g k : ℕ) (w u v : Work) → Cost f m w u → Cost g k u v → Cost (f + g) (m + k) w v
cost_then f m g k w u v A B = record { spare = omega (arith, A.spare, B.spare); ranges = omega (arith, A.ranges, B.ranges); used = omega (arith, A.used, B.used) }

pub cost_less : (f m f' m' : ℕ) (w v : Work) → f ≤ f' → m ≤ m' → Cost f m w v → Cost f' m' w v
cost_less f m f' m' w v p q A = record { spare = omega (arith, A.spare); ranges = omega (arith, A.ranges); used = omega (arith, A.used) }

-- two steps, and the sum said in another way
pub cost_sum : (f m g k f' m' : ℕ) (w u v : Work) → f + g ≤ f' → m + k ≤ m' → Cost f m w u → Cost g k u v → Cost f' m' w v
cost_sum f m g k f' m' w u v p q A B = cost_less (f + g) (m + k) f' m' w v p q (cost_then f m g k w u v A B)

-- a counted page: one frame and two slots, f times
abbrev pub Pages : ℕ → Work → Work → Type 0
Pages f w v = Cost f (2 * f) w v

-- ---- page steps

-- another table takes no frame
pub table_cost : (rs : List Range) (m : ℕ) (w : Work) → length rs ≤ length w.ranges + m → Cost 0 m w (with_ranges rs w)
table_cost rs m w h = record { spare = omega arith; ranges = h; used = omega (arith, in_use_trim rs w.cells) }

-- the page step: one frame, two slots
pub settle_cost : (n : Range) (i : ℕ) (x : List ℕ) (w : Work) → Rising 0 w.ranges → Pages 1 w (settle n i x w)
unfolding settle
settle_cost n i x w s = record {
  spare = omega (arith, tail_length w.spare);
  ranges = put_more n w.ranges s;
  used = omega (arith, settle_count n i x w);
}

-- each way of making a page private takes one frame at most
pub way_cost : (o p : ℕ) (x : List ℕ) (w v : Work) → Rising 0 w.ranges → Way o p w x v → Pages 1 w v
way_cost o p x w v s (as_is P e) = cost_less 0 0 1 2 w w (omega arith) (omega arith) (cost_none w)
way_cost o p x w v s (settled n S) = settle_cost n (slot_in (line o p) n).index x w s

in_use_edit : (s : Slot) (f : List ℕ → List ℕ) (cs : List Cell) → in_use (edit s f cs) ≡ in_use cs
unfolding in_use edit
in_use_edit s f [] = refl
in_use_edit s f (free ∷ cs) = in_use_edit s f cs
in_use_edit s f (holds b i x ∷ cs) = by-test (is_at s (holds b i x)) (λ t. rw t (ap suc (in_use_edit s f cs))) (λ t. rw t (ap suc (in_use_edit s f cs)))

-- new bytes in a page take nothing
pub edited_cost : (t : Option Slot) (f : List ℕ → List ℕ) (w : Work) → Cost 0 0 w (edited t f w)
edited_cost None f w = cost_none w
edited_cost (Some s) f w = record { spare = omega arith; ranges = omega arith; used = omega (arith, in_use_edit s f w.cells) }

module _ (o p : ℕ) (w : Work) (W : Ordered w) (hp : p < 262144) where
  -- a page added: one frame, two slots
  pub add_page_cost : Pages 1 w (add_page o p w)
  add_page_cost = way_cost o p _ w (add_page o p w) W.rising (add_page_way o p w W hp)

  -- a page made writable takes a frame exactly if it is wanted
  pub writable_cost : Pages (wants o p w) w (writable o p w)
  writable_cost =
      by-eq (wants o p w) 0
      (λ e. rw (e, (wants_ready o p w e).1) (cost_less 0 0 0 (2 * 0) w w (omega arith) (omega arith) (cost_none w)))
      (λ e. cost_less 1 2 (wants o p w) (2 * wants o p w) w (writable o p w) (omega arith) (omega arith) (way_cost o p _ w (writable o p w) W.rising (writable_way o p w W hp)))

  -- and so does a page written
  pub write_page_cost : (f : List ℕ → List ℕ) → Pages (wants o p w) w (write_page o p f w)
  unfolding write_page
  write_page_cost f =
      cost_sum (wants o p w) (2 * wants o p w) 0 0 (wants o p w) (2 * wants o p w) w (writable o p w) _ (omega arith) (omega arith)
      writable_cost (edited_cost (slot_at (line o p) (writable o p w).ranges) f (writable o p w))

-- ---- bytes

-- a write takes no more than the pages it touches want at its entry
pub write_from_cost : (size i o p k : ℕ) (d : List ℕ) (w : Work) → Ordered w → Tight w → p + i ≤ 262144 → Pages (wanted i o p w) w (write_from size i o p k d w)
unfolding write_from wanted
write_from_cost size zero o p k d w W T h = cost_less 0 0 0 (2 * 0) w w (omega arith) (omega arith) (cost_none w)
write_from_cost size (suc i) o p k d w W T h =
    let f : List ℕ → List ℕ = over k (take (size - k) d) in
    let v : Work = write_page o p f w in
    let G = write_good o p f w W T (omega arith) in
    let l : wanted i o (suc p) v ≤ wanted i o (suc p) w = wanted_less o p f w W T (omega arith) i (suc p) (omega arith) in
    cost_sum (wants o p w) (2 * wants o p w) (wanted i o (suc p) v) (2 * wanted i o (suc p) v) (wants o p w + wanted i o (suc p) w) (2 * (wants o p w + wanted i o (suc p) w))
    w v _ (omega arith) (omega arith)
    (write_page_cost o p w W (omega arith) f)
    (write_from_cost size i o (suc p) 0 (drop (size - k) d) v G.0 G.1 (omega arith))

module _ (o x : ℕ) (w : Work) (G : Good w) (hs : 4096 ≤ w.size) where
  -- of bytes anywhere
  pub writing_cost : (d : List ℕ) → x + length d ≤ 1073741824 → Pages (wanted (touched w.size x (length d)) o (x / w.size) w) w (writing o x d w)
  unfolding writing
  writing_cost d h = write_from_cost w.size (touched w.size x (length d)) o (x / w.size) (x % w.size) d w G.whole G.tight (page_bound w.size x (length d) hs h)

  -- clearing bytes of one page takes a frame exactly if it is present and shared
  abbrev pub clears : ℕ → ℕ
  clears n = pick (eqb n 0) 0 (common (state_of o (x / w.size) w))

  pub clear_cost : (n : ℕ) → x + n ≤ 1073741824 → Pages (clears n) w (clear o x n w)
  unfolding clear
  clear_cost n h = by-eq n 0 (λ e. rw (eq-eqb n 0 e) nothing) (λ e. rw (ne_eqb n 0 e) (go (omega arith) (page_of (line o (x / w.size)) w) refl))
    where
      nothing : Pages 0 w w
      nothing = cost_less 0 0 0 (2 * 0) w w (omega arith) (omega arith) (cost_none w)

      c : ℕ
      c = common (state_of o (x / w.size) w)

      go : 0 < n → (t : Option (List ℕ)) → page_of (line o (x / w.size)) w ≡ t → Pages c w (cleared o (x / w.size) (x % w.size) n w t)
      go l None e = cost_less 0 0 c (2 * c) w w (omega arith) (omega arith) (cost_none w)
      go l (Some y) e =
          rw (← present_wants o (x / w.size) w y e)
          (write_page_cost o (x / w.size) w G.whole (page_in w.size x n hs l h) (over (x % w.size) (replicate n 0)))

-- ---- whole pages

-- ranges put in one after another: two slots each, and no frame
pub share_cost : (ns : List Range) (w : Work) → Proper ns → Rising 0 w.ranges → Cost 0 (2 * length ns) w (share ns w)
unfolding share Proper
share_cost [] w P s = cost_less 0 0 0 (2 * 0) w w (omega arith) (omega arith) (cost_none w)
share_cost (n ∷ ns) w P s =
    let u : Work = with_ranges (put n w.ranges) w in
    cost_sum 0 2 0 (2 * length ns) 0 (2 * suc (length ns)) w u _ (omega arith) (omega arith)
    (table_cost (put n w.ranges) 2 w (put_more n w.ranges s))
    (share_cost ns u P.2 (put_rising n w.ranges P.0 s))

-- whole pages shared: two slots for each source range met
pub sharing_cost : (s p o q n : ℕ) (w : Work) → q + n ≤ 262144 → Rising 0 w.ranges → Cost 0 (2 * met s p n w) w (sharing s p o q n w)
unfolding sharing met
sharing_cost s p o q n w h r =
    let ps : List Range = parts (line s p) (line s p + n) w.ranges in
    rw (← length-map ps (moved (line s p) o q)) (share_cost (map (moved (line s p) o q) ps) w (parts_proper (line s p) o q (line s p + n) w.ranges (omega arith)) r)

-- whole pages uncovered: one slot
pub uncover_cost : (o p n : ℕ) (w : Work) → Rising 0 w.ranges → Cost 0 (min 1 n) w (uncover o p n w)
unfolding uncover
uncover_cost o p n w s =
    by-eq n 0
    (λ e. rw (eq-eqb n 0 e) (cost_less 0 0 0 (min 1 n) w w (omega arith) (omega arith) (cost_none w)))
    (λ e. rw (ne_eqb n 0 e)
    (table_cost (carve (line o p) (line o p + n) w.ranges) (min 1 n) w (omega (arith, carve_more (line o p) (line o p + n) 0 w.ranges (omega arith) s))))

-- a whole object uncovered: no slot, since no range reaches out of its object
pub uncover_all : (o : ℕ) (w : Work) → Ordered w → Cost 0 0 w (uncover o 0 262144 w)
unfolding uncover
uncover_all o w W =
    table_cost (carve (line o 0) (line o 0 + 262144) w.ranges) 0 w
    (omega (
      arith,
      carve_apart (line o 0) (line o 0 + 262144) w.ranges
          (λ r m. by-lt r.object o (λ l. inr (omega (arith, W.within r m))) (λ l. inl (omega arith))),
    ))
