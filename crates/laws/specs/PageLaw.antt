-- THE PAGE LAW: a page that is added or written reads as it should, every other page of every object reads as it did, and the state stays good.
-- Each law goes by the two cases of `Way`.
use Rattle.std.specs.Option.{option_map}
use Rattle.std.specs.Prelude.{◌≡◌, ◌⊎◌, ℕ, suc, ◌≤◌, ◌<◌, get_or, Option, Some, None}
use Rattle.std.proofs.Math.Path.{refl, ap}
use Rattle.std.proofs.Common.{sym, ◌∙◌, inl, inr, zero-le, le_refl, arith}
use Rattle.std.proofs.Math.Logic.{⊎_elim}
use mathlib.Core.List.{List, [], ◌∷◌, Memᴰ, tail}
use Rattle.std.proofs.Math.ListN.{length, length-map, get_or-map}
use Rattle.lists.specs.Test.{by-lt}
use Rattle.ranges.specs.Range.{Range, Slot, line, from, upto, slot_in, slot_at}
use Rattle.ranges.specs.Table.{holders}
use Rattle.ranges.specs.Find.{Found, found}
use Rattle.ranges.specs.Over.{put_in, put_hit, put_keeps}
use Rattle.ranges.proofs.Over.{put_other}
use Rattle.ranges.specs.Hold.{held_once, holders_put}
use Rattle.book.specs.Cell.{Cell, free, edit, changed}
use Rattle.book.specs.Work.{Work, next, slot_bytes, page_of, settle, seen, writable, edited, write_page}
use Rattle.laws.specs.Cells.{Differ, edit_at, Edited, edit_here, edit_other}
use Rattle.laws.specs.State.{Ordered, Tight, Fits, Apart, Good, spare_keep}
use Rattle.laws.specs.Settle.{settle_bytes, settle_here, settle_out, settle_tight, settle_fits, settle_apart, settle_ordered}
use Rattle.laws.specs.Way.{Private, Way, as_is, settled, writable_way}

-- ---- a page made private
pub way_private : (o p : ℕ) (x : List ℕ) (w v : Work) → Way o p w x v → Private o p v
unfolding settle
way_private o p x w v (as_is P e) = P
way_private o p x w v (settled n S) = record
    { r = n; mem = put_in n w.ranges; object = S.object; once = S.once; slot = put_hit n (line o p) w.ranges S.low S.high }

pub way_size : (o p : ℕ) (x : List ℕ) (w v : Work) → Way o p w x v → v.size ≡ w.size
unfolding settle
way_size o p x w v (as_is P e) = refl
way_size o p x w v (settled n S) = refl

pub way_ordered : (o p : ℕ) (x : List ℕ) (w v : Work) → Way o p w x v → Ordered w → Ordered v
way_ordered o p x w v (as_is P e) W = W
way_ordered o p x w v (settled n S) W = settle_ordered n _ x w W (omega (arith, S.low, S.high)) S.within

pub way_tight : (o p : ℕ) (x : List ℕ) (w v : Work) → Way o p w x v → Ordered w → Tight w → Tight v
way_tight o p x w v (as_is P e) W T = T
way_tight o p x w v (settled n S) W T = settle_tight n _ x w W (omega arith) (omega (arith, S.low, S.high))

pub way_good : (o p : ℕ) (x : List ℕ) (w v : Work) → Way o p w x v → Good w → length x ≡ w.size → Good v
way_good o p x w v (as_is P e) G l = G
way_good o p x w v (settled n S) G l = record {
  whole = way_ordered o p x w _ (settled n S) G.whole;
  tight = way_tight o p x w _ (settled n S) G.whole G.tight;
  fits = settle_fits n _ x w G.whole l G.fits;
  apart = settle_apart n _ x w G.whole G.apart;
}

-- every other page reads as it did
pub way_elsewhere : (o p : ℕ) (x : List ℕ) (w v : Work) → Way o p w x v → Ordered w → Tight w → (g : ℕ) → (g ≡ line o p → ⊥) → page_of g v ≡ page_of g w
way_elsewhere o p x w v (as_is P e) W T g ne = refl
way_elsewhere o p x w v (settled n S) W T g ne =
    by-lt g (from n) (λ l. out (inl l))
    (λ l. by-lt g (upto n)
    (λ u. settle_bytes n _ x w W g (slot_in g n) (put_hit n g w.ranges l u) (λ _ j. ne (omega (arith, S.low))) ∙ S.inner T g l u ne)
    (λ u. out (inr u)))
  where
    out : (g < from n) ⊎ (upto n ≤ g) → page_of g (settle n (slot_in (line o p) n).index x w) ≡ page_of g w
    out c = settle_out n _ x w W g c (λ s e k _. S.others g s c e k)

-- and the page itself has the bytes x, while there is a frame
pub way_here : (o p : ℕ) (x : List ℕ) (w v : Work) → Way o p w x v → Ordered w → next w < length w.cells → page_of (line o p) v ≡ Some x
way_here o p x w v (as_is P e) W h = e
way_here o p x w v (settled n S) W h = settle_here n _ x w W (line o p) (put_hit n (line o p) w.ranges S.low S.high) h

pub tail_length : (fs : List ℕ) → length fs ≤ suc (length (tail fs))
tail_length [] = zero-le
tail_length (f ∷ fs) = le_refl (suc (length fs))

-- a page takes at most one frame
pub way_spare : (o p : ℕ) (x : List ℕ) (w v : Work) → Way o p w x v → length w.spare ≤ suc (length v.spare)
unfolding settle
way_spare o p x w v (as_is P e) = omega arith
way_spare o p x w v (settled n S) = tail_length w.spare

-- page g of the line is of another object than o
abbrev pub Other : ℕ → ℕ → Type 0
Other o g = (g < line o 0) ⊎ (line o 262144 ≤ g)

-- the pages of other objects are where they were
pub way_slot : (o p : ℕ) (x : List ℕ) (w v : Work) → Way o p w x v → (g : ℕ) → Other o g → slot_at g v.ranges ≡ slot_at g w.ranges
unfolding settle
way_slot o p x w v (as_is P e) g c = refl
way_slot o p x w v (settled n S) g c =
    put_other n g w.ranges
    (⊎_elim (λ (l : g < line o 0). inl (omega (arith, S.object))) (λ (l : line o 262144 ≤ g). inr (omega (arith, S.object, S.within))) c)

-- ---- a page that is held alone stays so

pub record Alone (g : ℕ) (w : Work) : Type 0 where
  pub r : Range
  pub mem : Memᴰ r w.ranges
  pub low : from r ≤ g
  pub high : g < upto r
  pub once : holders r.backing w.ranges ≡ 1

pub alone_stays : (o p : ℕ) (x : List ℕ) (w v : Work) → Way o p w x v → Ordered w → (g : ℕ) → Alone g w → Alone g v
unfolding settle
alone_stays o p x w v (as_is P e) W g A = A
alone_stays o p x w v (settled n S) W g A =
    ⊎_elim
    (λ (c : (A.r.backing ≡ n.backing) × (from n ≤ from A.r) × (upto A.r ≤ upto n)).
    record { r = n; mem = put_in n w.ranges; low = omega (arith, A.low); high = omega (arith, A.high); once = S.once })
    (λ (c : (A.r.backing ≡ n.backing → ⊥) × ((upto A.r ≤ from n) ⊎ (upto n ≤ from A.r))).
    record {
      r = A.r;
      mem = put_keeps n A.r w.ranges W.rising A.mem c.1;
      low = A.low;
      high = A.high;
      once = holders_put A.r.backing n w.ranges W.rising c.0
          (λ q m b. let z : A.r ≡ q = held_once A.r.backing w.ranges A.r q A.once A.mem m refl b in rw (← z) c.1)
          ∙ A.once;
    })
    (S.alones A.r A.mem A.once)

-- ---- an edit of a page's bytes

-- a change of a page that keeps its length
abbrev pub Keeps : ℕ → (List ℕ → List ℕ) → Type 0
Keeps n f = (x : List ℕ) → length x ≡ n → length (f x) ≡ n

edit_free : (s : Slot) (f : List ℕ → List ℕ) (cs : List Cell) (k : ℕ) → get_or cs k free ≡ free → get_or (edit s f cs) k free ≡ free
unfolding edit
edit_free s f cs k e = get_or-map (changed s f) cs k free ∙ rw e

module _ (f : List ℕ → List ℕ) (v : Work) where
  pub edited_ordered : (t : Option Slot) → Ordered v → Ordered (edited t f v)
  edited_ordered None A = A
  edited_ordered (Some s) A =
      let l : length (edit s f v.cells) ≡ length v.cells = unfold edit in simp length-map in
      record {
        rising = A.rising;
        within = A.within;
        spare = rw l (spare_keep (length v.cells) v.cells (edit s f v.cells) v.spare (λ k _ e. edit_free s f v.cells k e) A.spare);
      }

  pub edited_tight : (t : Option Slot) → Tight v → Tight (edited t f v)
  unfolding Tight
  edited_tight None T g b i y e = T g b i y e
  edited_tight (Some s) T g b i y e = let E : Edited f g b i y v.cells = edit_at s f v.cells g b i y e in T g b i E.old E.was

  edited_fits : (t : Option Slot) → Keeps v.size f → Fits v → Fits (edited t f v)
  unfolding Fits
  edited_fits None h F g b i y e = F g b i y e
  edited_fits (Some s) h F g b i y e =
      let E : Edited f g b i y v.cells = edit_at s f v.cells g b i y e in
      let l : length E.old ≡ v.size = F g b i E.old E.was in
      ⊎_elim (λ (q : y ≡ E.old). ap length q ∙ l) (λ (q : y ≡ f E.old). ap length q ∙ h E.old l) E.new

  edited_apart : (t : Option Slot) → Apart v → Apart (edited t f v)
  unfolding Apart
  edited_apart None A g h b i y z d e = A g h b i y z d e
  edited_apart (Some s) A g h b i y z d e =
      let D : Edited f g b i y v.cells = edit_at s f v.cells g b i y d in
      let E : Edited f h b i z v.cells = edit_at s f v.cells h b i z e in
      A g h b i D.old E.old D.was E.was

  pub edited_good : (t : Option Slot) → Keeps v.size f → Good v → Good (edited t f v)
  edited_good t h G = record
      { whole = edited_ordered t G.whole; tight = edited_tight t G.tight; fits = edited_fits t h G.fits; apart = edited_apart t G.apart }

-- the pages of the one holder of a backing, and no other, are in that backing
pub only : (w : Work) (r : Range) (g : ℕ) (s : Slot) → Memᴰ r w.ranges → holders r.backing w.ranges ≡ 1 → slot_at g w.ranges ≡ Some s → s.inside ≡ r.backing
    → (from r ≤ g) × (g < upto r) × (s ≡ slot_in g r)
only w r g s m h e b =
    let F : Found g w.ranges s = found g w.ranges s e in
    let z : r ≡ F.r = held_once r.backing w.ranges r F.r h m F.mem refl (sym b ∙ ap (λ t. t.inside) F.is) in
    (rw z F.low, rw z F.high, rw z F.is)

-- no other page is at the slot of a page that is private
pub private_differ : (o p : ℕ) (v : Work) (P : Private o p v) (g : ℕ) → (g ≡ line o p → ⊥) → (s : Slot) → slot_at g v.ranges ≡ Some s → Differ s (slot_in (line o p) P.r)
private_differ o p v P g ne s e b j =
    let q = only v P.r g s P.mem P.once e b in
    let L = only v P.r (line o p) (slot_in (line o p) P.r) P.mem P.once P.slot refl in
    let k : s.index ≡ (slot_in g P.r).index = ap (λ x. x.index) q.2 in
    ne (omega (arith, q.0, q.1, L.0, L.1, j, k))

module _ (o p : ℕ) (f : List ℕ → List ℕ) (v : Work) (P : Private o p v) where
  abbrev sl : Slot
  sl = slot_in (line o p) P.r

  edited_elsewhere : (g : ℕ) → (g ≡ line o p → ⊥) → page_of g (edited (slot_at (line o p) v.ranges) f v) ≡ page_of g v
  unfolding page_of
  edited_elsewhere g ne = rw P.slot (go (slot_at g v.ranges) refl)
    where
      go : (t : Option Slot) → slot_at g v.ranges ≡ t → slot_bytes (edit sl f v.cells) t ≡ slot_bytes v.cells t
      go None e = refl
      go (Some s) e = edit_other sl s f v.cells (private_differ o p v P g ne s e)

  pub edited_here : page_of (line o p) (edited (slot_at (line o p) v.ranges) f v) ≡ option_map f (page_of (line o p) v)
  unfolding page_of
  edited_here = rw P.slot (rw P.slot (edit_here sl f v.cells))

-- ---- THE PAGE LAW

pub write_page_size : (o p : ℕ) (f : List ℕ → List ℕ) (w : Work) → Ordered w → p < 262144 → (write_page o p f w).size ≡ w.size
unfolding write_page
write_page_size o p f w W hp = go (slot_at (line o p) (writable o p w).ranges) ∙ way_size o p _ w _ (writable_way o p w W hp)
  where
    go : (t : Option Slot) → (edited t f (writable o p w)).size ≡ (writable o p w).size
    go None = refl
    go (Some s) = refl

module _ (o p : ℕ) (f : List ℕ → List ℕ) (w : Work) (W : Ordered w) (T : Tight w) (hp : p < 262144) where
  -- the page is made private first
  made : Way o p w (seen w.size (page_of (line o p) w)) (writable o p w)
  made = writable_way o p w W hp

  pub write_elsewhere : (g : ℕ) → (g ≡ line o p → ⊥) → page_of g (write_page o p f w) ≡ page_of g w
  unfolding write_page
  write_elsewhere g ne = edited_elsewhere o p f (writable o p w) (way_private o p _ w _ made) g ne ∙ way_elsewhere o p _ w _ made W T g ne

  pub write_here : next w < length w.cells → page_of (line o p) (write_page o p f w) ≡ Some (f (seen w.size (page_of (line o p) w)))
  unfolding write_page
  write_here h = edited_here o p f (writable o p w) (way_private o p _ w _ made) ∙ ap (λ x. option_map f x) (way_here o p _ w _ made W h)

  pub write_good : Ordered (write_page o p f w) × Tight (write_page o p f w)
  unfolding write_page
  write_good = (
    edited_ordered f (writable o p w) (slot_at (line o p) (writable o p w).ranges) (way_ordered o p _ w _ made W),
    edited_tight f (writable o p w) (slot_at (line o p) (writable o p w).ranges) (way_tight o p _ w _ made W T),
  )
