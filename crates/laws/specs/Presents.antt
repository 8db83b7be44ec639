-- A STEP AS A CHANGE OF PRESENCE: the pages from p up to q of object o become present as f says, and every other page of every object stays so or not.
use Rattle.std.specs.Prelude.{◌≡◌, refl, Bool, true, false, ◌&&◌, ◌⊎◌, List, ℕ, ◌+◌, ◌-◌, ◌/◌, ◌%◌, ◌≤◌, ◌<◌, ltb, leb, eqb, length, replicate, Option, Some, None}
use Rattle.std.proofs.Common.{ap, sym, ◌∙◌, inl, inr, ⊎_elim, arith, eq-eqb, ne_eqb, lt-ltb, le-ltb, le-leb}
use Rattle.std.proofs.lemmas.Bool.{lt-leb}
use Rattle.lists.specs.Test.{pick, by-lt, by-eq}
use Rattle.ranges.specs.Range.{Slot, line, slot_at}
use Rattle.book.specs.Page.{touched, over}
use Rattle.book.specs.Work.{Work, page_of, blank, add_page}
use Rattle.book.specs.Bytes.{reading, writing, clear, cleared}
use Rattle.book.specs.Pages.{sharing, uncover}
use Rattle.book.specs.Copy.{copy_bytes}
use Rattle.book.specs.Need.{wants, wanted}
use Rattle.book.specs.Presence.{is_some}
use Rattle.laws.specs.State.{Good, spare_room}
use Rattle.laws.specs.Kept.{Kept}
use Rattle.laws.specs.Way.{Way, add_page_way}
use Rattle.laws.specs.PageLaw.{way_here, way_elsewhere, write_elsewhere}
use Rattle.laws.specs.Write.{write_from_out}
use Rattle.laws.specs.Enough.{write_pages, written}
use Rattle.laws.specs.Reading.{reading_length}
use Rattle.laws.specs.SharedPages.{from_source, sharing_in, sharing_out, uncover_in, uncover_out}
use Rattle.laws.specs.Spans.{page_bound, page_in}

-- the line's page g is present
abbrev pub has : ℕ → Work → Bool
has g w = is_some (page_of g w)

-- page k of object o, where page a of object s is shared with it: present if that is, where a range covers it, else as it was
abbrev pub shared_has : Work → ℕ → ℕ → ℕ → ℕ → Bool
shared_has w s a o k = pick (is_some (slot_at (line s a) w.ranges)) (has (line s a) w) (has (line o k) w)

-- from state u to state v, the pages p up to q of object o become present as f says; every other page stays so or not
pub record Presents (o p q : ℕ) (f : ℕ → Bool) (u v : Work) : Type 0 where
  pub within : (k : ℕ) → p ≤ k → k < q → has (line o k) v ≡ f k
  pub outside : (o' k : ℕ) → k < 262144 → (o' ≡ o → (k < p) ⊎ (q ≤ k)) → has (line o' k) v ≡ has (line o' k) u

-- no page becomes present, and none absent
abbrev pub Same : Work → Work → Type 0
Same u v = (o k : ℕ) → k < 262144 → has (line o k) v ≡ has (line o k) u

-- an empty span: nothing happens
pub presents_none : (o p q : ℕ) (f : ℕ → Bool) (u v : Work) → q ≤ p → v ≡ u → Presents o p q f u v
presents_none o p q f u v h s = record { within = λ k l m. absurd (omega arith); outside = λ o' k b c. ap (λ z. has (line o' k) z) s }

-- and that at any place
pub presents_empty : (o p p' q q' : ℕ) (f g : ℕ → Bool) (u v : Work) → q ≤ p → q' ≤ p' → Presents o p q f u v → Presents o p' q' g u v
presents_empty o p p' q q' f g u v h h' A = record {
  within = λ k l m. absurd (omega arith);
  outside = λ o' k b c. A.outside o' k b (λ _. by-lt k p (λ l. inl l) (λ l. inr (omega arith)));
}

-- the edges by other names
pub presents_cast : (o p p' q q' : ℕ) (f : ℕ → Bool) (u v : Work) → p ≡ p' → q ≡ q' → Presents o p q f u v → Presents o p' q' f u v
presents_cast o p p' q q' f u v d e A = record {
  within = λ k l m. A.within k (omega arith) (omega arith);
  outside = λ o' k h c. A.outside o' k h (λ z. ⊎_elim (λ (l : k < p'). inl (omega arith)) (λ (l : q' ≤ k). inr (omega arith)) (c z));
}

-- values that agree on the span
pub presents_as : (o p q : ℕ) (f g : ℕ → Bool) (u v : Work) → ((k : ℕ) → p ≤ k → k < q → f k ≡ g k) → Presents o p q f u v → Presents o p q g u v
presents_as o p q f g u v h A = record { within = λ k l m. A.within k l m ∙ h k l m; outside = A.outside }

-- two neighbouring spans, one after the other
pub presents_join : (o p m q : ℕ) (f : ℕ → Bool) (u v z : Work) → p ≤ m → m ≤ q → q ≤ 262144 → Presents o p m f u v → Presents o m q f v z → Presents o p q f u z
presents_join o p m q f u v z d e b A B = record {
  within = λ k l h. by-lt k m (λ c. B.outside o k (omega arith) (λ _. inl c) ∙ A.within k l c) (λ c. B.within k c h);
  outside = λ o' k h c.
      B.outside o' k h (λ s. ⊎_elim (λ (l : k < p). inl (omega arith)) (λ (l : q ≤ k). inr l) (c s))
      ∙ A.outside o' k h (λ s. ⊎_elim (λ (l : k < p). inl l) (λ (l : q ≤ k). inr (omega arith)) (c s));
}

-- between two steps that change no page's presence
pub presents_amid : (o p q : ℕ) (f : ℕ → Bool) (w u v z : Work) → q ≤ 262144 → Same w u → Presents o p q f u v → Same v z → Presents o p q f w z
presents_amid o p q f w u v z b A B C = record {
  within = λ k l m. C o k (omega arith) ∙ B.within k l m;
  outside = λ o' k h c. C o' k h ∙ B.outside o' k h c ∙ A o' k h;
}

-- a span whose end lies past the object's
pub presents_top : (o p q r : ℕ) (f : ℕ → Bool) (u v : Work) → r ≤ q → ((k : ℕ) → r ≤ k → k < q → k < 262144 → has (line o k) v ≡ has (line o k) u) → Presents o p q f u v → Presents o p r f u v
presents_top o p q r f u v h g A = record {
  within = λ k l m. A.within k l (omega arith);
  outside = λ o' k b c. by-eq o' o
      (λ e. ⊎_elim (λ (l : k < p). A.outside o' k b (λ _. inl l)) (λ (l : r ≤ k). by-lt k q (λ m. rw e (g k l m b)) (λ m. A.outside o' k b (λ _. inr m))) (c e))
      (λ n. A.outside o' k b (λ e. absurd (n e)));
}

-- every page after such a step
pub presented : (o p q : ℕ) (f : ℕ → Bool) (u v : Work) → Presents o p q f u v → (o' k : ℕ) → k < 262144
    → has (line o' k) v ≡ pick (eqb o' o && (leb p k && ltb k q)) (f k) (has (line o' k) u)
presented o p q f u v A o' k h =
    by-eq o' o
    (λ e. by-lt k p
    (λ l. rw (eq-eqb o' o e, lt-leb p k l) (A.outside o' k h (λ _. inl l)))
    (λ l. by-lt k q
    (λ m. rw (eq-eqb o' o e, le-leb p k l, lt-ltb k q m) (rw e (A.within k l m)))
    (λ m. rw (eq-eqb o' o e, le-leb p k l, le-ltb k q m) (A.outside o' k h (λ _. inr m)))))
    (λ n. rw (ne_eqb o' o n) (A.outside o' k h (λ e. absurd (n e))))

-- a page of the line that is not one of n pages from page p of object o
beside_pages : (o p n o' k : ℕ) → p + n ≤ 262144 → k < 262144 → (o' ≡ o → (k < p) ⊎ (p + n ≤ k)) → (line o' k < line o p) ⊎ (line o p + n ≤ line o' k)
beside_pages o p n o' k top h c =
    by-eq o' o
    (λ e. ⊎_elim (λ (l : k < p). inl (omega arith)) (λ (l : p + n ≤ k). inr (omega arith)) (c e))
    (λ ne. by-lt o' o (λ l. inl (omega arith)) (λ l. inr (omega arith)))

-- A STEP ON WHOLE PAGES: of the n pages from page p of object o page k becomes present as f says, every other page reads as it did
pub pages_present : (o p n : ℕ) (f : ℕ → Bool) (u v : Work) → p + n ≤ 262144
    → ((j : ℕ) → j < n → has (line o (p + j)) v ≡ f (p + j))
    → ((h : ℕ) → (h < line o p) ⊎ (line o p + n ≤ h) → page_of h v ≡ page_of h u)
    → Presents o p (p + n) f u v
pages_present o p n f u v top here there = record {
  within = λ k l m. let e : p + (k - p) ≡ k = omega arith in rw e at (here (k - p) (omega arith));
  outside = λ o' k h c. ap is_some (there (line o' k) (beside_pages o p n o' k top h c));
}

-- ---- the parts of calls

-- data written, with the frames that 01 counts: every touched page is present
pub writing_present : (o x : ℕ) (d : List ℕ) (w : Work) → Good w → 4096 ≤ w.size → x + length d ≤ 1073741824
    → wanted (touched w.size x (length d)) o (x / w.size) w ≤ length w.spare
    → Presents o (x / w.size) (x / w.size + touched w.size x (length d)) (λ _. true) w (writing o x d w)
unfolding writing
writing_present o x d w G hs h enough =
    let top = page_bound w.size x (length d) hs h in
    pages_present o (x / w.size) (touched w.size x (length d)) (λ _. true) w _ top
    (λ j l. ap is_some (write_pages w.size (touched w.size x (length d)) o (x / w.size) (x % w.size) d w G.whole G.tight top enough j l))
    (write_from_out w.size (touched w.size x (length d)) o (x / w.size) (x % w.size) d w G.whole G.tight top)

-- n bytes of object s from x, read in state w and written to object o at y in state u
pub bytes_present : (s x o y n : ℕ) (w u : Work) → Good w → 4096 ≤ w.size → Kept w u → y + n ≤ 1073741824
    → wanted (touched w.size y n) o (y / w.size) u ≤ length u.spare
    → Presents o (y / w.size) (y / w.size + touched w.size y n) (λ _. true) u (copy_bytes s x o y n w u)
bytes_present s x o y n w u G hs K h enough = go w.size (sym K.size) n long enough
  where
    long : length (reading s x n w) ≡ n
    long = reading_length w (omega arith) G.fits s x n

    go : (m : ℕ) → m ≡ u.size → (k : ℕ) → length (reading s x n w) ≡ k → wanted (touched m y k) o (y / m) u ≤ length u.spare
        → Presents o (y / m) (y / m + touched m y k) (λ _. true) u (writing o y (reading s x n w) u)
    go m e k l h' = rw (e, ← l) (writing_present o y (reading s x n w) u K.good (rw K.size hs) (omega (arith, long)) (rw (e, ← l) at h'))

-- whole pages shared: each is present if its source page is, where that is covered, else as before
pub sharing_present : (s p o q n : ℕ) (w : Work) → Good w → (s ≡ o → ⊥) → p + n ≤ 262144 → q + n ≤ 262144
    → Presents o q (q + n) (λ k. shared_has w s (p + (k - q)) o k) w (sharing s p o q n w)
sharing_present s p o q n w G other ps qs =
    pages_present o q n _ w (sharing s p o q n w) qs
    (λ j l. let e : p + ((q + j) - q) ≡ p + j = omega arith in
    rw e (ap is_some (sharing_in s p o q n w G.whole other ps qs j l) ∙ go (slot_at (line s (p + j)) w.ranges) (page_of (line s (p + j)) w) (page_of (line o (q + j)) w)))
    (sharing_out s p o q n w G.whole other ps qs)
  where
    go : (t : Option Slot) (y z : Option (List ℕ)) → is_some (from_source t y z) ≡ pick (is_some t) (is_some y) (is_some z)
    go None y z = refl
    go (Some s) y z = refl

-- whole pages left uncovered are absent
pub uncover_present : (o p n : ℕ) (w : Work) → p + n ≤ 262144 → Presents o p (p + n) (λ _. false) w (uncover o p n w)
uncover_present o p n w top =
    pages_present o p n (λ _. false) w (uncover o p n w) top (λ j l. ap is_some (uncover_in o p n w (line o (p + j)) (omega arith) (omega arith))) (uncover_out o p n w)

-- a page added is present
pub add_present : (o p : ℕ) (w : Work) → Good w → p < 262144 → 0 < length w.spare → Presents o p (p + 1) (λ _. true) w (add_page o p w)
add_present o p w G hp h =
    let way : Way o p w (blank w) (add_page o p w) = add_page_way o p w G.whole hp in
    pages_present o p 1 (λ _. true) w (add_page o p w) (omega arith)
    (λ j l. let e : p + j ≡ p = omega arith in rw e (ap is_some (way_here o p _ w _ way G.whole (spare_room w G.whole h))))
    (λ g c. way_elsewhere o p _ w _ way G.whole G.tight g (λ e. ⊎_elim (λ (l : g < line o p). omega arith) (λ (l : line o p + 1 ≤ g). omega arith) c))

-- bytes cleared in a part of a page, with a frame if the page is present and wants one: a present page stays present, an absent one absent
pub clear_same : (o x n : ℕ) (w : Work) → Good w → 4096 ≤ w.size → x + n ≤ 1073741824
    → ((y : List ℕ) → page_of (line o (x / w.size)) w ≡ Some y → pick (eqb n 0) 0 (wants o (x / w.size) w) ≤ length w.spare) → Same w (clear o x n w)
unfolding clear
clear_same o x n w G hs h ok o' k b =
    by-eq n 0
    (λ e. rw (eq-eqb n 0 e))
    (λ e. rw (ne_eqb n 0 e) (go e (page_of (line o p) w) refl))
  where
    p : ℕ
    p = x / w.size

    f : List ℕ → List ℕ
    f = over (x % w.size) (replicate n 0)

    go : (n ≡ 0 → ⊥) → (t : Option (List ℕ)) → page_of (line o (x / w.size)) w ≡ t → has (line o' k) (cleared o (x / w.size) (x % w.size) n w t) ≡ has (line o' k) w
    go ne None d = refl
    go ne (Some y) d =
        let hp : x / w.size < 262144 = page_in w.size x n hs (omega arith) h in
        by-eq (line o' k) (line o p)
        (λ z. rw z (ap is_some (written o p f w G.whole G.tight hp (rw (ne_eqb n 0 ne) at (ok y d))) ∙ sym (ap is_some d)))
        (λ z. ap is_some (write_elsewhere o p f w G.whole G.tight hp (line o' k) z))
