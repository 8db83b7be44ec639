-- A PAGE MADE WRITABLE BESIDE A SOURCE, which is another object: it has none of the source's frames, and the source reads as it did. So bytes of the source
-- moved into it are those that stood there before.
use Rattle.std.specs.Prelude.{◌≡◌, List, ℕ, ◌+◌, ◌*◌, ◌/◌, ◌%◌, ◌≤◌, ◌<◌, length}
use Rattle.std.proofs.Common.{ap, subst, ◌∙◌, arith, take_all}
use Rattle.std.proofs.Math.Path.{sym}
use Rattle.std.proofs.Math.Seq.{paste}
use Rattle.store.specs.declared.Store.{Store}
use Rattle.ranges.specs.Range.{Slot, line, slot_in}
use Rattle.book.specs.Page.{over}
use Rattle.book.specs.Work.{Work, seen, page_of, writable}
use Rattle.book.specs.Bytes.{reading}
use Rattle.laws.specs.Way.{Way, writable_way}
use Rattle.laws.specs.PageLaw.{way_private, way_elsewhere, private_differ}
use Rattle.store.specs.Spare.{work_of}
use Rattle.pages.specs.Inside.{Inside, Stepped, Wrote, inside_table, inside_room}
use Rattle.pages.specs.Present.{located_held}
use Rattle.pages.specs.Changed.{spot}
use Rattle.pages.specs.Steps.{write_wrote}
use Rattle.moves.specs.Source.{source_length, source_same}
use Rattle.moves.specs.Moving.{Away}

module _ (s : Store) (x : List ℕ) (I : Inside s x) (source o p : ℕ) (ne : source ≡ o → ⊥) (hp : p < 262144)
    (t : Store) (y : List ℕ) (f : ℕ) (S : Stepped s x o p (writable o p (work_of s x)) t y f) where
  abbrev w : Work
  w = work_of s x

  -- the page is private now
  made : Way o p w (seen w.size (page_of (line o p) w)) (work_of t y)
  made = rw S.work (writable_way o p w I.good.whole hp)

  -- a page of the source is another page
  another : (q : ℕ) → q < 262144 → line source q ≡ line o p → ⊥
  another q hq e = ne (omega arith)

  -- NO PAGE OF THE SOURCE IS IN ITS FRAME: no other page is at the slot of a private page
  pub made_away : Away t source f
  unfolding work_of
  made_away q hq l h e =
      let J : Inside t y = S.inside in
      let H = (located_held t (inside_table t y J) (inside_room t y J) source q y l h).present.has in
      let P = way_private o p _ w (work_of t y) made in
      let k : spot t l.frame ≡ slot_in (line o p) P.r = rw e (let i = sym S.has.slot ∙ P.slot in cc) in
      private_differ o p (work_of t y) P (line source q) (another q hq) (spot t l.frame) H.slot (ap (λ (z : Slot). z.inside) k) (ap (λ (z : Slot). z.index) k)

  -- the source reads as it did
  made_same : (from m : ℕ) → from + m ≤ 1073741824 → reading source from m (work_of t y) ≡ reading source from m w
  made_same from m ends =
      source_same s x I source from m t y S.inside ends
      (λ q hq. way_elsewhere o p _ w (work_of t y) made I.good.whole I.good.tight (line source q) (another q hq))

  -- BYTES OF THE SOURCE WRITTEN to the page that an offset lies in
  pub source_wrote : (off k : ℕ) → off < 1073741824 → p ≡ off / 4096 → k ≡ off % 4096 → (from m : ℕ) → from + m ≤ 1073741824 → off % 4096 + m ≤ 4096
      → (z : List ℕ) → z ≡ paste y (f * 4096 + k) (reading source from m (work_of t y)) m → Wrote s x o (off / 4096) (over (off % 4096) (reading source from m w)) t z
  source_wrote off k h e g from m ends fits z q =
      let d : List ℕ = reading source from m (work_of t y) in
      let l : length d ≡ m = source_length t y S.inside source from m in
      subst (λ r. Wrote s x o (off / 4096) (over (off % 4096) r) t z) (take_all m d (omega arith) ∙ made_same from m ends)
      (write_wrote s x I o off h p k e g t y f S d m fits (omega arith) z q)
