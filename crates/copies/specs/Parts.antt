-- THE PARTS PUT TOGETHER: zeroing.
use Rattle.std.specs.Prelude.{◌≡◌, refl, List, ℕ, suc, ◌+◌, ◌*◌, ◌/◌, ◌≤◌, ◌<◌, eqb}
use Rattle.std.proofs.Common.{◌∙◌, arith, eq-eqb, ne_eqb}
use Rattle.std.proofs.Math.Nat.{le_refl}
use Rattle.store.specs.declared.Store.{Store}
use Rattle.lists.specs.Test.{pick, by-eq}
use Rattle.ranges.specs.Range.{line}
use Rattle.book.specs.Page.{Span, span_of, tail_at}
use Rattle.book.specs.Work.{Work}
use Rattle.book.specs.Bytes.{clear}
use Rattle.book.specs.Pages.{uncover}
use Rattle.book.specs.Copy.{zeroing}
use Rattle.laws.specs.Spans.{span_sum, tail_apart, whole_start}
use Rattle.store.specs.Spare.{work_of}
use Rattle.pages.specs.Inside.{Inside}
use Rattle.pages.specs.Changed.{still_goes}
use Rattle.pages.specs.Clear.{Cleared}
use Rattle.pages.specs.Part.{Part, part_then, clear_part}
use Rattle.shares.specs.Reranged.{Reranged}

-- the table changed behind the pages done
pub reranged_part : (s t : Store) (x : List ℕ) (w : Work) (c e : ℕ) → e ≤ c → Reranged s x w c t → Part s x w e e t x
reranged_part s t x w c e l R = record {
  work = R.work;
  inside = R.inside;
  frames = R.frames;
  live = R.live;
  rises = le_refl e;
  goes = λ a x₀ k C. R.changed a e x₀ l C;
}

-- or not changed
pub reranged_still : (s t : Store) (x : List ℕ) (w : Work) (c e : ℕ) → w ≡ work_of s x → Reranged s x w c t → Part s x w e e t x
reranged_still s t x w c e z R = record {
  work = R.work;
  inside = R.inside;
  frames = R.frames;
  live = R.live;
  rises = le_refl e;
  goes = still_goes s t x x e R.frames (R.work ∙ z) (λ f l. refl);
}

-- of a span of bytes from offset off of object o
module _ (o off n : ℕ) where
  abbrev P : Span
  P = span_of 4096 off n

  -- behind the head
  abbrev head_to : ℕ
  head_to = pick (eqb P.head 0) (line o (off / 4096)) (suc (line o (off / 4096)))

  -- whole pages begin behind the head's page
  pub head_behind : 0 < P.whole → head_to ≤ line o ((off + P.head) / 4096)
  head_behind h =
      by-eq P.head 0
      (λ z. rw (eq-eqb P.head 0 z) (omega arith))
      (λ z. rw (ne_eqb P.head 0 z) (omega (arith, whole_start 4096 off n (omega arith) h)))

  -- and so does the tail's page
  pub tail_behind : 0 < P.tail → head_to ≤ line o ((off + tail_at 4096 P) / 4096)
  tail_behind h =
      by-eq P.head 0
      (λ z. rw (eq-eqb P.head 0 z) (omega arith))
      (λ z. rw (ne_eqb P.head 0 z) (omega (arith, tail_apart 4096 off n (omega arith) (omega arith) h)))

  abbrev pd : ℕ
  pd = (off + P.head) / 4096

  abbrev pt : ℕ
  pt = (off + tail_at 4096 P) / 4096

  -- behind the tail
  abbrev tail_to : ℕ
  tail_to = pick (eqb P.tail 0) head_to (suc (line o pt))

  sum : P.head + P.whole * 4096 + P.tail ≡ n
  sum = span_sum 4096 off n (omega arith)

  -- whole pages uncovered
  middle_part : (a b : Store) (y : List ℕ) → Reranged a y (uncover o pd P.whole (work_of a y)) (line o pd) b → Part a y (uncover o pd P.whole (work_of a y)) head_to head_to b y
  middle_part a b y R =
      by-eq P.whole 0
      (λ z. reranged_still a b y (uncover o pd P.whole (work_of a y)) (line o pd) head_to (none z) R)
      (λ z. reranged_part a b y (uncover o pd P.whole (work_of a y)) (line o pd) head_to (head_behind (omega arith)) R)
    where
      none : P.whole ≡ 0 → uncover o pd P.whole (work_of a y) ≡ work_of a y
      none z = unfold uncover in rw (eq-eqb P.whole 0 z)

  -- ZEROING
  pub zero_part : (s a b t : Store) (x y z : List ℕ) → Inside s x → off + n ≤ 1073741824 → Cleared s x o off P.head a y
      → Reranged a y (uncover o pd P.whole (work_of a y)) (line o pd) b → Cleared b y o (off + tail_at 4096 P) P.tail t z
      → Part s x (zeroing o off n (work_of s x)) (line o (off / 4096)) tail_to t z
  unfolding zeroing work_of
  zero_part s a b t x y z I h C R D =
      let A = clear_part s a x y o off P.head (line o (off / 4096)) I (omega (arith, sum)) (λ k. le_refl _) C in
      let M = part_then s a b x y y (uncover o pd P.whole) (clear o off P.head (work_of s x)) (line o (off / 4096)) head_to head_to A (middle_part a b y R) in
      part_then s b t x y z (clear o (off + tail_at 4096 P) P.tail) (uncover o pd P.whole (clear o off P.head (work_of s x))) (line o (off / 4096)) head_to tail_to M
      (clear_part b t y z o (off + tail_at 4096 P) P.tail head_to R.inside (omega (arith, sum)) tail_behind D)
