-- A write as a part of a call.
use Rattle.std.specs.Prelude.{◌≡◌, List, eqb, length}
use Rattle.std.proofs.Common.{◌∙◌, le_refl, arith, eq-eqb, ne_eqb}
use Rattle.std.proofs.Math.Logic.{⊎_elim}
use Prim.Native.Nat.{ℕ, ◌/◌, ◌≤◌, ◌<◌}
use Rattle.store.specs.declared.Store.{Store}
use Rattle.lists.specs.Test.{pick, by-eq}
use Rattle.ranges.specs.Range.{line}
use Rattle.book.specs.Bytes.{write_from, writing}
use Rattle.pool.specs.Bytes.{frame_at}
use Rattle.store.specs.Spare.{work_of}
use Rattle.pages.specs.Changed.{Among, Changed, changed_none, changed_more, still_goes}
use Rattle.pages.specs.Part.{Part}
use Rattle.writes.specs.Turn.{none_left}
use Rattle.writes.specs.Written.{Written}

module _ (s t : Store) (x y : List ℕ) (o off : ℕ) (d : List ℕ) (W : Written s x o off d t y) where
  -- no data: nothing is done
  none_work : length d ≡ 0 → work_of t y ≡ work_of s x
  unfolding writing work_of write_from
  none_work z = W.work ∙ rw (none_left off (length d) z)

  none_same : length d ≡ 0 → (f : ℕ) → f < s.frames → frame_at 4096 y f ≡ frame_at 4096 x f
  unfolding Changed
  none_same z f l =
      let a : ℕ = line o (off / 4096) in
      let h : W.upto ≤ a = omega (arith, W.top, none_left off (length d) z) in
      ⊎_elim (λ (q : frame_at 4096 y f ≡ frame_at 4096 x f). q) (λ (A : Among a W.upto t f). absurd (omega (arith, A.low, A.high)))
      (W.changed a x (le_refl a) (changed_none a s x) f (omega (arith, W.frames)))

  -- where the pages done end: behind the write, if there were data
  abbrev pub written_to : ℕ → ℕ
  written_to e = pick (eqb (length d) 0) e W.upto

  pub written_part : (e : ℕ) → (0 < length d → e ≤ line o (off / 4096)) → Part s x (writing o off d (work_of s x)) e (written_to e) t y
  written_part e l =
      by-eq (length d) 0
      (λ z. rw (eq-eqb (length d) 0 z) (record {
        work = W.work;
        inside = W.inside;
        frames = W.frames;
        live = W.live;
        rises = le_refl e;
        goes = still_goes s t x y e W.frames (none_work z) (none_same z);
      }))
      (λ z. rw (ne_eqb (length d) 0 z) (record {
        work = W.work;
        inside = W.inside;
        frames = W.frames;
        live = W.live;
        rises = omega (arith, l (omega arith), W.low);
        goes = λ a x₀ k C. W.changed a x₀ (omega (arith, l (omega arith))) (changed_more a e (line o (off / 4096)) s x₀ x (l (omega arith)) C);
      }))
