-- PARTS OF A CALL, one after another: each does a part of the book's work, and the pages done along the line end further on.
use Rattle.std.specs.Prelude.{◌≡◌, refl, List, ℕ, suc, ◌+◌, ◌/◌, ◌%◌, ◌≤◌, ◌<◌, eqb, replicate}
use Rattle.std.proofs.Common.{ap, sym, ◌∙◌, le_refl, arith, eq-eqb, ne_eqb}
use Rattle.store.specs.declared.Store.{Store}
use Rattle.lists.specs.Test.{pick, by-eq}
use Rattle.ranges.specs.Range.{line}
use Rattle.book.specs.Page.{over}
use Rattle.book.specs.Work.{Work}
use Rattle.book.specs.Bytes.{clear}
use Rattle.store.specs.Spare.{work_of}
use Rattle.pages.specs.Inside.{Inside}
use Rattle.pages.specs.Changed.{Goes, changed_more, changed_step}
use Rattle.pages.specs.Clear.{Cleared, stayed, wrote}

-- from store s and pool x to t and y, whose work is the book's w; pages done ended at e and end at e'
pub record Part (s : Store) (x : List ℕ) (w : Work) (e e' : ℕ) (t : Store) (y : List ℕ) : Type 0 where
  pub work : work_of t y ≡ w
  pub inside : Inside t y
  pub frames : t.frames ≡ s.frames
  pub live : t.live ≡ s.live
  pub rises : e ≤ e'
  pub goes : Goes e e' s x t y

-- the next part works on what the one before it left
pub part_then : (s t u : Store) (x y z : List ℕ) (f : Work → Work) (w : Work) (e e' e'' : ℕ) → Part s x w e e' t y → Part t y (f (work_of t y)) e' e'' u z → Part s x (f w) e e'' u z
part_then s t u x y z f w e e' e'' A B = record {
  work = B.work ∙ ap f A.work;
  inside = B.inside;
  frames = B.frames ∙ A.frames;
  live = B.live ∙ A.live;
  rises = omega (arith, A.rises, B.rises);
  goes = λ a x₀ l C. B.goes a x₀ (omega (arith, A.rises)) (A.goes a x₀ l C);
}

-- bytes of one page cleared, behind the pages done, up to e'
cleared_part : (s t : Store) (x y : List ℕ) (o off n e e' : ℕ) → Inside s x → off + n ≤ 1073741824 → (0 < n → e ≤ line o (off / 4096)) → e ≤ e' → (0 < n → e' ≡ suc (line o (off / 4096)))
    → Cleared s x o off n t y → Part s x (clear o off n (work_of s x)) e e' t y
cleared_part s t x y o off n e e' I h l k q (stayed g) =
    record { work = sym g; inside = I; frames = refl; live = refl; rises = k; goes = λ a x₀ m C. changed_more a e e' s x₀ x k C }
cleared_part s t x y o off n e e' I h l k q (wrote b g W) = record {
  work = W.step.work ∙ sym g;
  inside = W.step.inside;
  frames = W.step.frames;
  live = W.step.live;
  rises = k;
  goes = λ a x₀ m C. rw (q b)
      (changed_step a o (off / 4096) (over (off % 4096) (replicate n 0)) s t x₀ x y W.frame (changed_more a e (line o (off / 4096)) s x₀ x (l b) C) (omega (arith, l b)) I (omega arith)
      W.step);
}

-- the page is done then, if there were bytes
pub clear_part : (s t : Store) (x y : List ℕ) (o off n e : ℕ) → Inside s x → off + n ≤ 1073741824 → (0 < n → e ≤ line o (off / 4096)) → Cleared s x o off n t y
    → Part s x (clear o off n (work_of s x)) e (pick (eqb n 0) e (suc (line o (off / 4096)))) t y
clear_part s t x y o off n e I h l c =
    by-eq n 0
    (λ z. rw (eq-eqb n 0 z) (cleared_part s t x y o off n e e I h l (le_refl e) (λ k. absurd (omega arith)) c))
    (λ z. rw (ne_eqb n 0 z) (cleared_part s t x y o off n e (suc (line o (off / 4096))) I h l (omega (arith, l (omega arith))) (λ k. refl) c))
