-- A STEP THAT CHANGES THE TABLE OF RANGES AND NO BYTE, in a store inside a call, with any pool.
use Rattle.std.specs.Prelude.{◌≡◌, refl, List, ℕ, ◌≤◌}
use Rattle.std.proofs.Common.{◌∙◌}
use Rattle.store.specs.declared.Store.{Store}
use Rattle.book.specs.Work.{Work}
use Rattle.store.specs.Spare.{work_of}
use Rattle.pages.specs.Inside.{Inside}
use Rattle.pages.specs.Changed.{Changed}

-- from store s to store t with the pool x: the work is the book's w, and pages below the line's page c keep their frames
pub record Reranged (s : Store) (x : List ℕ) (w : Work) (c : ℕ) (t : Store) : Type 0 where
  pub work : work_of t x ≡ w
  pub inside : Inside t x
  pub frames : t.frames ≡ s.frames
  pub live : t.live ≡ s.live
  pub changed : (a e : ℕ) (x₀ : List ℕ) → e ≤ c → Changed a e s x₀ x → Changed a e t x₀ x

-- the store as it is
pub reranged_none : (s : Store) (x : List ℕ) (w : Work) (c : ℕ) → Inside s x → work_of s x ≡ w → Reranged s x w c s
reranged_none s x w c I e = record { work = e; inside = I; frames = refl; live = refl; changed = λ a u x₀ l C. C }

-- one step after another
pub reranged_then : (s u t : Store) (x : List ℕ) (v w : Work) (c : ℕ) → Reranged s x v c u → Reranged u x w c t → Reranged s x w c t
reranged_then s u t x v w c R S = record {
  work = S.work;
  inside = S.inside;
  frames = S.frames ∙ R.frames;
  live = S.live ∙ R.live;
  changed = λ a e x₀ l C. S.changed a e x₀ l (R.changed a e x₀ l C);
}
