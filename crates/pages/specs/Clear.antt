-- BYTES OF ONE PAGE CLEARED: those of a present page are zeros afterwards, an absent page stays absent.
use Rattle.std.proofs.Math.Path.{◌≡◌}
use Rattle.std.specs.Prelude.{List, ℕ, ◌+◌, ◌*◌, ◌/◌, ◌%◌, ◌≤◌, ◌<◌, length, replicate, Option, Some, None}
use Rattle.std.proofs.Common.{arith, eq-eqb, ne_eqb}
use Rattle.store.specs.declared.Store.{Store}
use Rattle.lists.specs.Test.{by-test}
use Rattle.ranges.specs.Range.{Slot, line, slot_at}
use Rattle.book.specs.Page.{over}
use Rattle.book.specs.Work.{page_of, slot_bytes, is_shared, write_page}
use Rattle.book.specs.Bytes.{clear}
use Rattle.book.specs.Need.{state_in, state_of, lacks, common, wants}
use Rattle.frames.specs.Free.{spare_of}
use Rattle.store.specs.Spare.{work_of}
use Rattle.pages.specs.Inside.{Wrote}
use Rattle.pages.specs.Present.{Room}

-- there are a frame and two slots, if the page needs them to be cleared: "(zeroing: present and shared)"
pub record Spared (s : Store) (x : List ℕ) (o p : ℕ) : Type 0 where
  pub frames : common (state_of o p (work_of s x)) ≤ length (spare_of s.free 1024)
  pub slots : s.count + 2 * common (state_of o p (work_of s x)) ≤ 512

-- THE CASES: nothing is there to be cleared, or the page is written with zeros
pub data Cleared (s : Store) (x : List ℕ) (o off n : ℕ) : Store → List ℕ → Type 0 where
  stayed : clear o off n (work_of s x) ≡ work_of s x → Cleared s x o off n s x
  wrote : {t : Store} {y : List ℕ} → 0 < n → clear o off n (work_of s x) ≡ write_page o (off / 4096) (over (off % 4096) (replicate n 0)) (work_of s x)
      → Wrote s x o (off / 4096) (over (off % 4096) (replicate n 0)) t y → Cleared s x o off n t y

-- no byte: nothing
pub clear_nothing : (s : Store) (x : List ℕ) (o off n : ℕ) → n ≡ 0 → Cleared s x o off n s x
clear_nothing s x o off n e = stayed (unfold clear in rw (eq-eqb n 0 e))

module _ (s : Store) (x : List ℕ) (o off n : ℕ) (h : 0 < n) where
  abbrev p : ℕ
  p = off / 4096

  -- an absent page stays
  pub clear_absent : page_of (line o p) (work_of s x) ≡ None → Cleared s x o off n s x
  clear_absent e = stayed cleared_absent
    where
      cleared_absent : clear o off n (work_of s x) ≡ work_of s x
      cleared_absent = unfold clear work_of in rw (ne_eqb n 0 (λ z. omega arith), e)

  module _ (z : List ℕ) (e : page_of (line o p) (work_of s x) ≡ Some z) where
    -- what a present page needs to be cleared it needs to be written
    same_need : wants o p (work_of s x) ≡ common (state_of o p (work_of s x))
    unfolding wants state_of page_of
    same_need = go (slot_at (line o p) (work_of s x).ranges) e
      where
        go : (t : Option Slot) → slot_bytes (work_of s x).cells t ≡ Some z
            → lacks (state_in (work_of s x) t (slot_bytes (work_of s x).cells t)) ≡ common (state_in (work_of s x) t (slot_bytes (work_of s x).cells t))
        go None q = absurd (let u : ◌≡◌ {A = ℕ} 0 1 = cc in omega arith)
        go (Some t) q = rw q (by-test (is_shared t.inside (work_of s x).ranges) (λ b. rw b) (λ b. rw b))

    pub clear_room : Spared s x o p → Room s x o p
    clear_room R = record { frames = omega (arith, same_need, R.frames); slots = omega (arith, same_need, R.slots) }

    -- a present page is written with zeros
    pub clear_present : (t : Store) (y : List ℕ) → Wrote s x o p (over (off % 4096) (replicate n 0)) t y → Cleared s x o off n t y
    clear_present t y W = wrote h cleared_present W
      where
        cleared_present : clear o off n (work_of s x) ≡ write_page o p (over (off % 4096) (replicate n 0)) (work_of s x)
        cleared_present = unfold clear work_of in rw (ne_eqb n 0 (λ q. omega arith), e)
