-- The way into a call: what the examination of a store tells it.
use Rattle.std.specs.Prelude.{◌≡◌, refl, true, false, not, List, [], ◌∷◌, ℕ, Result, Ok, Err, IfOk, IsOkAnd}
use Rattle.std.proofs.Common.{sym, ◌∙◌, arith}
use Rattle.store.specs.declared.Store.{Store}
use Rattle.charts.specs.declared.Charts.{Charts}
use Rattle.book.specs.Book.{Call, counts, lowest, table}
use Rattle.store.specs.Sound.{sound?, Sound, Sized}
use Rattle.store.specs.Iff.{sound_says}
use Rattle.charts.specs.Charts.{FrameChains, RangeChains}
use Rattle.lookup.specs.Charted.{Charted, sound_charted}
use Rattle.refusals.specs.declared.Refusal.{Refusal}
use Rattle.refusals.specs.declared.Refusal.TheVariants.{Spoiled}
use Rattle.refusals.specs.Number.{number, number_of, number_positive}
use Rattle.refusals.specs.Refuse.{decides, refusal, row_refuses}

-- a sound store, with its ranges and its frames chained
pub record Entered (s : Store) (c : Charts) : Type 0 where
  pub sized : Sized s
  pub sound : Sound s
  pub framed : FrameChains s.places s.frames c.frames
  pub held : RangeChains s.ranges s.count c.ranges

-- pages can be looked up in it
pub entered_charted : {s : Store} {c : Charts} → Entered s c → Charted s c
entered_charted {s} {c} E = sound_charted s c E.sized E.sound E.framed

-- 1: "the store isn't sound"
pub spoiled : (s : Store) → sound? s ≡ false → (x : List ℕ) (c : Call) → 1 ≡ refusal s x c
unfolding lowest
spoiled s h x c = rw h

-- counts are refused for no other reason
pub counts_none : (s : Store) → sound? s ≡ true → (x : List ℕ) → 0 ≡ refusal s x counts
unfolding lowest table
counts_none s h x = rw h

-- what the examination of store s tells the call, whose answer is r: row 1 of the table, and that a sound store is entered, with the charts that the answer has
pub record Tried {T : Type 0} (s : Store) (r : Result T Refusal) (c : T → Charts) : Type 0 where
  pub number : number_of r ≡ lowest ((not (sound? s), 1) ∷ [])
  pub sized : Sized s
  pub enters : IfOk r (λ y. Entered s (c y))

-- so a store that is not sound is refused whatever the call is
pub tried_refuses : {T : Type 0} {s : Store} {e : Refusal} {c : T → Charts} → Tried {T = T} s (Err e) c → (x : List ℕ) (call : Call) → number e ≡ refusal s x call
tried_refuses {T} {s} {e} {c} t x call = decides _ (number e) (row_refuses (not (sound? s)) 1 e t.number)

-- from the test of soundness
module _ {T : Type 0} (s : Store) (c : T → Charts) (Z : Sized s) where
  pub tried_sound : (y : T) → true ≡ sound? s → RangeChains s.ranges s.count (c y).ranges → FrameChains s.places s.frames (c y).frames → Tried {T = T} s (Ok y) c
  unfolding lowest
  tried_sound y e R F = record {
    number = rw (← e);
    sized = Z;
    enters = record { sized = Z; sound = sound_says s (sym e); framed = F; held = R };
  }

  pub tried_spoiled : false ≡ sound? s → Tried {T = T} s (Err Spoiled) c
  unfolding lowest
  tried_spoiled e = record { number = rw (← e); sized = Z; enters = tt }

-- the number of a call, whose store was examined with the answer r
unfoldable pub verdict : {T : Type 0} → Result T Refusal → Store → List ℕ → Call → ℕ
verdict (Ok y) s x c = refusal s x c
verdict (Err e) s x c = number e

module _ (T : Type 0) (s : Store) (x : List ℕ) (call : Call) where
  pub verdict_spoiled : (e : Refusal) → number e ≡ verdict {T = T} (Err e) s x call
  unfolding verdict
  verdict_spoiled e = refl

module _ {T : Type 0} (s : Store) (x : List ℕ) (call : Call) where
  pub verdict_sound : (y : T) {k : ℕ} → k ≡ refusal s x call → k ≡ verdict {T = T} (Ok y) s x call
  unfolding verdict
  verdict_sound y e = e

  -- the number is the refusal of the store that was examined
  pub refuses : (r : Result T Refusal) {c : T → Charts} {k : ℕ} → Tried s r c → k ≡ verdict r s x call → k ≡ refusal s x call
  unfolding verdict
  refuses (Ok y) t e = e
  refuses (Err f) t e = e ∙ tried_refuses t x call

  -- a call that is not refused has a sound store
  pub accepted : (r : Result T Refusal) {c : T → Charts} {k : ℕ} → Tried s r c → k ≡ verdict r s x call → k ≡ 0 → IsOkAnd r (λ y. Entered s (c y))
  unfolding verdict
  accepted (Ok y) t e z = t.enters
  accepted (Err f) t e z = absurd (omega (arith, number_positive f))
