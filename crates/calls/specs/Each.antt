-- What each call that is done has done.
use Rattle.std.specs.Prelude.{◌≡◌, ℕ, ◌*◌, ◌%◌, ◌^◌, ◌<◌, take}
use Rattle.std.proofs.Math.Path.{ap, ap₂, sym}
use Rattle.std.proofs.Common.{◌∙◌, arith}
use mathlib.Core.List.{List, []}
use Rattle.std.specs.Int.Bits.{bit_or}
use Rattle.store.specs.declared.Store.{Store}
use Rattle.look.specs.declared.State.{State}
use Rattle.ranges.specs.Range.{line}
use Rattle.book.specs.Book.{new_object, look_up, counts, done, state, numbers, perform}
use Rattle.laws.specs.Accepted.{look_rows, new_rows}
use Rattle.places.specs.Places.{used_count}
use Rattle.store.specs.Abs.{book_of}
use Rattle.store.specs.Sound.{Sized}
use Rattle.store.specs.Good.{book_count, sound_table}
use Rattle.store.specs.Spare.{sound_used}
use Rattle.store.specs.Live.{live_set}
use Rattle.store.specs.Back.{Besides, sound_besides}
use Rattle.look.specs.Look.{located, seen}
use Rattle.look.specs.Found.{state_is, state_located}
use Rattle.refusals.specs.Refuse.{refusal}
use Rattle.calls.specs.Calls.{Did, did_done, zero_sound}
use Rattle.calls.specs.Kept.{was_sound, accepted, still_sound}

-- what the rows say
pub look_page : (s : Store) (o p : ℕ) → ((x : List ℕ) → 0 ≡ refusal s x (look_up o p)) → (o < 32) × (p < 262144)
unfolding book_of
look_page s o p r =
    let R = look_rows (book_of s []) o p (accepted (look_up o p) s r []) in
    (R.0.small, R.1)

pub new_name : (s : Store) (o : ℕ) → ((x : List ℕ) → 0 ≡ refusal s x (new_object o)) → o < 32
new_name s o r = (new_rows (book_of s []) o (accepted (new_object o) s r [])).0

module _ (s : Store) (Z : Sized s) where
  pub counts_done : ((x : List ℕ) → 0 ≡ refusal s x counts) → (n m : ℕ) → n ≡ used_count (take s.frames s.places) → m ≡ s.count → Did counts s 0 (numbers n m) s
  unfolding perform book_of
  counts_done r n m e f =
      let S = was_sound counts s r in
      did_done counts s (numbers n m) s r (zero_sound counts s [] (r [])) (λ z. z)
      (λ x. ap₂ (λ a b. record { answer = numbers a b; book = book_of s x }) (sound_used s Z S 4096 x ∙ sym e) (book_count s S Z ∙ sym f))

  pub look_done : (o p : ℕ) → ((x : List ℕ) → 0 ≡ refusal s x (look_up o p)) → (t : State) → t ≡ seen s (located s (line o p)) → Did (look_up o p) s 0 (state (state_is t)) s
  unfolding perform
  look_done o p r t e =
      let S = was_sound (look_up o p) s r in
      did_done (look_up o p) s (state (state_is t)) s r (zero_sound (look_up o p) s [] (r [])) (λ z. z)
      (λ x. ap (λ a. record { answer = state a; book = book_of s x })
      (sym (ap state_is e ∙ state_located s (sound_table s Z S) (omega (arith, S.few_frames, Z.places)) o p x)))

  abbrev pub named : ℕ → Store
  named w = record { frames = s.frames; live = w; count = s.count; ranges = s.ranges; places = s.places; free = s.free }

  new_does : (o : ℕ) → o < 32 → (x : List ℕ) → perform (book_of s x) (new_object o) ≡ record { answer = done; book = book_of (named (bit_or s.live (1 * 2 ^ o % 2 ^ 32))) x }
  unfolding perform book_of
  new_does o l x = rw (live_set s.live o l)

  pub new_done : (o : ℕ) → ((x : List ℕ) → 0 ≡ refusal s x (new_object o)) → Did (new_object o) s 0 done (named (bit_or s.live (1 * 2 ^ o % 2 ^ 32)))
  new_done o r =
      let S = was_sound (new_object o) s r in
      let l : o < 32 = new_name s o r in
      let t : Store = named (bit_or s.live (1 * 2 ^ o % 2 ^ 32)) in
      let B = sound_besides s Z S in
      let K : Besides t = record { few_ranges = B.few_ranges; kinds = B.kinds; agree = B.agree; rest_ranges = B.rest_ranges; rest_places = B.rest_places; bits = B.bits } in
      did_done (new_object o) s done t r (still_sound (new_object o) s r t Z (λ x. ap (λ d. d.book) (new_does o l x)) K) (λ z. record { ranges = z.ranges; places = z.places; free = z.free }) (new_does o l)
