-- The parts of a span as the code has them: what each part asks for, and what they come to.
use Rattle.std.specs.Prelude.{◌≡◌, List, ℕ, ◌+◌, ◌-◌, ◌*◌, ◌/◌, ◌%◌, ◌≤◌, ◌<◌, min}
use Rattle.std.proofs.Math.Path.{refl}
use Rattle.std.proofs.Common.{ap, subst, ◌∙◌, le_refl, div-add-mod', arith}
use Rattle.store.specs.declared.Store.{Store}
use Rattle.ranges.specs.Range.{line}
use Rattle.book.specs.Page.{Span, span_of, tail_at}
use Rattle.book.specs.Bytes.{reading, clear}
use Rattle.book.specs.Pages.{sharing, met, uncover}
use Rattle.book.specs.Copy.{copy_equal, zeroing}
use Rattle.laws.specs.Spans.{span_sum, head_fits, tail_fits, whole_in, span_same}
use Rattle.store.specs.Spare.{work_of}
use Rattle.pages.specs.Inside.{Inside}
use Rattle.pages.specs.Any.{zeros, inside_zeros}
use Rattle.pages.specs.Clear.{Spared, Cleared}
use Rattle.pages.specs.Part.{clear_part}
use Rattle.writes.specs.Written.{Room, Written}
use Rattle.moves.specs.Source.{Elsewhere}
use Rattle.shares.specs.Reranged.{Reranged}
use Rattle.copies.specs.Room.{ZeroRoom, EqualRoom, Worked}
use Rattle.copies.specs.Equal.{equal_head, equal_middle, equal_tail, equal_part}
use Rattle.copies.specs.Zero.{zero_head, zero_middle, zero_tail}
use Rattle.copies.specs.Parts.{zero_part}

-- ---- zeroing

module _ (s : Store) (x : List ℕ) (o off n : ℕ) (R : ZeroRoom s x o off n) where
  abbrev P : Span
  P = span_of 4096 off n

  -- whole pages uncovered, with any pool
  abbrev Uncovered : Store → ℕ → ℕ → Store → Type 0
  Uncovered a q m b = (y : List ℕ) → Inside a y → Reranged a y (uncover o q m (work_of a y)) (line o q) b

  sum : P.head + P.whole * 4096 + P.tail ≡ n
  sum = span_sum 4096 off n (omega arith)

  -- ALL STEPS, over a span: what each part asks for, once those before it are done, and that the work is the book's in the end
  abbrev AllSteps : Span → Type 0
  AllSteps Q =
      (Inside s x × (off + Q.head ≤ 1073741824) × (off % 4096 + Q.head ≤ 4096) × (0 < Q.head → Spared s x o (off / 4096)))
      × ((a : Store) (y : List ℕ) → Cleared s x o off Q.head a y
      → (Inside a (zeros a) × ((off + Q.head) / 4096 + Q.whole ≤ 262144) × (a.count + min 1 Q.whole ≤ 512))
      × ((b : Store) → Uncovered a ((off + Q.head) / 4096) Q.whole b
      → (Inside b y × (off + Q.head + Q.whole * 4096 + Q.tail ≤ 1073741824) × ((off + Q.head + Q.whole * 4096) % 4096 + Q.tail ≤ 4096)
      × (0 < Q.tail → Spared b y o ((off + Q.head + Q.whole * 4096) / 4096)))
      × ((t : Store) (z : List ℕ) → Cleared b y o (off + Q.head + Q.whole * 4096) Q.tail t z → Worked s x (zeroing o off n (work_of s x)) t z)))

  -- the offset of the tail, by its two names
  tail_at_lem : off + P.head + P.whole * 4096 ≡ off + tail_at 4096 P
  tail_at_lem = omega arith

  all_steps : AllSteps P
  all_steps = (
    (R.inside, omega (arith, sum, R.ends), head_fits 4096 off n (omega arith), zero_head s x R.inside o off n R.ends R.frames R.slots),
    λ a y C.
        let A = clear_part s a x y o off P.head (line o (off / 4096)) R.inside (omega (arith, sum, R.ends)) (λ k. le_refl _) C in (
          (inside_zeros a y A.inside, whole_in 4096 off n (omega arith) 262144 (omega (arith, R.ends)), zero_middle s x R.inside o off n R.ends R.frames R.slots a y A.work A.inside),
          λ b U.
              let B = U y A.inside in
              let w : work_of b y ≡ uncover o ((off + P.head) / 4096) P.whole (clear o off P.head (work_of s x)) = B.work ∙ ap (uncover o ((off + P.head) / 4096) P.whole) A.work in (
                (
                  B.inside,
                  omega (arith, sum, R.ends),
                  rw tail_at_lem (tail_fits 4096 off n (omega arith)),
                  rw tail_at_lem (zero_tail s x R.inside o off n R.ends R.frames R.slots b y w B.inside),
                ),
                λ t z D. record { first = line o (off / 4096); past = _; part = zero_part o off n s a b t x y z R.inside R.ends C B (rw tail_at_lem at D) },
              ),
        ),
  )

  pub zero_steps : (Q : Span) → P ≡ Q → AllSteps Q
  zero_steps Q e = subst AllSteps e all_steps

-- ---- copying at equal places

module _ (s : Store) (x : List ℕ) (src xo o yo n : ℕ) (R : EqualRoom s x src xo o yo n) where
  abbrev S : Span
  S = span_of 4096 xo n

  -- whole pages shared, with any pool
  abbrev Shared : Store → ℕ → ℕ → ℕ → Store → Type 0
  Shared a p q m b = (y : List ℕ) → Inside a y → Reranged a y (sharing src p o q m (work_of a y)) (line o q) b

  -- a write of bytes of the source
  abbrev Copied : Store → List ℕ → ℕ → ℕ → ℕ → Store → List ℕ → Type 0
  Copied a y i j m b z = Written a y o j (reading src i m (work_of a y)) b z × Elsewhere o (work_of a y) (work_of b z)

  abbrev CopySteps : Span → Type 0
  CopySteps Q =
      (Room s x o yo Q.head × (src ≡ o → ⊥) × (xo + Q.head ≤ 1073741824))
      × ((a : Store) (y : List ℕ) → Copied s x xo yo Q.head a y
      → (Inside a (zeros a) × (src ≡ o → ⊥) × ((xo + Q.head) / 4096 + Q.whole ≤ 262144) × ((yo + Q.head) / 4096 + Q.whole ≤ 262144)
      × (a.count + 2 * met src ((xo + Q.head) / 4096) Q.whole (work_of a (zeros a)) ≤ 512))
      × ((b : Store) → Shared a ((xo + Q.head) / 4096) ((yo + Q.head) / 4096) Q.whole b
      → (Room b y o (yo + (Q.head + Q.whole * 4096)) Q.tail × (src ≡ o → ⊥) × (xo + (Q.head + Q.whole * 4096) + Q.tail ≤ 1073741824))
      × ((t : Store) (z : List ℕ) → Copied b y (xo + (Q.head + Q.whole * 4096)) (yo + (Q.head + Q.whole * 4096)) Q.tail t z
      → Worked s x (copy_equal src xo o yo n (work_of s x)) t z)))

  -- what whole pages meet does not depend on the pool
  met_any : (a : Store) (y z : List ℕ) (p m : ℕ) → met src p m (work_of a y) ≡ met src p m (work_of a z)
  unfolding met work_of
  met_any a y z p m = refl

  copy_all : CopySteps S
  copy_all =
      let I = R.inside in
      let sum = span_sum 4096 xo n (omega arith) in
      let same : S ≡ span_of 4096 yo n = span_same 4096 xo yo n R.even in (
        (equal_head s x I src xo o yo n R.begins R.ends R.other R.even R.frames R.slots, R.other, omega (arith, sum, R.begins)),
        λ a y A. (
          (
            inside_zeros a y A.0.inside,
            R.other,
            whole_in 4096 xo n (omega arith) 262144 (omega (arith, R.begins)),
            rw same (whole_in 4096 yo n (omega arith) 262144 (omega (arith, R.ends))),
            omega (
              arith,
              met_any a (zeros a) y ((xo + S.head) / 4096) S.whole,
              equal_middle s x I src xo o yo n R.begins R.ends R.other R.even R.frames R.slots a y A.0.work A.0.inside,
            ),
          ),
          λ b U.
              let B = U y A.0.inside in
              let w = B.work ∙ ap (λ m. sharing src ((xo + S.head) / 4096) o ((yo + S.head) / 4096) S.whole m) A.0.work in (
                (equal_tail s x I src xo o yo n R.begins R.ends R.other R.even R.frames R.slots b y w B.inside, R.other, omega (arith, sum, R.begins)),
                λ t z D. record {
                  first = line o (yo / 4096);
                  past = _;
                  part = equal_part s x I src xo o yo n R.begins R.ends R.other R.even a b t y z A.0 A.1 B D.0;
                },
              ),
        ),
      )

  pub copy_steps : (Q : Span) → S ≡ Q → CopySteps Q
  copy_steps Q e = subst CopySteps e copy_all

-- the head and the whole pages are part of the span
pub span_few : (x n h w : ℕ) → h ≡ min n ((4096 - x % 4096) % 4096) → w ≡ (n - h) / 4096 → h + w * 4096 ≤ n
span_few x n h w e f = omega (arith, div-add-mod' (n - h) 4096)
