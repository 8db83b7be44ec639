use Rattle.std.proofs.Common.{arith, ◌∙◌, ◌≡◌, ◌+◌, ap, length, length-append, rules}
use Rattle.std.specs.Slice.Iter.{chunks_rest}
use Rattle.hexadecimal.specs.Hex.{bytes_of}
use Rattle.hexadecimal.specs.Loops.{behind, decode_turn, decode_high, decode_low, decode_odd, decode_end}
use Rattle.hexadecimal.proofs.decode.Goals as goal
use Rattle.hexadecimal.proofs.decode.Goals.{in_default-via-then-pair-lt2, in_default-via-else-pair-lt2+else-pair-lt3}

pub returns-in_default : goal.returns-in_default
returns-in_default c =
    let s = c.in-Some.ensures.steps in
    let n : length c.in-Some.pair.now ≡ 2 → ⊥ =
    λ (e : length c.in-Some.pair.now ≡ 2).
    elim c.in_default.branch [
      | in_default-via-then-pair-lt2 w ↦ search rules
      | in_default-via-else-pair-lt2+else-pair-lt3 w ↦ grind arith
    ] in
    decode_odd c.loop-pair.bytes.items _ _ _ s.1.0 n (rw c.loop-pair.invariant.two at s.1.1) s.1.2 ∙ c.loop-pair.invariant.found

pub returns-in_err-value : goal.returns-in_err-value
returns-in_err-value c =
    rw c.from_residual.ensures
    (decode_high c.loop-pair.bytes.items _ _ _ c.in-Some.ensures.steps.1.0 c.in-len2.len_at_least c.in-len2.len_below c.in_err-value.ensures.value
    ∙ c.loop-pair.invariant.found)

pub returns-in_err-value-2 : goal.returns-in_err-value-2
returns-in_err-value-2 c =
    rw c.from_residual-in_err-value-2.ensures
    (decode_low c.loop-pair.bytes.items _ _ _ c.in-Some.ensures.steps.1.0 c.in-len2.len_at_least c.in-len2.len_below c.in_err-value-2.ensures.value
    ∙ c.loop-pair.invariant.found)

pub loop-pair-preserved : goal.loop-pair-preserved
loop-pair-preserved c =
    let l = c.loop-pair in
    let s = c.in-Some.ensures.steps in
    let n : length (chunks_rest l.pair-iterator) ≡ length c.in-Some.pair.now + length (chunks_rest c.next.new.self) = ap length s.1.0 ∙ length-append _ _ in
    record {
      two = s.0 ∙ l.invariant.two;
      room = omega (arith, c.push.ensures.len);
      found =
          ap (λ x. behind x (bytes_of (chunks_rest c.next.new.self))) c.push.ensures.items
          ∙ decode_turn l.bytes.items _ _ _ s.1.0 c.in-len2.len_at_least c.in-len2.len_below _ _ c.in_ok-value.ensures.value c.in_ok-value-2.ensures.value
          ∙ l.invariant.found;
    }

pub returns : goal.returns
returns c = decode_end _ _ c.in-None.ensures.steps.1.0 ∙ c.loop-pair.invariant.found
