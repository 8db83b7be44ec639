use Rattle.std.proofs.Common.{rules, arith, ap, ◌∙◌, ◌++◌, ◌∷◌, [], take_all}
use Rattle.hexadecimal.specs.Hex.{digits_of}
use Rattle.hexadecimal.specs.Loops.{encode_turn}
use Rattle.hexadecimal.proofs.encode.Goals as goal

pub loop-b-init : goal.loop-b-init
unfolding digits_of
loop-b-init g c = record { room = search rules; digits = search rules }

pub push-requires : goal.push-requires
push-requires g c = omega (arith, c.loop-b.invariant.room)

pub push-requires-in-loop-b : goal.push-requires-in-loop-b
push-requires-in-loop-b g c = omega (arith, c.push.ensures.len, c.loop-b.invariant.room)

pub loop-b-preserved : goal.loop-b-preserved
loop-b-preserved g c = record {
  room = omega (arith, c.push-in-loop-b.ensures.len, c.push.ensures.len, c.loop-b.invariant.room);
  digits =
      c.push-in-loop-b.ensures.items
      ∙ ap (λ d. d ++ c.digit-in-loop-b.result ∷ []) c.push.ensures.items
      ∙ encode_turn c.args.bytes.now c.loop-b.digits.items c.loop-b.b-index _ _ (omega arith) c.digit.ensures c.digit-in-loop-b.ensures c.loop-b.invariant.digits;
}

pub returns : goal.returns
returns g c = c.loop-b.invariant.digits ∙ ap digits_of (take_all c.loop-b.b-index c.args.bytes.now (omega arith))
