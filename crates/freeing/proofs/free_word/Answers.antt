use Rattle.std.proofs.Common.{◌≡◌, length, arith}
use Rattle.freeing.specs.Words.{word_next, word_none}
use Rattle.freeing.proofs.free_word.Goals as goal

pub loop-k-init : goal.loop-k-init
loop-k-init c = word_none c.args.places.now

pub loop-k-preserved : goal.loop-k-preserved
loop-k-preserved c =
    let l = c.loop-k in
    rw c.from.ensures (word_next c.args.places.now l.k l.word _ (omega (arith, c.requires, c.loop-k-test.true)) c.is_free.ensures l.invariant)

pub returns : goal.returns
returns c =
    let l = c.loop-k in
    let e : l.k ≡ length c.args.places.now = omega arith in
    rw e at l.invariant
