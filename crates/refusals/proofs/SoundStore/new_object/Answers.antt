-- `SoundStore::new_object` meets its contract: the rows that apply, in their order; row 1 does not.
use Rattle.std.proofs.Common.{rules, sym, ◌∙◌, le-ltb, lt-ltb}
use Rattle.store.specs.Live.{live_at}
use Rattle.store.specs.Iff.{sound_says}
use Rattle.refusals.specs.Refuse.{applies, passes, new_number, none_left, row_one}
use Rattle.refusals.proofs.SoundStore.new_object.Goals as goal

pub returns-then-object-gt31 : goal.returns-then-object-gt31
returns-then-object-gt31 c =
    let s = c.args.self.now.store.now in
    new_number s _ c.args.object (passes (row_one s (sound_says c.args.self.now.store.now c.args.self.now.sound)) (applies (lt-ltb 31 c.args.object c.if-object-gt31.true)))

pub returns-then-is_live : goal.returns-then-is_live
returns-then-is_live c =
    let s = c.args.self.now.store.now in
    let q = live_at s.live c.args.object (search rules) ∙ sym c.is_live.ensures ∙ c.if-is_live.true in
    new_number s _ c.args.object (passes (row_one s (sound_says c.args.self.now.store.now c.args.self.now.sound)) (passes (le-ltb 31 c.args.object c.if-object-gt31.false) (applies q)))

pub returns : goal.returns
returns c =
    let s = c.args.self.now.store.now in
    let q = live_at s.live c.args.object (search rules) ∙ sym c.is_live.ensures ∙ c.if-is_live.false in
    new_number s _ c.args.object (passes (row_one s (sound_says c.args.self.now.store.now c.args.self.now.sound)) (passes (le-ltb 31 c.args.object c.if-object-gt31.false) (passes q none_left)))
