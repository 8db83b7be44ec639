-- `lines::hold`: what is held is the line's bytes, as many as there is room for (`hold_law`).
use Rattle.std.proofs.Common.{rules, ◌≡◌, ◌++◌, ◌∙◌, take}
use Rattle.lines.specs.Buffers.{hold_law}
use Rattle.lines.proofs.hold.Goals as goal

pub returns : goal.returns
returns g c =
    let d : c.try_extend_from_slice.new.self.items ≡ c.args.held.now.items ++ take c.min-n.result c.args.part.now = search rules in
    d ∙ hold_law _ _ _ _ _ c.remaining_capacity.ensures c.min-n.ensures
