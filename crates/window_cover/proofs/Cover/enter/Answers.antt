use Rattle.window_cover.specs.Intervals.{entered_one, entered_two, filed_marked}
use Rattle.window_cover.proofs.Cover.enter.Goals as goal

pub returns-then-low-high : goal.returns-then-low-high
returns-then-low-high c = λ chain F.
    let P = c.put.ensures.put chain (filed_marked chain c.args.self.now c.mark.new.self c.size-size.result F c.size-size.ensures.0 c.mark.ensures) in
    entered_two chain c.args.self.now c.mark.new.self c.size-size.result F c.size-size.ensures.0 c.mark.ensures c.put.new.self c.args.interval c.chain_of.result c.chain_of.ensures P
    c.size-size.ensures.1 c.put-then-low-high.new.self c.chain_of-then-low-high.result c.chain_of-then-low-high.ensures (c.put-then-low-high.ensures.put P.chains P.filed)

pub returns-else-low-high : goal.returns-else-low-high
returns-else-low-high c = λ chain F.
    let P = c.put.ensures.put chain (filed_marked chain c.args.self.now c.mark.new.self c.size-size.result F c.size-size.ensures.0 c.mark.ensures) in
    entered_one chain c.args.self.now c.mark.new.self c.size-size.result F c.size-size.ensures.0 c.mark.ensures c.put.new.self c.args.interval c.chain_of.result c.chain_of.ensures P
    c.if-low-high.false
