-- `settle_next` meets its contract: the frame is the highest free one.
use Rattle.std.proofs.Common.{sym, arith}
use Rattle.pages.specs.Any.{zeros}
use Rattle.pages.specs.Settling.{frame_below}
use Rattle.page_steps.proofs.Free.{some_free}
use Rattle.page_steps.proofs.work.settle_next.Goals as goal

pub unreachable-requires : goal.unreachable-requires
unreachable-requires c = some_free c.args.s.now.free c.requires.room.0 c.in_default.ensures

pub settle-requires-clause-room : goal.settle-requires-clause-room
settle-requires-clause-room c =
    let s = c.args.s.now in
    let I = c.requires.lodged.0 in
    let b = frame_below s (zeros s) I c.in-Some.f (sym c.in-Some.ensures) in
    (c.requires.room.1, omega (arith, I.few_frames))
