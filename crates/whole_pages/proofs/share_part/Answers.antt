-- `share_part` meets its contract.
use Rattle.std.specs.Prelude.{Some}
use Rattle.std.proofs.Common.{subst}
use Rattle.range_table.specs.Edit.{PutIs}
use Rattle.shares.specs.Moved.{IsMoved}
use Rattle.shares.specs.Together.{together_none}
use Rattle.shares.specs.Tidied.{tidied, tidied_one}
use Rattle.whole_pages.specs.Spread.{put_tabled}
use Rattle.whole_pages.proofs.share_part.Goals as goal

pub returns-in-Some : goal.returns-in-Some
returns-in-Some c =
    let a = c.args in
    let s = a.s.now in
    let t = a.stretch in
    let P = c.requires in
    let u = c.put_range.new.s in
    let M : IsMoved t.first t.end t.object t.to.0 a.r (Some c.in-Some.part) = c.in-Some.ensures in
    let T = put_tabled s u _ (subst (λ k. PutIs k s u) M.1 c.put_range.ensures) in
    tidied_one s t.first t.end t.object t.to.0 a.r M.0 (P.sharable.1 M.0).0 u T P.inside P.sharable.0 t.fits

pub returns-in_default : goal.returns-in_default
returns-in_default c =
    let t = c.args.stretch in
    together_none (tidied c.args.s.now) t.first t.end t.object t.to.0 c.args.r c.in_default.ensures
