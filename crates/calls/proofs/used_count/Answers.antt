use Rattle.std.specs.Prelude.{◌≡◌, count_by, not, take}
use Rattle.std.proofs.Common.{sym, ◌∙◌, rules}
use Rattle.places.specs.declared.Place.{Place}
use Rattle.places.specs.Places.{is_vacant}
use Rattle.calls.proofs.Used.{used_counted}
use Rattle.calls.proofs.used_count.Goals as goal

pub returns : goal.returns
returns c =
    let s = c.args.s.now in
    let k : c.count.result ≡ count_by (λ (p : Place). not (is_vacant p)) (take s.frames s.places) = search rules in
    k ∙ sym (used_counted _)
