-- `refusals::needs::free_count` meets its contract: the sum of the words' set bits.
use Rattle.std.specs.Prelude.{◌≡◌, count_ones, sum_by}
use Rattle.std.proofs.Common.{sym, refl, ◌∙◌, rules}
use Rattle.std.proofs.lemmas.List.Recursion.{is_sum_by}
use Rattle.frames.specs.Free.{free_count}
use Rattle.frames.specs.Count.{count_spare}
use Rattle.refusals.proofs.needs.free_count.Goals as goal

pub returns : goal.returns
returns c =
    let ws = c.args.words.now in
    let k : c.sum.result ≡ sum_by count_ones ws = search rules in
    let e : c.sum.result ≡ free_count ws = k ∙ sym (is_sum_by free_count count_ones refl (λ _ _. refl) ws) in
    λ h. record { bits = e; frames = e ∙ count_spare ws h (λ i. (c.type_inv.words i).fits) }
