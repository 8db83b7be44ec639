use Rattle.std.proofs.Common.{ℕ, ◌%◌, ap, ◌∙◌, length, arith, rules}
use Rattle.std.proofs.Math.ListN.{length-set}
use Rattle.chains.specs.declared.Chains.{Chains}
use Rattle.window_search.specs.Windows.{chains_next, chains_none}
use Rattle.window_search.proofs.chains_of.Goals as goal

pub loop-i-init : goal.loop-i-init
loop-i-init c =
    let e = c.new-chains.ensures in
    record { heads = rw e.heads (search rules); next = rw e.next (search rules); chained = chains_none _ _ e.heads }

pub loop-i-preserved : goal.loop-i-preserved
loop-i-preserved c =
    let I = c.loop-i.invariant in
    record {
      heads = ap (λ (d : Chains). length d.heads) c.put.ensures ∙ simp length-set I.heads;
      next = ap (λ (d : Chains). length d.next) c.put.ensures ∙ simp length-set I.next;
      chained = chains_next _ _ _ _ _ (c.chain_by.ensures ∙ ap (λ (b : ℕ). b % 1024) c.number.ensures) I.chained I.heads I.next (omega arith) c.put.ensures;
    }
