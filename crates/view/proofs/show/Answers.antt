use Rattle.std.proofs.Common.{ap, refl, ◌∙◌}
use Rattle.pool.specs.Bytes.{address}
use Rattle.view.specs.View.{begin_of, part_of}
use Rattle.view.specs.Showing.{begin_shown, part_shown}
use Rattle.view.proofs.show.Goals as goal

pub returns : goal.returns
returns c =
    let x = c.args.pool.now in
    let f = c.frame_shown.result in
    let e = c.frame_shown.ensures.book x refl in
    let i = c.frame_shown.ensures.inside in
    let h = c.show_ref.ensures in
    record {
      result_value = h.result_value ∙ part_shown x f i ∙ ap (part_of x) e;
      ref_ptr_value = h.ref_ptr_value ∙ ap (λ k. address c.args.pool.ref_ptr k) (begin_shown x f i ∙ ap begin_of e);
    }
