use Rattle.std.proofs.Common.{length, ap, ◌∙◌, arith, get_or, List}
use Rattle.std.proofs.lemmas.List.{get_or_read}
use Rattle.wf_model.specs.declared.plan.Item.{Item}
use Rattle.wf_model.specs.Plans.{item_of, no_item}
use Rattle.wf_model.proofs.plan.Plan.item.Goals as goal

pub returns : goal.returns
unfolding item_of
returns c =
    get_or_read c.as_slice.result.now c.args.number c.index-as_slice-number.result (omega (arith, ap length c.as_slice.ensures, c.requires)) c.index-as_slice-number.is no_item
    ∙ ap (λ (l : List Item). get_or l c.args.number no_item) c.as_slice.ensures
