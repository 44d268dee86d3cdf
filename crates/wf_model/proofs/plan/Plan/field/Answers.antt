use Rattle.std.proofs.Common.{length, ap, ◌∙◌, arith, get_or, List}
use Rattle.std.proofs.lemmas.List.{get_or_read}
use Rattle.wf_model.specs.declared.plan.Field.{Field}
use Rattle.wf_model.specs.Plans.{field_of, no_field}
use Rattle.wf_model.proofs.plan.Plan.field.Goals as goal

pub returns : goal.returns
unfolding field_of
returns c =
    get_or_read c.as_slice.result.now c.args.number c.index-as_slice-number.result (omega (arith, ap length c.as_slice.ensures, c.requires)) c.index-as_slice-number.is no_field
    ∙ ap (λ (l : List Field). get_or l c.args.number no_field) c.as_slice.ensures
