use Rattle.std.proofs.Common.{ap, ◌∙◌}
use Rattle.wf_model.specs.Letters.{digits_value}
use Rattle.wf_config.proofs.GroupParts.{halo_made}
use Rattle.wf_config.proofs.table_names.add_halo_group.Goals as goal

pub returns : goal.returns
returns c =
    halo_made c.args.levels.now c.args.group.now c.args.made.now.items c.loop-field.made.items c.as_slice-field-items.result.now c.loop-field.field-index c.in_ok-points.points c.radius_of-radius.result c.loop-field-test.false
    (c.as_slice-field-items.ensures.value ∙ c.in_ok-numbers.ensures) (c.in_ok-points.ensures ∙ ap digits_value c.head_of.ensures) c.radius_of-radius.ensures c.loop-field.invariant
