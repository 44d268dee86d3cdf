use Rattle.std.proofs.Common.{◌∙◌}
use Rattle.wf_model.specs.Plans.{field_of}
use Rattle.wf_stream.proofs.LevelLemmas.{level_given, size_given}
use Rattle.wf_stream.proofs.levels.read_level.Goals as goal

pub own_points-requires-clause-size : goal.own_points-requires-clause-size
own_points-requires-clause-size c =
    size_given c.domain_of-domain.result.now (field_of c.args.plan.now c.args.level) c.field_of-field.result.now c.extents_of.result.levels c.extents_of.result.file_rows c.extents_of.result.file_columns c.in_ok-values.values.items
    c.field_of-field.ensures c.requires.field c.extents_of.ensures.levels c.extents_of.ensures.file_rows c.extents_of.ensures.file_columns c.in_ok-values.ensures.size

pub returns : goal.returns
returns c =
    c.from_vec.ensures ∙ c.own_points.ensures
    ∙ level_given c.args.plan.now c.args.number c.args.level c.args.bytes.now c.args.header.now
    c.extents_of.result.levels c.extents_of.result.rows c.extents_of.result.columns c.extents_of.result.file_rows c.extents_of.result.file_columns c.in_ok-values.values.items
    c.domain_of-domain.result.now c.field_of-field.result.now c.domain_of-domain.ensures c.field_of-field.ensures
    c.extents_of.ensures.levels c.extents_of.ensures.rows c.extents_of.ensures.columns c.extents_of.ensures.file_rows c.extents_of.ensures.file_columns c.in_ok-values.ensures.value
