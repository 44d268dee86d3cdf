use Rattle.std.proofs.Common.{sym, ap, ◌∙◌}
use Rattle.std.proofs.lemmas.List.Folds.{flat_map-map}
use Rattle.wf_model.specs.Io.{output_streams}
use Rattle.wf_model.specs.PlanFields.{stream_bits}
use Rattle.wf_plan_fields.specs.IoParts.{part_of}
use Rattle.wf_plan_fields.proofs.streams.streams_of.Goals as goal

pub returns : goal.returns
returns c = c.stream_bits.ensures ∙ ap stream_bits (c.as_slice.ensures.value ∙ c.in_ok-streams.ensures ∙ sym (flat_map-map output_streams part_of c.args.parts.now))
