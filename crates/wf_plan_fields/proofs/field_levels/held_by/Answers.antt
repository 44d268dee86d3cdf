use Rattle.std.proofs.Common.{◌≡◌, map, ap, ◌∙◌}
use Rattle.std.specs.Prelude.{flat_map}
use Rattle.std.specs.List.{list_any}
use Rattle.wf_model.specs.Io.{io_of, parts_of, reads_input, is_restarted, output_streams, last_fed}
use Rattle.wf_model.specs.PlanFields.{function_name, hook_id, stream_bits}
use Rattle.wf_plan_fields.specs.declared.io.Use.TheVariants as use_of
use Rattle.wf_plan_fields.specs.IoParts.{part_of}
use Rattle.wf_plan_fields.specs.LevelFields.{is_for, usual_of}
use Rattle.wf_plan_fields.proofs.IoReads.{any_seen}
use Rattle.wf_plan_fields.proofs.field_levels.held_by.Goals as goal

pub returns : goal.returns
returns c =
    let parts : map part_of c.as_slice-parts.result.now ≡ parts_of (io_of c.args.io.now) = ap (map part_of) c.as_slice-parts.ensures.value ∙ c.in_ok-made.ensures in
    λ i. record {
      input = (c.reads_input.ensures ∙ any_seen reads_input part_of c.as_slice-parts.result.now ∙ ap (list_any reads_input) parts) i;
      restart = (c.has_restart.ensures ∙ any_seen is_restarted part_of c.as_slice-parts.result.now ∙ ap (list_any is_restarted) parts) i;
      streams = (c.in_ok-streams_of.ensures ∙ ap (λ ps. stream_bits (flat_map output_streams ps)) parts) i;
      up = (c.hook_id.ensures ∙ ap (λ ps. hook_id c.args.hooks.now (is_for use_of.Up) (function_name (usual_of use_of.Up) (last_fed 117 ps))) parts) i;
      down = (c.hook_id-2.ensures ∙ ap (λ ps. hook_id c.args.hooks.now (is_for use_of.Down) (function_name (usual_of use_of.Down) (last_fed 100 ps))) parts) i;
      edge = (c.hook_id-3.ensures ∙ ap (λ ps. hook_id c.args.hooks.now (is_for use_of.Edge) (function_name (usual_of use_of.Edge) (last_fed 102 ps))) parts) i;
    }
