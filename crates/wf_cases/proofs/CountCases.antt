-- The worked cases of what is counted, computed.
use Rattle.std.specs.Prelude.{refl}
use Rattle.wf_model.specs.Plans.{domain_of, field_of, item_of, begin_of, children}
use Rattle.wf_model.specs.Script.{step_of, script_of}
use Rattle.wf_model.specs.Streams.{stream_levels}
use Rattle.wf_model.specs.Headers.{file_header, dims_of}
use Rattle.wf_model.specs.Bytes.{header_bytes}
use Rattle.wf_model.specs.Reads.{margin_of}
use Rattle.wf_model.specs.Patches.{own_box, memory_box}
use Rattle.wf_model.specs.Halves.{halves_of}
use Rattle.wf_model.specs.Counts.{fresh_script}
use Rattle.wf_model.specs.Frames.{frames_of, frames_from, outputs_from}
use Rattle.wf_model.specs.PlanOf.{layout_faults}
use Rattle.wf_model.specs.Weights.{HasDomainsInTime}
use Rattle.wf_count_laws.proofs.InTime.{tested}
use Rattle.wf_cases.specs.CountCases.{three, Counts, ThreeDomains, LayoutRefusals}

pub counts : Counts
unfolding domain_of field_of item_of begin_of children step_of script_of stream_levels file_header dims_of header_bytes margin_of own_box memory_box halves_of fresh_script
counts = record { cells = refl; items = refl; file = refl; events_of_one_patch = refl; events_of_three_patches = refl; memory = refl }

three_in_time : HasDomainsInTime three
unfolding domain_of
three_in_time = (tested three).0 refl

pub three_domains : ThreeDomains
unfolding domain_of field_of item_of begin_of children step_of script_of stream_levels halves_of fresh_script frames_of frames_from outputs_from
three_domains = record {
  in_time = three_in_time;
  items = refl;
  items_of_the_first = refl;
  items_of_the_second = refl;
  items_of_the_third = refl;
  frames = refl;
  frames_of_domains = refl;
  events = refl;
  events_of_the_first = refl;
  events_of_the_second = refl;
  events_of_the_third = refl;
  items_of_restart = refl;
  events_of_restart = refl;
}

pub layout_refusals : LayoutRefusals
unfolding layout_faults domain_of field_of item_of begin_of children step_of script_of stream_levels margin_of own_box memory_box halves_of fresh_script
layout_refusals = record { columns = refl; product = refl; tiles = refl; accepted = refl }
