-- The worked cases of events, computed.
use Rattle.std.specs.Prelude.{refl}
use Rattle.wf_model.specs.Plans.{domain_of, field_of, item_of, begin_of, children}
use Rattle.wf_model.specs.Grids.{grid_from}
use Rattle.wf_model.specs.Grids.{listed}
use Rattle.wf_model.specs.Changes.{spots, in_region}
use Rattle.wf_model.specs.Script.{step_of, script_of}
use Rattle.wf_model.specs.Outcome.{begin_grids}
use Rattle.wf_model.specs.Streams.{stream_levels}
use Rattle.wf_model.specs.Calendar.{next_day, days_after, time_text}
use Rattle.wf_model.specs.Frames.{frames_of, frames_from, outputs_from}
use Rattle.wf_model.specs.Reads.{margin_of}
use Rattle.wf_model.specs.Patches.{own_box, memory_box, owner_of, cells_in, is_own, is_place, is_in_domain, region_holds, computes}
use Rattle.wf_model.specs.Shapes.{halo_holds, fetched_cells, in_halo_box}
use Rattle.wf_model.specs.Exchange.{carried}
use Rattle.wf_model.specs.PatchEffect.{after_setting, least_failure}
use Rattle.wf_model.specs.Halves.{halves_of}
use Rattle.wf_model.specs.Core.{begin_state}
use Rattle.wf_model.specs.Replay.{is_enabled, state_after_event, replay_from, replay}
use Rattle.wf_model.specs.Lockstep.{lockstep, lockstep_at, memory_report}
use Rattle.wf_cases.specs.EventCases.{EventsInOrder, HaloMemories}

pub events_in_order : EventsInOrder
unfolding replay replay_from is_enabled state_after_event begin_state begin_grids grid_from listed halves_of script_of step_of children domain_of begin_of field_of item_of stream_levels own_box memory_box owner_of cells_in margin_of halo_holds fetched_cells carried after_setting least_failure spots frames_of frames_from outputs_from time_text days_after next_day is_own is_place is_in_domain region_holds computes in_halo_box in_region
events_in_order = record { one_patch = refl; written_too_early = refl; runs_ahead = refl; must_wait = refl }

pub halo_memories : HaloMemories
unfolding memory_report lockstep lockstep_at begin_state begin_grids grid_from listed halves_of script_of step_of children domain_of begin_of field_of item_of stream_levels own_box memory_box owner_of cells_in margin_of halo_holds fetched_cells carried after_setting least_failure spots frames_of frames_from outputs_from time_text days_after next_day is_own is_place is_in_domain region_holds computes in_halo_box in_region
halo_memories = record { sums = refl }
