-- The worked cases of nests, computed.
use Rattle.std.specs.Prelude.{refl}
use Rattle.wf_model.specs.Plans.{domain_of, field_of, item_of, begin_of, children}
use Rattle.wf_model.specs.Grids.{grid_from, listed}
use Rattle.wf_model.specs.Changes.{changed, spots, nothing, table_change, in_region}
use Rattle.wf_model.specs.Nests.{bilin, mean, offset, between_points, behind}
use Rattle.wf_model.specs.Script.{step_of, script_of}
use Rattle.wf_model.specs.Outcome.{begin_grids, change_of, grids_after, grids_at}
use Rattle.wf_model.specs.Streams.{stream_levels}
use Rattle.wf_model.specs.Reads.{margin_of}
use Rattle.wf_model.specs.Patches.{own_box, memory_box, owner_of, cells_in, is_own, is_place, is_in_domain, region_holds, computes}
use Rattle.wf_model.specs.Shapes.{halo_holds, fetched_cells, in_halo_box}
use Rattle.wf_model.specs.Exchange.{carried}
use Rattle.wf_model.specs.PatchEffect.{after_setting, least_failure}
use Rattle.wf_model.specs.Halves.{halves_of}
use Rattle.wf_model.specs.Core.{begin_state}
use Rattle.wf_model.specs.Lockstep.{lockstep_at}
use Rattle.wf_cases.specs.NestCases.{NestRounding, NestScript, NestStart}

pub nest_rounding : NestRounding
unfolding bilin mean offset
nest_rounding = record { mean_of_less = refl; mean_of_minus_five = refl; mean_of_four = refl; mean_of_five = refl; west = refl; middle = refl; east = refl; offsets = refl }

pub nest_script : NestScript
unfolding script_of step_of children domain_of begin_of
nest_script = record { from_the_start = refl; after_a_restart = refl }

pub nest_start : NestStart
unfolding grids_at begin_grids grids_after change_of changed table_change nothing grid_from domain_of field_of item_of begin_of script_of step_of children listed offset between_points bilin mean behind lockstep_at begin_state halves_of stream_levels own_box memory_box owner_of cells_in margin_of halo_holds fetched_cells carried after_setting least_failure spots is_own is_place is_in_domain region_holds computes in_halo_box in_region
nest_start = record { grid = refl; last_patch = refl }
