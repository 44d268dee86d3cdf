-- The worked cases of whole runs, computed.
use Rattle.std.specs.Prelude.{◌≡◌, refl, Some, ℤ, pos, negsuc, ◌+ℤ◌}
use Rattle.wf_model.specs.declared.expr.Expr.{fold-roll-Expr}
use Rattle.wf_model.specs.declared.expr.Args.{fold-roll-Args}
use Rattle.wf_model.specs.declared.expr.Args.TheOpen as e
use Rattle.wf_model.specs.Numbers.{of_both, in_i64}
use Rattle.wf_model.specs.Value.{Sight, Answers, number_of}
use Rattle.wf_model.specs.Plans.{domain_of, field_of, item_of, begin_of, children}
use Rattle.wf_model.specs.Grids.{listed, grid_from}
use Rattle.wf_model.specs.Changes.{changed, spots, nothing, table_change, in_region}
use Rattle.wf_model.specs.Script.{step_of, script_of}
use Rattle.wf_model.specs.Outcome.{begin_grids, change_of, overflow_of, grids_after, grids_at}
use Rattle.wf_model.specs.Frames.{frames_of, frames_from, outputs_from}
use Rattle.wf_model.specs.Calendar.{time_text, next_day, days_after}
use Rattle.wf_model.specs.Streams.{stream_levels, file_list}
use Rattle.wf_model.specs.Reads.{margin_of}
use Rattle.wf_model.specs.Patches.{own_box, memory_box, owner_of, cells_in, is_own, is_place, is_in_domain, region_holds, computes}
use Rattle.wf_model.specs.Shapes.{halo_holds, fetched_cells, in_halo_box}
use Rattle.wf_model.specs.Exchange.{carried}
use Rattle.wf_model.specs.PatchEffect.{after_setting, least_failure}
use Rattle.wf_model.specs.Halves.{halves_of}
use Rattle.wf_model.specs.Core.{begin_state}
use Rattle.wf_model.specs.Lockstep.{lockstep, lockstep_at, memory_report}
use Rattle.wf_model.specs.Outcome.{outcome_of, outcome_from}
use Rattle.wf_model.specs.Writes.{record_of, summary_of}
use Rattle.wf_model.specs.Bytes.{header_bytes, slab_bytes}
use Rattle.wf_model.specs.Headers.{file_header, dims_of}
use Rattle.wf_cases.specs.RunCases.{num, read, raised, neighbours, OldValues, BothPatchesOverflow, ExtendedPhase, PeriodicGrid, FarGrid, RunOfNoLength, NestOverflow, FileNames, RelaxHook, StaggeredExtraPoint, StreamWithoutFields}
use Rattle.wf_cases.proofs.DemoCases.{demo_number}

-- the number of a read
read_number : (m : Answers) (s : Sight) (di : ℤ) → number_of m s (read di) ≡ in_i64 (s.read 0 di (pos 0) (pos 0))
unfolding number_of
read_number m s di = simp fold-roll-Expr refl

-- the number of a read and one more
pub raised_number : (m : Answers) (s : Sight) → number_of m s raised ≡ of_both (λ x y. in_i64 (x +ℤ y)) (in_i64 (s.read 0 (pos 0) (pos 0) (pos 0))) (Some (pos 1))
unfolding number_of
raised_number m s = simp fold-roll-Expr refl

-- the number of the sum of both neighbours
neighbours_number : (m : Answers) (s : Sight) → number_of m s neighbours ≡
    of_both (λ x y. in_i64 (x +ℤ y)) (in_i64 (s.read 0 (negsuc 0) (pos 0) (pos 0))) (in_i64 (s.read 0 (pos 1) (pos 0) (pos 0)))
unfolding number_of
neighbours_number m s = simp fold-roll-Expr refl

pub old_values : OldValues
unfolding grids_at begin_grids grids_after change_of changed table_change nothing grid_from domain_of field_of item_of begin_of script_of step_of children listed in_region
old_values = record { grid = simp neighbours_number refl }

pub both_patches_overflow : BothPatchesOverflow
unfolding number_of begin_grids change_of changed table_change nothing grid_from domain_of field_of item_of begin_of overflow_of spots in_region
both_patches_overflow = record { point = simp fold-roll-Expr refl }

pub extended_phase : ExtendedPhase
unfolding grids_at begin_grids grids_after change_of changed table_change nothing grid_from domain_of field_of item_of begin_of script_of step_of children listed in_region
extended_phase = record { a = simp demo_number refl; b = simp (demo_number, neighbours_number) refl }

pub periodic_grid : PeriodicGrid
unfolding grids_at begin_grids grids_after change_of changed table_change nothing grid_from domain_of field_of item_of begin_of script_of step_of children listed in_region
periodic_grid = record { a = simp read_number refl }

pub far_grid : FarGrid
unfolding grids_at begin_grids grids_after change_of changed table_change nothing grid_from domain_of field_of item_of begin_of script_of step_of children listed in_region
far_grid = record { b = simp (read_number, raised_number) refl }

pub run_of_no_length : RunOfNoLength
unfolding frames_of frames_from outputs_from script_of step_of children domain_of begin_of field_of time_text days_after next_day
run_of_no_length = record { frames = refl }

pub nest_overflow : NestOverflow
unfolding number_of begin_grids change_of changed table_change nothing grid_from domain_of field_of item_of begin_of overflow_of spots in_region
nest_overflow = record { nest = simp fold-roll-Expr refl }

pub file_names : FileNames
file_names = record { history = refl; auxiliary = refl; restart = refl }

pub relax_hook : RelaxHook
unfolding number_of grids_at begin_grids grids_after change_of changed table_change nothing grid_from domain_of field_of item_of begin_of script_of step_of children listed in_region
relax_hook = record { grid = simp (fold-roll-Expr, fold-roll-Args) refl }

pub staggered_extra_point : StaggeredExtraPoint
unfolding memory_report lockstep lockstep_at begin_state begin_grids grid_from listed halves_of script_of step_of children domain_of begin_of field_of item_of stream_levels own_box memory_box owner_of cells_in margin_of halo_holds fetched_cells carried after_setting least_failure is_own is_place is_in_domain region_holds computes in_halo_box frames_of frames_from outputs_from time_text days_after next_day outcome_of outcome_from overflow_of change_of nothing spots in_region grids_at grids_after changed file_list record_of summary_of slab_bytes
staggered_extra_point = record { memories = refl; summary = refl }

pub stream_without_fields : StreamWithoutFields
unfolding header_bytes file_header dims_of stream_levels domain_of field_of
stream_without_fields = record { header = refl; whole_file = refl }
