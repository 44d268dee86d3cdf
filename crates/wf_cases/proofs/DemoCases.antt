-- The demo on 3 by 3 points, computed.
use Rattle.std.specs.Prelude.{◌≡◌, refl, pos, negsuc, Some, ◌+ℤ◌, ◌*ℤ◌}
use Rattle.std.specs.Int.{int_div_euclid}
use Rattle.wf_model.specs.declared.expr.Expr.{fold-roll-Expr}
use Rattle.wf_model.specs.Numbers.{and_then, of_both, in_i64}
use Rattle.wf_model.specs.Value.{Sight, Answers, number_of}
use Rattle.wf_model.specs.Plans.{domain_of, field_of, item_of, begin_of, children}
use Rattle.wf_model.specs.Grids.{listed, grid_from}
use Rattle.wf_model.specs.Changes.{changed, spots, nothing, table_change, in_region}
use Rattle.wf_model.specs.Script.{step_of, script_of}
use Rattle.wf_model.specs.Outcome.{begin_grids, change_of, overflow_of, grids_after, grids_at, outcome_of, outcome_from}
use Rattle.wf_model.specs.Calendar.{next_day, days_after, time_text}
use Rattle.wf_model.specs.Streams.{file_list, stream_levels}
use Rattle.wf_model.specs.Headers.{dims_of, file_header, placed}
use Rattle.wf_model.specs.Bytes.{slab_bytes, header_bytes}
use Rattle.wf_model.specs.Frames.{outputs_from, frames_from, frames_of}
use Rattle.wf_model.specs.Files.{files_after}
use Rattle.wf_model.specs.Writes.{record_of, frame_calls, writes_of, summary_of}
use Rattle.wf_model.specs.DemoCase.{demo_expr}
use Rattle.wf_model.specs.Demo.{demo_of, demo_value}
use Rattle.wf_cases.specs.DemoCases.{DemoOnePatch, DemoInItsOwnWords}

-- the number of the demo's expression, where it is seen
pub demo_number : (m : Answers) (s : Sight) → number_of m s demo_expr ≡
    and_then (of_both (λ x y. in_i64 (x +ℤ y)) (of_both (λ x y. in_i64 (x +ℤ y)) (of_both (λ x y. in_i64 (x +ℤ y)) (of_both (λ x y. in_i64 (x +ℤ y))
    (of_both (λ x y. in_i64 (x *ℤ y)) (Some (pos 4)) (in_i64 (s.read 0 (pos 0) (pos 0) (pos 0)))) (in_i64 (s.read 0 (negsuc 0) (pos 0) (pos 0))))
    (in_i64 (s.read 0 (pos 1) (pos 0) (pos 0)))) (in_i64 (s.read 0 (pos 0) (pos 0) (negsuc 0)))) (in_i64 (s.read 0 (pos 0) (pos 0) (pos 1))))
    (λ x. in_i64 (int_div_euclid x (pos 8)))
unfolding number_of
demo_number m s = simp fold-roll-Expr refl

pub demo_one_patch : DemoOnePatch
unfolding grids_at begin_grids grids_after change_of changed table_change nothing grid_from domain_of field_of item_of begin_of script_of step_of children listed in_region header_bytes placed file_header dims_of stream_levels overflow_of outcome_of outcome_from spots frames_of frames_from outputs_from time_text days_after next_day file_list record_of frame_calls writes_of summary_of slab_bytes files_after
demo_one_patch = record {
  grid = simp demo_number refl;
  header = refl;
  calls = simp demo_number refl;
  whole_file = simp demo_number refl;
  summary = simp demo_number refl;
  file_size = refl;
}

pub demo_in_its_own_words : DemoInItsOwnWords
unfolding demo_of demo_value time_text days_after next_day listed slab_bytes
demo_in_its_own_words = record { words = refl; too_few_words = refl; leading_zero = refl; out_of_range = refl; summary = refl; one_patch = refl; three_patches = refl }
