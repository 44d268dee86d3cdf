-- Limits whose tests pass are kept.
use Rattle.std.proofs.Common.{◌≡◌, ℕ, ◌≤◌, ◌∷◌, ◌++◌, length, map, None, arith}
use Rattle.std.specs.Prelude.{pos, nat_lt, flat_map}
use Rattle.std.specs.List.{range_with_len}
use Rattle.std.proofs.lemmas.Bool.{ltb-false}
use Rattle.wf_model.specs.declared.plan.Plan.{Plan}
use Rattle.wf_model.specs.declared.plan_fault.PlanFault.TheVariants.{Limit}
use Rattle.wf_model.specs.declared.plan_fault.Which.TheVariants as which
use Rattle.wf_model.specs.Reading.{fault_if, first_fault}
use Rattle.wf_model.specs.Plans.{domains_of}
use Rattle.wf_model.specs.Sizes.{most_bytes}
use Rattle.wf_model.specs.Counts.{all_cells, script_items, stream_bytes}
use Rattle.wf_model.specs.PlanTests.{Faults, extent_fault, file_fault}
use Rattle.wf_model.specs.Sound.{FilesFit}
use Rattle.wf_registry_laws.proofs.Tests.{or_none, if_fails}
use Rattle.wf_plan_laws.specs.PartLaws.{LimitsAreKept}
use Rattle.wf_plan_laws.proofs.Passed.{both_pass, each_passes, each_list_passes, in_range}

at_most : {F : Type 0} (most n : ℕ) (f : F) → fault_if (nat_lt most n) f ≡ None → n ≤ most
at_most most n f e = ltb-false most n (if_fails (nat_lt most n) f e)

-- the tests of the files of a domain
abbrev files_of : Plan → ℕ → Faults
files_of plan d = map (file_fault plan d) (range_with_len 0 11)

files_fit : (plan : Plan) → first_fault (flat_map (files_of plan) (domains_of plan)) ≡ None → FilesFit plan
files_fit plan e d stream is few =
    let of_domain = in_range (λ n. first_fault (files_of plan n) ≡ None) 1 (length plan.domains) (each_list_passes (files_of plan) (domains_of plan) e) d is.0 (omega (arith, is.1)) in
    let of_stream = in_range (λ s. file_fault plan d s ≡ None) 0 11 (each_passes (file_fault plan d) (range_with_len 0 11) of_domain) stream (omega arith) (omega (arith, few)) in
    at_most (most_bytes plan.version) (stream_bytes plan d stream) (Limit which.FileBytes (pos (stream_bytes plan d stream))) of_stream

pub limits_are_kept : LimitsAreKept
limits_are_kept plan zs e =
    let levels = fault_if (nat_lt 64 (length plan.fields)) (Limit which.Levels (pos (length plan.fields))) in
    let cells = fault_if (nat_lt 50000000 (all_cells plan)) (Limit which.Cells (pos (all_cells plan))) in
    let script = fault_if (nat_lt 1000000 (script_items plan)) (Limit which.Script (pos (script_items plan))) in
    let files = flat_map (files_of plan) (domains_of plan) in
    let one = or_none levels (map extent_fault zs ++ (cells ∷ script ∷ files)) e in
    let two = both_pass (map extent_fault zs) (cells ∷ script ∷ files) one.1 in
    let three = or_none cells (script ∷ files) two.1 in
    let four = or_none script files three.1 in
    record {
      levels = at_most 64 (length plan.fields) (Limit which.Levels (pos (length plan.fields))) one.0;
      extents = two.0;
      cells = at_most 50000000 (all_cells plan) (Limit which.Cells (pos (all_cells plan))) three.0;
      script = at_most 1000000 (script_items plan) (Limit which.Script (pos (script_items plan))) four.0;
      files = files_fit plan four.1;
    }
