-- The tests of limits in two parts: what a plan is, and what its run writes.
use Rattle.std.specs.Prelude.{ℕ, Option, List, [], ◌∷◌, ◌++◌, length, map, flat_map, nat_lt, ℤ, pos}
use Rattle.std.specs.List.{range_with_len}
use Rattle.wf_model.specs.declared.plan.Plan.{Plan}
use Rattle.wf_model.specs.declared.plan_fault.PlanFault.{PlanFault}
use Rattle.wf_model.specs.declared.plan_fault.PlanFault.TheVariants.{Limit}
use Rattle.wf_model.specs.declared.plan_fault.Which.TheVariants as which
use Rattle.wf_model.specs.Reading.{fault_if}
use Rattle.wf_model.specs.Plans.{domains_of}
use Rattle.wf_model.specs.Counts.{all_cells, script_items}
use Rattle.wf_model.specs.PlanTests.{Faults, extent_fault, file_fault}

-- more than 64 levels
abbrev pub levels_limit : Plan → Option PlanFault
levels_limit plan =
    fault_if (nat_lt 64 (length plan.fields)) (Limit which.Levels (pos (length plan.fields)))

-- more than 50,000,000 cells
abbrev pub cells_limit : Plan → Option PlanFault
cells_limit plan =
    fault_if (nat_lt 50000000 (all_cells plan)) (Limit which.Cells (pos (all_cells plan)))

-- more than 1,000,000 items of the script
abbrev pub script_limit : Plan → Option PlanFault
script_limit plan =
    fault_if (nat_lt 1000000 (script_items plan)) (Limit which.Script (pos (script_items plan)))

-- the bytes of the files of all streams of a domain
abbrev pub files_of : Plan → ℕ → Faults
files_of plan d = map (file_fault plan d) (range_with_len 0 11)

-- levels, extents and cells
abbrev pub size_faults : Plan → List ℤ → Faults
size_faults plan zs = levels_limit plan ∷ map extent_fault zs ++ cells_limit plan ∷ []

-- items of the script, and bytes of files
abbrev pub run_faults : Plan → Faults
run_faults plan = script_limit plan ∷ flat_map (files_of plan) (domains_of plan)
