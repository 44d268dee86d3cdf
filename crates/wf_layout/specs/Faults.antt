-- The tests of a layout in two parts: of its patches, and of what they come to.
use Rattle.std.specs.Prelude.{nat_lt, List, [], ◌∷◌, flat_map, Option}
use Rattle.wf_model.specs.declared.plan.Plan.{Plan}
use Rattle.wf_model.specs.declared.layout.Layout.{Layout}
use Rattle.wf_model.specs.declared.plan_fault.LayoutFault.{LayoutFault}
use Rattle.wf_model.specs.declared.plan_fault.LayoutFault.TheVariants.{TooManyTiles, TooManyCells}
use Rattle.wf_model.specs.declared.plan_fault.LayoutFault.TheVariants.{TooManyEvents}
use Rattle.wf_model.specs.Reading.{fault_if}
use Rattle.wf_model.specs.Plans.{domains_of}
use Rattle.wf_model.specs.Patches.{split_of}
use Rattle.wf_model.specs.Counts.{memory_cells, all_events}
use Rattle.wf_model.specs.PlanOf.{patches_faults}

-- of the patches of all domains
abbrev pub all_patches_faults : Plan → Layout → List (Option LayoutFault)
all_patches_faults plan l = flat_map (patches_faults plan l) (domains_of plan)

-- more than 64 tiles
abbrev pub tiles_limit : Layout → Option LayoutFault
tiles_limit l = fault_if (nat_lt 64 l.tiles) (TooManyTiles l.tiles)

-- more than 150,000,000 cells
abbrev pub cells_limit : Plan → Layout → Option LayoutFault
cells_limit plan l = fault_if (nat_lt 150000000 (memory_cells plan (split_of l)))
    (TooManyCells (memory_cells plan (split_of l)))

-- more than 20,000,000 events
abbrev pub events_limit : Plan → Layout → Option LayoutFault
events_limit plan l = fault_if (nat_lt 20000000 (all_events plan (split_of l)))
    (TooManyEvents (all_events plan (split_of l)))

abbrev pub size_faults : Plan → Layout → List (Option LayoutFault)
size_faults plan l = tiles_limit l ∷ cells_limit plan l ∷ events_limit plan l ∷ []
