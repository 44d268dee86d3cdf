-- Where patches agree with grids: how far a run comes, and which cells of a patch hold the
-- grids' numbers.
use Rattle.std.specs.Prelude.{◌≡◌, ℕ, ◌*◌, ◌<◌, ◌≤◌, length, ℤ, pos, IsTrue, IsFalse}
use Rattle.wf_model.specs.declared.layout.Layout.{Layout}
use Rattle.wf_model.specs.declared.plan.Plan.{Plan}
use Rattle.wf_model.specs.Plans.{nz, point_x, point_y}
use Rattle.wf_model.specs.Changes.{Spot}
use Rattle.wf_model.specs.Outcome.{RunData, script, grids_at, outcome_of}
use Rattle.wf_model.specs.Patches.{Split, Cell, in_box, memory_box, is_own}
use Rattle.wf_model.specs.Shapes.{grid_cell}
use Rattle.wf_model.specs.Marks.{Marks, all_fresh, marks_after, is_fresh}
use Rattle.wf_model.specs.Covered.{IsCovered}
use Rattle.wf_model.specs.PatchEffect.{Memory}
use Rattle.wf_model.specs.Lockstep.{lockstep_at}
use Rattle.wf_model.specs.Held.{stands_past}
use Rattle.wf_model.specs.Sound.{IsSoundPlan, IsSoundLayout}
use Rattle.wf_model.specs.Turns.{turns_at}

-- the plan and the layout are sound, and the halo check accepts the plan
pub record IsAccepted (r : RunData) (layout : Layout) : Type 0 where
  pub sound : IsSoundPlan r.plan
  pub laid : IsSoundLayout r.plan layout
  pub covered : IsCovered r.plan

-- a place of the script, or its end, and no place before it overflows
pub record IsUpToOverflow (r : RunData) (n : ℕ) : Type 0 where
  pub within : n ≤ length (script r)
  pub before : IsFalse (stands_past n (outcome_of r))

-- a patch of a layout, by its number from 0
abbrev pub IsPatch : Layout → ℕ → Type 0
IsPatch layout p = p < layout.nproc_x * layout.nproc_y

-- a level number of the cell's field
abbrev pub IsLevelCell : Plan → Cell → Type 0
IsLevelCell plan c = (1 ≤ c.k) × (c.k ≤ nz plan c.field)

-- one of the patch's own points
pub record IsOwnCell (plan : Plan) (split : Split) (d p : ℕ) (c : Cell) : Type 0 where
  pub level : IsLevelCell plan c
  pub own : IsTrue (is_own plan split d p c.field c.j c.i)

-- a cell of the patch's memory
pub record IsMemoryCell (plan : Plan) (split : Split) (d p : ℕ) (c : Cell) : Type 0 where
  pub level : IsLevelCell plan c
  pub within : IsTrue (in_box (memory_box plan split d p c.field) c.j c.i)

-- a patch's memory in the lockstep run, before a place
abbrev pub memory_at : RunData → Layout → ℕ → ℕ → ℕ → Memory
memory_at r layout n d p = ((lockstep_at r layout n).patches d p).memory

abbrev pub cell_number : Memory → Cell → ℤ
cell_number m c = m c.field c.k c.j c.i

-- the cell holds the grids' number of the point that it stands for, before a place
abbrev pub HoldsPoint : RunData → Layout → ℕ → ℕ → ℕ → Cell → Type 0
HoldsPoint r layout n d p c =
    cell_number (memory_at r layout n d p) c ≡ grid_cell r.plan d (grids_at r n) c

-- which cells that are not own are fresh before a place, over all that the domain has done since
-- its start
abbrev pub marks_at : RunData → Split → ℕ → ℕ → ℕ → Marks
marks_at r split n d p = marks_after r.plan split d p (turns_at r d n) all_fresh

-- the cell is own, or marked fresh, before a place
abbrev pub IsFreshAt : RunData → Split → ℕ → ℕ → ℕ → Cell → Type 0
IsFreshAt r split n d p c =
    IsTrue (is_fresh r.plan split d p (marks_at r split n d p) c.field c.k c.j c.i)

-- the point of a domain that a cell stands for
abbrev pub point_of_cell : Plan → ℕ → Cell → Spot
point_of_cell plan d c = record
    { field = c.field; k = c.k; j = point_y plan d c.field c.j; i = point_x plan d c.field c.i }

-- the cell of a point itself
abbrev pub cell_of_point : Spot → Cell
cell_of_point x = record { field = x.field; k = x.k; j = pos x.j; i = pos x.i }
