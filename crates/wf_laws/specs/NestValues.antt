-- What patches make of their mail at a start, a force and a feedback.
use Rattle.std.specs.Prelude.{◌≡◌, ℕ, ◌<◌, length, map, pos, Some, unwrap_or, is_some, IsTrue}
use Rattle.wf_model.specs.declared.layout.Layout.{Layout}
use Rattle.wf_model.specs.declared.script.Act.TheVariants.{Start, Force, Feedback}
use Rattle.wf_model.specs.Plans.{domain_of, field_of, point_x, point_y}
use Rattle.wf_model.specs.Nests.{between_points, behind}
use Rattle.wf_model.specs.Outcome.{RunData, script, entry_at, grids_at}
use Rattle.wf_model.specs.Patches.{Cell, split_of}
use Rattle.wf_model.specs.Exchange.{is_outer_cell, is_fed_cell, cells_behind}
use Rattle.wf_model.specs.PatchEffect.{came, between_cells}
use Rattle.wf_model.specs.Agreement.{IsAccepted, IsUpToOverflow, IsPatch, IsOwnCell, IsMemoryCell}
use Rattle.wf_laws.specs.Stops.{received_at}

-- the nest of a nest item, and its parent
abbrev pub nest_at : RunData → ℕ → ℕ
nest_at r n = (entry_at r n).domain

abbrev pub parent_at : RunData → ℕ → ℕ
parent_at r n = (domain_of r.plan (entry_at r n).domain).parent

-- what a function makes at a nest's cell of the parent's four points that came is what it makes of
-- the grids'
abbrev pub IsBetweenTheGrids : RunData → Layout → ℕ → ℕ → ℕ → Cell → Type 0
IsBetweenTheGrids r layout n p id c =
    between_cells r (nest_at r n) (received_at r layout n p) id c
    ≡ between_points r.plan r.answers (grids_at r n) (nest_at r n) c.field id c.k
    (point_y r.plan (nest_at r n) c.field c.j) (point_x r.plan (nest_at r n) c.field c.i)

-- at a start, at each cell of a nest's patch
abbrev pub StartsComputeTheGridsValues : Type 0
StartsComputeTheGridsValues =
    (r : RunData) (layout : Layout) (n p id : ℕ) (c : Cell) → IsAccepted r layout →
    IsUpToOverflow r n → n < length (script r) → IsPatch layout p → (entry_at r n).act ≡ Start →
    IsMemoryCell r.plan (split_of layout) (nest_at r n) p c →
    (field_of r.plan c.field).down ≡ Some id → IsBetweenTheGrids r layout n p id c

-- at a force, at each outer own cell
abbrev pub ForcesComputeTheGridsValues : Type 0
ForcesComputeTheGridsValues =
    (r : RunData) (layout : Layout) (n p id : ℕ) (c : Cell) → IsAccepted r layout →
    IsUpToOverflow r n → n < length (script r) → IsPatch layout p → (entry_at r n).act ≡ Force →
    IsOwnCell r.plan (split_of layout) (nest_at r n) p c →
    IsTrue (is_outer_cell r.plan (nest_at r n) c) → (field_of r.plan c.field).edge ≡ Some id →
    IsBetweenTheGrids r layout n p id c

-- at a feedback, at each own cell of the parent that is fed: the nest's numbers that came are
-- the grids'
abbrev pub FeedbacksTakeTheGridsNumbers : Type 0
FeedbacksTakeTheGridsNumbers =
    (r : RunData) (layout : Layout) (n p : ℕ) (c : Cell) → IsAccepted r layout →
    IsUpToOverflow r n → n < length (script r) → IsPatch layout p →
    (entry_at r n).act ≡ Feedback →
    IsOwnCell r.plan (split_of layout) (parent_at r n) p c →
    IsTrue (is_fed_cell r.plan (nest_at r n) c) →
    IsTrue (is_some (field_of r.plan c.field).up) →
    map (λ x. unwrap_or (came (received_at r layout n p) x) (pos 0))
    (cells_behind r.plan (nest_at r n) c)
    ≡ behind r.plan (grids_at r n) (nest_at r n) c.field c.k
    (point_y r.plan (parent_at r n) c.field c.j) (point_x r.plan (parent_at r n) c.field c.i)
