-- What the halves of a patch read and set lies in its memory: for a sound plan on a sound layout,
-- with no run and no halo check.
use Rattle.std.specs.Prelude.{ℕ, ◌<◌, ◌≡◌, ℤ, pos, length, IsTrue}
use Rattle.std.specs.List.{Contains}
use Rattle.wf_model.specs.declared.layout.Layout.{Layout}
use Rattle.wf_model.specs.declared.plan.Plan.{Plan}
use Rattle.wf_model.specs.declared.plan.Phase.{Phase}
use Rattle.wf_model.specs.declared.plan.Item.{Item}
use Rattle.wf_model.specs.declared.plan.Item.TheVariants as item
use Rattle.wf_model.specs.declared.script.Act.TheVariants.{Table}
use Rattle.wf_model.specs.declared.script.Entry.{Entry}
use Rattle.wf_model.specs.Plans.{domain_of, point_x, point_y}
use Rattle.wf_model.specs.Reads.{Read, reads_of}
use Rattle.wf_model.specs.Outcome.{RunData}
use Rattle.wf_model.specs.Patches.{Split, Cell, split_of, computes}
use Rattle.wf_model.specs.Shapes.{fetched_cells}
use Rattle.wf_model.specs.Exchange.{sender_of, carried}
use Rattle.wf_model.specs.PatchEffect.{Memory, Mail, start_setting, force_setting, feedback_setting}
use Rattle.wf_model.specs.Sound.{IsDomain, IsLevel, IsSoundLayout}
use Rattle.wf_model.specs.Agreement.{IsPatch, IsOwnCell}
use Rattle.wf_model.specs.Kept.{IsSoundPatch, IsKeptCell, IsKeptPlace}
use Rattle.wf_laws.specs.Patches.{cell_read}

-- each own cell is kept
abbrev pub OwnCellsAreKept : Type 0
OwnCellsAreKept =
    (plan : Plan) (layout : Layout) (d p : ℕ) (c : Cell) → IsSoundPatch plan layout d p →
    IsLevel plan c.field → IsOwnCell plan (split_of layout) d p c →
    IsKeptCell plan (split_of layout) d p c

-- each cell that a phase of the plan sets is kept
abbrev pub PhasesSetKeptCells : Type 0
PhasesSetKeptCells =
    (plan : Plan) (layout : Layout) (d p : ℕ) (ph : Phase) (k : ℕ) (j i : ℤ) →
    IsSoundPatch plan layout d p → Contains plan.items (item.Phase ph) →
    IsTrue (computes plan (split_of layout) d p ph k j i) →
    IsKeptCell plan (split_of layout) d p (record { field = ph.writes; k = k; j = j; i = i })

-- and so is each cell that it reads of one that it sets
abbrev pub PhasesReadKeptCells : Type 0
PhasesReadKeptCells =
    (plan : Plan) (layout : Layout) (d p : ℕ) (ph : Phase) (rd : Read) (k : ℕ) (j i : ℤ) →
    IsSoundPatch plan layout d p → Contains plan.items (item.Phase ph) →
    Contains (reads_of ph.expr) rd →
    IsTrue (computes plan (split_of layout) d p ph k j i) →
    IsKeptCell plan (split_of layout) d p (cell_read plan rd k j i)

-- each cell that a halo or a period of the plan fetches is kept
abbrev pub FetchedCellsAreKept : Type 0
FetchedCellsAreKept =
    (plan : Plan) (layout : Layout) (d p : ℕ) (it : Item) (c : Cell) →
    IsSoundPatch plan layout d p → Contains plan.items it →
    Contains (fetched_cells plan (split_of layout) d it p) c →
    IsKeptCell plan (split_of layout) d p c

-- so a message of an item of the table carries cells that its receiver keeps
abbrev pub MessagesCarryKeptCells : Type 0
MessagesCarryKeptCells =
    (plan : Plan) (layout : Layout) (e : Entry) (n from to : ℕ) (c : Cell) →
    IsSoundPatch plan layout e.domain to → e.act ≡ Table n → n < length plan.items →
    Contains (carried plan (split_of layout) e e.act from to) c →
    IsKeptCell plan (split_of layout) e.domain to c

-- the cell of the point itself that a cell stands for
abbrev pub point_cell : Plan → ℕ → Cell → Cell
point_cell plan d c = record {
  field = c.field;
  k = c.k;
  j = pos (point_y plan d c.field c.j);
  i = pos (point_x plan d c.field c.i);
}

-- each number of a message is that of an own cell of its sender: halos, periods and nest items
abbrev pub SendersReadOwnCells : Type 0
SendersReadOwnCells =
    (plan : Plan) (layout : Layout) (e : Entry) (from to : ℕ) (c : Cell) →
    IsSoundLayout plan layout → IsDomain plan (sender_of plan e e.act) → IsPatch layout from →
    Contains (carried plan (split_of layout) e e.act from to) c → IsOwnCell plan (split_of layout)
    (sender_of plan e e.act) from (point_cell plan (sender_of plan e e.act) c)

-- a start sets places that the nest's patch keeps
abbrev pub StartsSetKeptPlaces : Type 0
StartsSetKeptPlaces =
    (r : RunData) (split : Split) (c p : ℕ) (mail : Mail) (m : Memory) (f k : ℕ) (j i : ℤ) →
    IsTrue ((start_setting r split c p mail m).sets f k j i) →
    IsKeptPlace r.plan split c p f j i

-- and so does a force
abbrev pub ForcesSetKeptPlaces : Type 0
ForcesSetKeptPlaces =
    (r : RunData) (layout : Layout) (c p : ℕ) (mail : Mail) (f k : ℕ) (j i : ℤ) →
    IsSoundPatch r.plan layout c p →
    IsTrue ((force_setting r (split_of layout) c p mail).sets f k j i) →
    IsKeptPlace r.plan (split_of layout) c p f j i

-- a feedback sets places that the parent's patch keeps
abbrev pub FeedbacksSetKeptPlaces : Type 0
FeedbacksSetKeptPlaces =
    (r : RunData) (layout : Layout) (c p : ℕ) (mail : Mail) (f k : ℕ) (j i : ℤ) →
    IsSoundPatch r.plan layout (domain_of r.plan c).parent p →
    IsTrue ((feedback_setting r (split_of layout) c p mail).sets f k j i) →
    IsKeptPlace r.plan (split_of layout) (domain_of r.plan c).parent p f j i
