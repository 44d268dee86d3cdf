-- The messages of halos, periods and nest items: which cells they carry, and which numbers.
use Rattle.std.specs.Prelude.{◌≡◌, ℕ, ◌*◌, ◌<◌, List, [], ℤ, length, map, flat_map, zip, IsTrue}
use Rattle.std.specs.List.{Contains}
use Rattle.wf_model.specs.declared.layout.Layout.{Layout}
use Rattle.wf_model.specs.declared.plan.Plan.{Plan}
use Rattle.wf_model.specs.declared.script.Act.{Act}
use Rattle.wf_model.specs.declared.script.Act.TheVariants.{Start, Force, Feedback, Table, Emit}
use Rattle.wf_model.specs.declared.script.Entry.{Entry}
use Rattle.wf_model.specs.Plans.{item_of}
use Rattle.wf_model.specs.Outcome.{RunData, script, entry_at, grids_at}
use Rattle.wf_model.specs.Patches.{Split, Cell, split_of, is_in_domain}
use Rattle.wf_model.specs.Shapes.{cell_owner, fetched_cells, grid_cell}
use Rattle.wf_model.specs.Exchange.{sender_of, around, cells_behind, start_cells, force_cells}
use Rattle.wf_model.specs.Exchange.{feedback_cells, carried, senders_to}
use Rattle.wf_model.specs.Core.{memory_point}
use Rattle.wf_model.specs.Held.{message_numbers}
use Rattle.wf_model.specs.Sound.{IsDomain, IsLevel, IsSoundLayout}
use Rattle.wf_model.specs.Agreement.{IsAccepted, IsUpToOverflow, IsPatch, IsLevelCell, memory_at}
use Rattle.wf_laws.specs.Ownership.{IsTheOne}
use Rattle.wf_laws.specs.Stops.{received_at}

-- the message from a patch to another carries the cell
abbrev pub Carries : Plan → Split → Entry → ℕ → Cell → ℕ → Type 0
Carries plan split e to c from = Contains (carried plan split e e.act from to) c

-- of each cell that a halo or a period fetches for a patch: one message to it carries the cell, and
-- the owner of its point sends it
abbrev pub FetchedCellsComeOnce : Type 0
FetchedCellsComeOnce =
    (plan : Plan) (layout : Layout) (e : Entry) (n to : ℕ) (c : Cell) → IsSoundLayout plan layout →
    IsDomain plan e.domain → e.act ≡ Table n →
    Contains (fetched_cells plan (split_of layout) e.domain (item_of plan n) to) c →
    IsTheOne (layout.nproc_x * layout.nproc_y) (Carries plan (split_of layout) e to c)
    (cell_owner plan (split_of layout) e.domain c)

-- and its messages carry nothing else
abbrev pub MessagesCarryFetchedCells : Type 0
MessagesCarryFetchedCells =
    (plan : Plan) (split : Split) (e : Entry) (n from to : ℕ) (c : Cell) → e.act ≡ Table n →
    Carries plan split e to c from →
    Contains (fetched_cells plan split e.domain (item_of plan n) to) c

-- the sender's points that a nest item asks for, for a patch
abbrev pub asked_points : Plan → Split → Entry → Act → ℕ → List Cell
asked_points plan split e Start to =
    flat_map (around plan e.domain) (start_cells plan split e.domain to)
asked_points plan split e Force to =
    flat_map (around plan e.domain) (force_cells plan split e.domain to)
asked_points plan split e Feedback to =
    flat_map (cells_behind plan e.domain) (feedback_cells plan split e.domain to)
asked_points plan split e (Table n) to = []
asked_points plan split e (Emit s) to = []

-- of each point that a start, a force or a feedback asks for: one message to the patch carries it,
-- and its owner sends it
abbrev pub AskedPointsComeOnce : Type 0
AskedPointsComeOnce =
    (plan : Plan) (layout : Layout) (e : Entry) (to : ℕ) (c : Cell) → IsSoundLayout plan layout →
    IsDomain plan (sender_of plan e e.act) → IsLevel plan c.field → IsLevelCell plan c →
    IsTrue (is_in_domain plan (sender_of plan e e.act) c.field c.j c.i) →
    Contains (asked_points plan (split_of layout) e e.act to) c →
    IsTheOne (layout.nproc_x * layout.nproc_y) (Carries plan (split_of layout) e to c)
    (cell_owner plan (split_of layout) (sender_of plan e e.act) c)

-- the numbers of a message as its sender makes it, from its memory before the place
abbrev pub sent_numbers : RunData → Layout → ℕ → ℕ → ℕ → List ℤ
sent_numbers r layout n from to =
    map (memory_point r.plan (sender_of r.plan (entry_at r n) (entry_at r n).act)
    (memory_at r layout n (sender_of r.plan (entry_at r n) (entry_at r n).act) from))
    (carried r.plan (split_of layout) (entry_at r n) (entry_at r n).act from to)

-- they are the message's numbers, at each place of the script, also past an overflow
abbrev pub SendersSendTheNumbers : Type 0
SendersSendTheNumbers =
    (r : RunData) (layout : Layout) (n from to : ℕ) → IsAccepted r layout → n < length (script r) →
    IsPatch layout from → sent_numbers r layout n from to ≡ message_numbers r layout n from to

-- and up to the first overflow they are the grids' numbers of the points that the carried cells
-- stand for
abbrev pub MessagesCarryTheGridsNumbers : Type 0
MessagesCarryTheGridsNumbers =
    (r : RunData) (layout : Layout) (n from to : ℕ) → IsAccepted r layout → n < length (script r) →
    IsUpToOverflow r n → IsPatch layout from →
    sent_numbers r layout n from to
    ≡ map (grid_cell r.plan (sender_of r.plan (entry_at r n) (entry_at r n).act) (grids_at r n))
    (carried r.plan (split_of layout) (entry_at r n) (entry_at r n).act from to)

-- so all that comes to a patch at a place are the cells of each message to it, with the
-- message's numbers
abbrev pub ReceivedAreTheMessages : Type 0
ReceivedAreTheMessages =
    (r : RunData) (layout : Layout) (n to : ℕ) → IsAccepted r layout → n < length (script r) →
    received_at r layout n to
    ≡ flat_map (λ q. zip (carried r.plan (split_of layout) (entry_at r n) (entry_at r n).act q to)
    (message_numbers r layout n q to)) (senders_to r.plan (split_of layout) (entry_at r n) to)
