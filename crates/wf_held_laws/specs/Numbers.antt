-- The numbers of own and fresh cells: in the lockstep run, in the front, and in each state.
use Rattle.std.specs.Prelude.{◌≡◌, ℕ, ◌≤◌, length, map, Some, slice_get}
use Rattle.wf_model.specs.declared.layout.Layout.{Layout}
use Rattle.wf_model.specs.declared.frame.Frame.{Frame}
use Rattle.wf_model.specs.declared.script.Entry.{Entry}
use Rattle.wf_model.specs.Outcome.{RunData, script, grids_at}
use Rattle.wf_model.specs.Frames.{frames_of}
use Rattle.wf_model.specs.Patches.{split_of, Cell, own_box, cells_in}
use Rattle.wf_model.specs.Shapes.{grid_cell}
use Rattle.wf_model.specs.Core.{CoreState}
use Rattle.wf_model.specs.Replay.{IsReachable}
use Rattle.wf_model.specs.Lockstep.{place_after}
use Rattle.wf_model.specs.Front.{front, sent_numbers}
use Rattle.wf_model.specs.Held.{numbers_at, message_numbers, piece_numbers}
use Rattle.wf_model.specs.Agreement.{IsAccepted, IsUpToOverflow, IsPatch, IsOwnCell, IsMemoryCell}
use Rattle.wf_model.specs.Agreement.{IsFreshAt, memory_at, cell_number}
use Rattle.wf_core_laws.specs.Patches.{IsDomainPatch}

-- each own cell of the lockstep run holds its number, before each place of the script
abbrev pub OwnCellsHoldTheNumbers : Type 0
OwnCellsHoldTheNumbers =
    (r : RunData) (layout : Layout) (n d p : ℕ) (c : Cell) →
    IsAccepted r layout → n ≤ length (script r) →
    IsDomainPatch r.plan layout d p → IsOwnCell r.plan (split_of layout) d p c →
    cell_number (memory_at r layout n d p) c ≡ grid_cell r.plan d (numbers_at r layout n) c

-- the place of a patch's next half in a state, or the end of the script
abbrev pub next_place : RunData → Layout → CoreState → ℕ → ℕ → ℕ
next_place r layout s d p = place_after r layout d (s.patches d p).done

-- in each state that a list of enabled events leads to, it holds its number before the patch's next
-- place
abbrev pub StatesHoldTheNumbers : Type 0
StatesHoldTheNumbers =
    (r : RunData) (layout : Layout) (s : CoreState) (d p : ℕ) (c : Cell) →
    IsAccepted r layout → IsReachable r layout s →
    IsDomainPatch r.plan layout d p → IsOwnCell r.plan (split_of layout) d p c →
    cell_number (s.patches d p).memory c
    ≡ grid_cell r.plan d (numbers_at r layout (next_place r layout s d p)) c

-- which is the grid's up to the first overflow
abbrev pub StatesHoldTheGrids : Type 0
StatesHoldTheGrids =
    (r : RunData) (layout : Layout) (s : CoreState) (d p : ℕ) (c : Cell) →
    IsAccepted r layout → IsReachable r layout s → IsUpToOverflow r (next_place r layout s d p) →
    IsDomainPatch r.plan layout d p → IsOwnCell r.plan (split_of layout) d p c →
    cell_number (s.patches d p).memory c
    ≡ grid_cell r.plan d (grids_at r (next_place r layout s d p)) c

-- and so does each fresh cell of its memory
abbrev pub StatesHoldTheFreshNumbers : Type 0
StatesHoldTheFreshNumbers =
    (r : RunData) (layout : Layout) (s : CoreState) (d p : ℕ) (c : Cell) →
    IsAccepted r layout → IsReachable r layout s → IsUpToOverflow r (next_place r layout s d p) →
    IsDomainPatch r.plan layout d p → IsMemoryCell r.plan (split_of layout) d p c →
    IsFreshAt r (split_of layout) (next_place r layout s d p) d p c →
    cell_number (s.patches d p).memory c
    ≡ grid_cell r.plan d (grids_at r (next_place r layout s d p)) c

-- the front sends the messages' numbers
abbrev pub FrontSendsTheMessages : Type 0
FrontSendsTheMessages =
    (r : RunData) (layout : Layout) (k : ℕ) (e : Entry) (q p : ℕ) →
    IsAccepted r layout → slice_get (script r) k ≡ Some e → IsPatch layout q →
    sent_numbers r layout (front r layout k) e q p ≡ message_numbers r layout k q p

-- and has the pieces' numbers at the frames' places
abbrev pub FrontPostsThePieces : Type 0
FrontPostsThePieces =
    (r : RunData) (layout : Layout) (n : ℕ) (frame : Frame) (f p : ℕ) →
    IsAccepted r layout → slice_get (frames_of r) n ≡ Some frame → IsPatch layout p →
    map (cell_number (front r layout frame.place frame.domain p).memory)
    (cells_in r.plan f (own_box r.plan (split_of layout) frame.domain p f))
    ≡ piece_numbers r layout n f p
