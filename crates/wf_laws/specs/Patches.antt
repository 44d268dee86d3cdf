-- What the patches of a run hold, in the lockstep run, up to the first overflow.
use Rattle.std.specs.Prelude.{◌≡◌, ℕ, ◌<◌, filter, length, nat_lt, ℤ, ◌+ℤ◌, IsTrue, IsFalse}
use Rattle.std.specs.List.{Contains}
use Rattle.wf_model.specs.declared.layout.Layout.{Layout}
use Rattle.wf_model.specs.declared.plan.Plan.{Plan}
use Rattle.wf_model.specs.declared.plan.Phase.{Phase}
use Rattle.wf_model.specs.declared.plan.Item.TheVariants as item
use Rattle.wf_model.specs.declared.script.Act.TheVariants.{Table}
use Rattle.wf_model.specs.Value.{value_of}
use Rattle.wf_model.specs.Reads.{Read, reads_of}
use Rattle.wf_model.specs.Plans.{item_of, level_at, point_x, point_y}
use Rattle.wf_model.specs.Changes.{sight_at}
use Rattle.wf_model.specs.Outcome.{RunData, script, entry_at, grids_at}
use Rattle.wf_model.specs.Patches.{Cell, split_of, computes}
use Rattle.wf_model.specs.Halves.{halves_of}
use Rattle.wf_model.specs.Exchange.{Letter}
use Rattle.wf_model.specs.PatchEffect.{patch_sight}
use Rattle.wf_model.specs.Lockstep.{lockstep_at}
use Rattle.wf_model.specs.Sound.{IsDomain}
use Rattle.wf_model.specs.Agreement.{IsAccepted, IsUpToOverflow, IsPatch, IsOwnCell, IsMemoryCell}
use Rattle.wf_model.specs.Agreement.{IsFreshAt, HoldsPoint, memory_at}

-- how many halves a domain's patches have at the places before this one
abbrev pub halves_before : RunData → ℕ → ℕ → ℕ
halves_before r d n = length (filter (λ x. nat_lt x.place n) (halves_of r d))

-- a patch has done its halves of all places before this one, and is not stopped
pub record GoesOn (r : RunData) (layout : Layout) (n d p : ℕ) : Type 0 where
  pub done : ((lockstep_at r layout n).patches d p).done ≡ halves_before r d n
  pub going : IsFalse ((lockstep_at r layout n).patches d p).is_stopped

-- no patch stops before the first overflow
abbrev pub NoPatchStops : Type 0
NoPatchStops =
    (r : RunData) (layout : Layout) (n d p : ℕ) → IsAccepted r layout → IsUpToOverflow r n →
    IsDomain r.plan d → IsPatch layout p → GoesOn r layout n d p

-- before a place the mail has messages of earlier places alone
abbrev pub MailIsOfEarlierPlaces : Type 0
MailIsOfEarlierPlaces =
    (r : RunData) (layout : Layout) (n : ℕ) (l : Letter) → IsAccepted r layout →
    IsUpToOverflow r n → Contains (lockstep_at r layout n).mail l → l.place < n

-- each own cell holds the grids' number
abbrev pub OwnCellsHoldTheGrids : Type 0
OwnCellsHoldTheGrids =
    (r : RunData) (layout : Layout) (n d p : ℕ) (c : Cell) → IsAccepted r layout →
    IsUpToOverflow r n → IsDomain r.plan d → IsPatch layout p →
    IsOwnCell r.plan (split_of layout) d p c → HoldsPoint r layout n d p c

-- and so does each fresh cell of its memory
abbrev pub FreshCellsHoldTheGrids : Type 0
FreshCellsHoldTheGrids =
    (r : RunData) (layout : Layout) (n d p : ℕ) (c : Cell) → IsAccepted r layout →
    IsUpToOverflow r n → IsDomain r.plan d → IsPatch layout p →
    IsMemoryCell r.plan (split_of layout) d p c → IsFreshAt r (split_of layout) n d p c →
    HoldsPoint r layout n d p c

-- the item at a place is this phase
pub record IsPhaseAt (r : RunData) (n : ℕ) (ph : Phase) : Type 0 where
  pub within : n < length (script r)
  pub number : ℕ
  pub act : (entry_at r n).act ≡ Table number
  pub phase : item_of r.plan number ≡ item.Phase ph

-- the cell that a read meets from the cell at k, j and i
abbrev pub cell_read : Plan → Read → ℕ → ℤ → ℤ → Cell
cell_read plan rd k j i =
    record { field = rd.field; k = level_at plan rd.field k rd.dk; j = j +ℤ rd.dj; i = i +ℤ rd.di }

-- each cell that a phase reads of a cell that a patch computes is a fresh cell of the
-- patch's memory
abbrev pub PhasesReadFreshCells : Type 0
PhasesReadFreshCells =
    (r : RunData) (layout : Layout) (n p : ℕ) (ph : Phase) (rd : Read) (k : ℕ) (j i : ℤ) →
    IsAccepted r layout → IsPatch layout p → IsPhaseAt r n ph → Contains (reads_of ph.expr) rd →
    IsTrue (computes r.plan (split_of layout) (entry_at r n).domain p ph k j i) →
    IsMemoryCell r.plan (split_of layout) (entry_at r n).domain p (cell_read r.plan rd k j i)
    × IsFreshAt r (split_of layout) n (entry_at r n).domain p (cell_read r.plan rd k j i)

-- what a patch computes at a cell is what the phase gives at the point that the cell stands for:
-- the same number, or an overflow at both
abbrev pub PatchesComputeTheGridsValues : Type 0
PatchesComputeTheGridsValues =
    (r : RunData) (layout : Layout) (n p : ℕ) (ph : Phase) (k : ℕ) (j i : ℤ) → IsAccepted r layout →
    IsUpToOverflow r n → IsPatch layout p → IsPhaseAt r n ph →
    IsTrue (computes r.plan (split_of layout) (entry_at r n).domain p ph k j i) →
    let d : ℕ = (entry_at r n).domain in
    value_of r.answers (patch_sight r.plan d ph.writes (memory_at r layout n d p)
    (entry_at r n).step k j i) ph.expr
    ≡ value_of r.answers (sight_at r.plan (grids_at r n) d (entry_at r n).step k
    (point_y r.plan d ph.writes j) (point_x r.plan d ph.writes i)) ph.expr
