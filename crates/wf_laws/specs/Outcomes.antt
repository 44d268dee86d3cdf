-- The outcome of a run, place by place.
use Rattle.std.specs.Prelude.{◌≡◌, ℕ, ◌+◌, ◌<◌, ◌≤◌, List, ◌∷◌, ◌++◌, length, None, Some, Ok, Err}
use Rattle.std.specs.List.{Contains}
use Rattle.wf_model.specs.declared.script.Entry.{Entry}
use Rattle.wf_model.specs.declared.point.Point.{Point}
use Rattle.wf_model.specs.declared.frame.Frame.{Frame}
use Rattle.wf_model.specs.Frames.{frames_of, frames_written}
use Rattle.wf_model.specs.Grids.{Grids}
use Rattle.wf_model.specs.Outcome.{RunData, Overflow, script, entry_at, grids_at, grids_after}
use Rattle.wf_model.specs.Outcome.{overflow_of, outcome_from, outcome_of}
use Rattle.wf_model.specs.Agreement.{IsUpToOverflow}

-- each item takes the grids before it to the grids before the next
abbrev pub ItemTakesTheGridsOn : Type 0
ItemTakesTheGridsOn = (r : RunData) (n : ℕ) → n < length (script r) →
    grids_at r (n + 1) ≡ grids_after r (grids_at r n) (entry_at r n)

-- no item before the first overflow overflows
abbrev pub NoItemBeforeOverflows : Type 0
NoItemBeforeOverflows = (r : RunData) (n m : ℕ) → IsUpToOverflow r n → m < n →
    overflow_of r (entry_at r m) (grids_at r m) ≡ None

-- a run in which no item overflows comes to its end, and its outcome is the grids there
abbrev pub RunEndsWithItsLastGrids : Type 0
RunEndsWithItsLastGrids = (r : RunData) (g : Grids) → outcome_of r ≡ Ok g →
    (g ≡ grids_at r (length (script r))) × IsUpToOverflow r (length (script r))

-- the first overflow is that of the item at its place, on the grids there, and the run comes to
-- that place
pub record IsOverflowOfItsItem (r : RunData) (o : Overflow) : Type 0 where
  pub within : o.place < length (script r)
  pub point : overflow_of r (entry_at r o.place) (grids_at r o.place) ≡ Some o.point
  pub reached : IsUpToOverflow r o.place

abbrev pub FirstOverflowIsItsItems : Type 0
FirstOverflowIsItsItems =
    (r : RunData) (o : Overflow) → outcome_of r ≡ Err o → IsOverflowOfItsItem r o

-- a run comes to each place before one that it comes to
abbrev pub EarlierPlacesAreReached : Type 0
EarlierPlacesAreReached = (r : RunData) (m n : ℕ) → m ≤ n → IsUpToOverflow r n → IsUpToOverflow r m

-- an item that overflows ends the run at its place, and after any other the run goes on with the
-- grids that the item leaves
abbrev pub OutcomeGoesItemByItem : Type 0
OutcomeGoesItemByItem =
    (r : RunData) (n : ℕ) (e : Entry) (es : List Entry) (g : Grids) →
    (overflow_of r e g ≡ None →
    outcome_from r n (e ∷ es) g ≡ outcome_from r (n + 1) es (grids_after r g e))
    × ((p : Point) → overflow_of r e g ≡ Some p →
    outcome_from r n (e ∷ es) g ≡ Err (record { place = n; point = p }))

-- after items of which none overflows, the outcome is that of the items that follow
abbrev pub OutcomeOfItemsAfterOthers : Type 0
OutcomeOfItemsAfterOthers =
    (r : RunData) (n : ℕ) (es fs : List Entry) (g h : Grids) → outcome_from r n es g ≡ Ok h →
    outcome_from r n (es ++ fs) g ≡ outcome_from r (n + length es) fs h

-- a run in which no item overflows writes all its frames
abbrev pub AllFramesAreWritten : Type 0
AllFramesAreWritten =
    (r : RunData) (g : Grids) → outcome_of r ≡ Ok g → frames_written r ≡ frames_of r

-- and one that overflows writes those of the places before its first overflow, and no others
abbrev pub FramesAreWrittenBeforeTheOverflow : Type 0
FramesAreWrittenBeforeTheOverflow =
    (r : RunData) (o : Overflow) (f : Frame) → outcome_of r ≡ Err o →
    (Contains (frames_written r) f → Contains (frames_of r) f × (f.place < o.place))
    × (Contains (frames_of r) f → f.place < o.place → Contains (frames_written r) f)
