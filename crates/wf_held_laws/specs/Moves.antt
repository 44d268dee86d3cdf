-- How a patch goes along the front, half by half.
use Rattle.std.specs.Prelude.{◌≡◌, ℕ, suc, ◌+◌, true, false, length, Some}
use Rattle.wf_model.specs.declared.layout.Layout.{Layout}
use Rattle.wf_model.specs.Outcome.{RunData, script}
use Rattle.wf_model.specs.PatchEffect.{Memory, after_setting}
use Rattle.wf_model.specs.Halves.{Due, due_after}
use Rattle.wf_model.specs.Core.{CoreState, begin_patch}
use Rattle.wf_model.specs.Front.{front, halves_before, half_sets, half_stops}
use Rattle.wf_model.specs.Replay.{IsReachable}
use Rattle.wf_model.specs.Placed.{IsPlaced}

-- at the begin
abbrev pub PatchesBeginAtTheFront : Type 0
PatchesBeginAtTheFront =
    (r : RunData) (layout : Layout) (d p : ℕ) →
    IsPlaced r layout d p 0 (begin_patch r layout d p).memory

-- before its next half
abbrev pub PatchesStandAtTheFront : Type 0
PatchesStandAtTheFront =
    (r : RunData) (layout : Layout) (d p n : ℕ) (due : Due) (m : Memory) →
    due_after r d n ≡ Some due → IsPlaced r layout d p n m →
    (m ≡ (front r layout due.place d p).memory)
    × ((front r layout due.place d p).is_stopped ≡ false)

-- after a half that goes through
abbrev pub PatchesMoveWithTheFront : Type 0
PatchesMoveWithTheFront =
    (r : RunData) (layout : Layout) (d p n : ℕ) (due : Due) (m : Memory) →
    due_after r d n ≡ Some due → IsPlaced r layout d p n m →
    half_stops r layout (front r layout due.place) due.entry d p m due.half ≡ false →
    IsPlaced r layout d p (n + 1)
    (after_setting (half_sets r layout (front r layout due.place) due.entry p m due.half) m)

-- at a half that stops
abbrev pub PatchesStopWithTheFront : Type 0
PatchesStopWithTheFront =
    (r : RunData) (layout : Layout) (d p n : ℕ) (due : Due) (m : Memory) →
    due_after r d n ≡ Some due → IsPlaced r layout d p n m →
    half_stops r layout (front r layout due.place) due.entry d p m due.half ≡ true →
    (front r layout (suc due.place) d p).is_stopped ≡ true

-- after all its halves
abbrev pub PatchesEndAtTheFront : Type 0
PatchesEndAtTheFront =
    (r : RunData) (layout : Layout) (d p n : ℕ) (m : Memory) →
    n ≡ halves_before r d (length (script r)) → IsPlaced r layout d p n m →
    (m ≡ (front r layout (length (script r)) d p).memory)
    × ((front r layout (length (script r)) d p).is_stopped ≡ false)

-- and in each state
abbrev pub PatchesOfStatesArePlaced : Type 0
PatchesOfStatesArePlaced =
    (r : RunData) (layout : Layout) (s : CoreState) (d p : ℕ) → IsReachable r layout s →
    IsPlaced r layout d p (s.patches d p).done (s.patches d p).memory
