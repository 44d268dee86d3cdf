-- What holds of every list of enabled events, whatever their order.
use Rattle.std.specs.Prelude.{◌≡◌, ℕ, ◌≤◌, true, IsTrue, IsFalse, List, length, map, flat_map, take}
use Rattle.std.specs.Prelude.{All, Some, Ok, Err}
use Rattle.wf_model.specs.declared.layout.Layout.{Layout}
use Rattle.wf_model.specs.declared.event.Event.{Event}
use Rattle.wf_model.specs.Plans.{domains_of}
use Rattle.wf_model.specs.Grids.{Grids}
use Rattle.wf_model.specs.Outcome.{RunData, Overflow, outcome_of}
use Rattle.wf_model.specs.Frames.{frames_of, frames_written}
use Rattle.wf_model.specs.Patches.{split_of, patches_of}
use Rattle.wf_model.specs.Core.{CoreState, due_of, is_lost}
use Rattle.wf_model.specs.Replay.{replay, replay_from, IsEnabled, IsReachable, IsEnd, IsFull}
use Rattle.wf_model.specs.Lockstep.{memory_line, memory_report}
use Rattle.wf_model.specs.Agreement.{IsAccepted, IsUpToOverflow}
use Rattle.wf_core_laws.specs.Patches.{IsDomainPatch, IsCanonical}
use Rattle.wf_core_laws.specs.Carried.{IsLockstepLetter, IsLockstepPiece, HasMessageNumbers}
use Rattle.wf_core_laws.specs.Carried.{HasFrameNumbers, IsLostMessage}
use Rattle.wf_core_laws.specs.Ends.{WritesTheFirst, IsFinished, FollowsLockstep, AreAlike}
use Rattle.wf_model.specs.Halves.{takes, Due}
use Rattle.wf_core_laws.specs.Stops.{IsStoppedAt}
use Rattle.wf_model.specs.LeastStop.{least_stop, first_overflow}
use Rattle.wf_core_laws.specs.EventCount.{most_events}

-- the plan has a domain
abbrev pub HasDomain : RunData → Type 0
HasDomain r = 1 ≤ length r.plan.domains

-- every state that a list of enabled events leads to is in canonical form
abbrev pub EveryReachableStateIsCanonical : Type 0
EveryReachableStateIsCanonical = (r : RunData) (layout : Layout) (s : CoreState) →
    IsReachable r layout s → IsCanonical r layout s

-- in it each patch has the memory and the stop of the lockstep run after as many of its own halves
abbrev pub PatchesFollowTheLockstepRun : Type 0
PatchesFollowTheLockstepRun =
    (r : RunData) (layout : Layout) (s : CoreState) (d p : ℕ) → HasDomain r →
    IsReachable r layout s → IsDomainPatch r.plan layout d p → FollowsLockstep r layout s d p

-- all letters in the mail carry the lockstep run's numbers
abbrev pub LettersCarryTheLockstepRunsNumbers : Type 0
LettersCarryTheLockstepRunsNumbers =
    (r : RunData) (layout : Layout) (s : CoreState) → HasDomain r → IsReachable r layout s →
    All (IsLockstepLetter r layout) s.mail

-- and so do all pieces, posted or gathered
abbrev pub PiecesCarryTheLockstepRunsNumbers : Type 0
PiecesCarryTheLockstepRunsNumbers =
    (r : RunData) (layout : Layout) (s : CoreState) → HasDomain r → IsReachable r layout s →
    All (IsLockstepPiece r layout) s.pieces × All (IsLockstepPiece r layout) s.gathered

-- on a plan that the halo check accepts, letters carry the numbers of their messages: the grids' up
-- to the first overflow
abbrev pub LettersCarryTheirNumbers : Type 0
LettersCarryTheirNumbers =
    (r : RunData) (layout : Layout) (s : CoreState) → IsAccepted r layout → IsReachable r layout s →
    All (HasMessageNumbers r layout) s.mail

-- and pieces those of their frames
abbrev pub PiecesCarryTheirNumbers : Type 0
PiecesCarryTheirNumbers =
    (r : RunData) (layout : Layout) (s : CoreState) → IsAccepted r layout → IsReachable r layout s →
    All (HasFrameNumbers r layout) s.pieces × All (HasFrameNumbers r layout) s.gathered

-- where a patch may stop for want of a message, there is a message to it whose sender the lockstep
-- run stops before that place
abbrev pub LostMessagesAreOfStoppedPatches : Type 0
LostMessagesAreOfStoppedPatches =
    (r : RunData) (layout : Layout) (s : CoreState) (d p : ℕ) (due : Due) → HasDomain r →
    IsReachable r layout s → IsDomainPatch r.plan layout d p →
    due_of r layout s d p ≡ Some due → due.half ≡ takes →
    IsTrue (is_lost r layout s due p) → IsLostMessage r layout s due p

-- a state with no event enabled is an end
abbrev pub NoStateIsStuck : Type 0
NoStateIsStuck = (r : RunData) (layout : Layout) (s : CoreState) → HasDomain r →
    IsReachable r layout s → IsEnd r layout s → IsFinished r layout s

-- the frames written are the first of the script's, and none stands at a stop or past one
abbrev pub FramesWrittenAreTheFirst : Type 0
FramesWrittenAreTheFirst = (r : RunData) (layout : Layout) (s : CoreState) →
    IsReachable r layout s → WritesTheFirst r layout s

-- an event that is enabled stays enabled through all others, in any number
abbrev pub EnabledEventsStayEnabled : Type 0
EnabledEventsStayEnabled =
    (r : RunData) (layout : Layout) (s t : CoreState) (es : List Event) (e : Event) →
    IsReachable r layout s → IsEnabled r layout s e →
    replay_from r layout s es ≡ Some t → All (λ x. x ≡ e → ⊥) es → IsEnabled r layout t e

-- two full lists end alike
abbrev pub FullListsEndAlike : Type 0
FullListsEndAlike =
    (r : RunData) (layout : Layout) (es fs : List Event) → HasDomain r → (f : IsFull r layout es) →
    (g : IsFull r layout fs) → AreAlike r layout f.0 g.0

-- with the memories of the memory report
abbrev pub FullListsEndWithTheReport : Type 0
FullListsEndWithTheReport =
    (r : RunData) (layout : Layout) (es : List Event) → HasDomain r → (f : IsFull r layout es) →
    flat_map (λ d. map (memory_line r layout f.0 d) (patches_of (split_of layout)))
    (domains_of r.plan) ≡ memory_report r layout

-- a list of enabled events is no longer than the most events that there can be
abbrev pub ListsAreBounded : Type 0
ListsAreBounded = (r : RunData) (layout : Layout) (es : List Event) (s : CoreState) →
    replay r layout es ≡ Some s → length es ≤ most_events r layout

-- ---- on a plan that the halo check accepts

-- the frames written are the first of those that the run writes: none stands at the first overflow
-- or past it
abbrev pub FramesWrittenAreTheRuns : Type 0
FramesWrittenAreTheRuns =
    (r : RunData) (layout : Layout) (s : CoreState) → IsAccepted r layout → IsReachable r layout s →
    (take s.written (frames_of r) ≡ take s.written (frames_written r))
    × (s.written ≤ length (frames_written r))

-- a full list writes all frames of the run
abbrev pub FullListsWriteTheRunsFrames : Type 0
FullListsWriteTheRunsFrames =
    (r : RunData) (layout : Layout) (es : List Event) → IsAccepted r layout →
    (f : IsFull r layout es) → take (f.0).written (frames_of r) ≡ frames_written r

-- no patch stops before the place of the first overflow, and where nothing overflows none stops
abbrev pub NoPatchStopsBeforeTheOverflow : Type 0
NoPatchStopsBeforeTheOverflow =
    (r : RunData) (layout : Layout) (s : CoreState) (n d p : ℕ) (due : Due) → IsAccepted r layout →
    IsReachable r layout s → IsUpToOverflow r n → IsDomainPatch r.plan layout d p →
    (s.patches d p).is_stopped ≡ true → due_of r layout s d p ≡ Some due → n ≤ due.place

-- so where nothing overflows no state has a patch that is stopped
abbrev pub NoPatchStopsWhereNothingOverflows : Type 0
NoPatchStopsWhereNothingOverflows =
    (r : RunData) (layout : Layout) (s : CoreState) (g : Grids) (d p : ℕ) → IsAccepted r layout →
    IsReachable r layout s → outcome_of r ≡ Ok g → IsDomainPatch r.plan layout d p →
    IsFalse (s.patches d p).is_stopped

-- and where the run overflows each full list ends with a patch that is stopped at that place
abbrev pub FullListsStopAtTheOverflow : Type 0
FullListsStopAtTheOverflow =
    (r : RunData) (layout : Layout) (es : List Event) (o : Overflow) → IsAccepted r layout →
    (f : IsFull r layout es) → outcome_of r ≡ Err o →
    (d : ℕ) × (p : ℕ) × IsDomainPatch r.plan layout d p × IsStoppedAt r layout f.0 o.place d p

-- the least stop of a full list, by place, level, k, j and i, is the first overflow; there is none
-- where nothing overflows
abbrev pub LeastStopIsTheFirstOverflow : Type 0
LeastStopIsTheFirstOverflow =
    (r : RunData) (layout : Layout) (es : List Event) → IsAccepted r layout →
    (f : IsFull r layout es) → least_stop r layout f.0 ≡ first_overflow (outcome_of r)
