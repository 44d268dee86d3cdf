-- What a state has written, and when it is an end.
use Rattle.std.specs.Prelude.{◌≡◌, ◌⊎◌, ℕ, ◌<◌, ◌≤◌, true, [], length, find, Some, None, slice_get}
use Rattle.wf_model.specs.declared.layout.Layout.{Layout}
use Rattle.wf_model.specs.declared.frame.Frame.{Frame}
use Rattle.wf_model.specs.Outcome.{RunData}
use Rattle.wf_model.specs.Frames.{frames_of}
use Rattle.wf_model.specs.Halves.{Due}
use Rattle.wf_model.specs.Core.{CoreState, due_of, letter_of}
use Rattle.wf_model.specs.Replay.{is_piece}
use Rattle.wf_model.specs.Lockstep.{lockstep, memory_after}
use Rattle.wf_core_laws.specs.Patches.{IsDomainPatch}

-- each patch that is stopped stands at a place past this one
pub record IsBeforeStops (r : RunData) (layout : Layout) (s : CoreState) (place : ℕ) : Type 0 where
  pub each : (d p : ℕ) (due : Due) → IsDomainPatch r.plan layout d p →
      (s.patches d p).is_stopped ≡ true → due_of r layout s d p ≡ Some due → place < due.place

-- the frames written are the first of the script's, and none stands at a stop or past one
pub record WritesTheFirst (r : RunData) (layout : Layout) (s : CoreState) : Type 0 where
  pub fits : s.written ≤ length (frames_of r)
  pub before : (i : ℕ) (f : Frame) → i < s.written → slice_get (frames_of r) i ≡ Some f →
      IsBeforeStops r layout s f.place

-- each patch has ended or is stopped, all pieces are gathered, and each frame before all stops
-- is written
pub record IsFinished (r : RunData) (layout : Layout) (s : CoreState) : Type 0 where
  pub patches : (d p : ℕ) → IsDomainPatch r.plan layout d p →
      ((s.patches d p).is_stopped ≡ true) ⊎ (due_of r layout s d p ≡ None)
  pub pieces : s.pieces ≡ []
  pub frames : (i : ℕ) (f : Frame) → slice_get (frames_of r) i ≡ Some f →
      IsBeforeStops r layout s f.place → i < s.written

-- a patch goes along the lockstep run: it has the memory of that run after as many of its halves,
-- it goes no further than that run, and where it is stopped or has ended it is as that run
-- leaves it
pub record FollowsLockstep (r : RunData) (layout : Layout) (s : CoreState) (d p : ℕ) : Type 0 where
  pub memory : (s.patches d p).memory ≡ memory_after r layout d p (s.patches d p).done
  pub within : (s.patches d p).done ≤ ((lockstep r layout).patches d p).done
  pub stopped : (s.patches d p).is_stopped ≡ true → s.patches d p ≡ (lockstep r layout).patches d p
  pub ended : due_of r layout s d p ≡ None → s.patches d p ≡ (lockstep r layout).patches d p

-- two states are alike but for the order of their letters and pieces: patches are equal, look-ups
-- find the same, and as many frames are written
pub record AreAlike (r : RunData) (layout : Layout) (s t : CoreState) : Type 0 where
  pub patches : (d p : ℕ) → IsDomainPatch r.plan layout d p → s.patches d p ≡ t.patches d p
  pub mail : (place from to : ℕ) → letter_of s place from to ≡ letter_of t place from to
  pub pieces : (frame f p : ℕ) →
      find (is_piece frame f p) s.pieces ≡ find (is_piece frame f p) t.pieces
  pub gathered : (frame f p : ℕ) →
      find (is_piece frame f p) s.gathered ≡ find (is_piece frame f p) t.gathered
  pub written : s.written ≡ t.written
