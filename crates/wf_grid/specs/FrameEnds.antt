-- How the writing of frames goes on, and how it ends.
use Rattle.std.specs.Prelude.{◌≡◌, ℕ, ◌<◌, List, take, flat_map, Option, Some}
use Rattle.std.specs.List.{slice_get}
use Rattle.wf_io.specs.Files.{Rose}
use Rattle.wf_model.specs.declared.finished.CoreError.{CoreError}
use Rattle.wf_model.specs.declared.finished.CoreError.TheVariants.{Overflow, Store, Memory}
use Rattle.wf_model.specs.declared.frame.Frame.{Frame}
use Rattle.wf_model.specs.Failed.{Failed}
use Rattle.wf_model.specs.Files.{Files, StoreCall}
use Rattle.wf_model.specs.Frames.{frames_of}
use Rattle.wf_model.specs.Letters.{Text}
use Rattle.wf_model.specs.Outcome.{RunData}
use Rattle.wf_model.specs.StoreRuns.{Stopped}
use Rattle.wf_model.specs.Writes.{frame_calls}
use Rattle.wf_stream.specs.Writing.{HasRecords}

-- the store calls of the first n frames
unfoldable pub calls_of : RunData → ℕ → List StoreCall
calls_of r n = flat_map (frame_calls r) (take n (frames_of r))

-- the files of the first n frames are there
abbrev pub HaveFiles : RunData → ℕ → Files → Type 0
HaveFiles r n m =
    (k : ℕ) (f : Frame) → k < n → slice_get (frames_of r) k ≡ Some f → HasRecords f.file m

-- a call on the frame's file failed, which the store counted; it was the last call
pub record FrameFails (r : RunData) (frame : Frame) (old new : Option Files) (before after : ℕ)
    (failed name : Text) : Type 0 where
  pub counted : Rose before after
  pub last : failed ≡ name
  pub files : Failed (frame_calls r frame) name old new

-- a frame that was not written. Of the store: its files and its count of faults, before and after,
-- and the name of its last call where that call failed
abbrev pub FrameEnds : RunData → Frame → Option Files → Option Files → ℕ → ℕ → Text →
    CoreError → Type 0
FrameEnds r frame old new before after failed (Overflow point) = ⊥
FrameEnds r frame old new before after failed (Store name) =
    FrameFails r frame old new before after failed name
FrameEnds r frame old new before after failed Memory = Stopped (frame_calls r frame) old new
