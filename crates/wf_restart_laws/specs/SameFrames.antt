-- A run that goes on from restart files has the same frames, the same first overflow and, one frame
-- to a file, the same files.
use Rattle.std.specs.Prelude.{◌≡◌, ℕ, ◌+◌, ◌<◌, nat_le, List, map, flat_map, filter, ℤ, Option}
use Rattle.std.specs.Prelude.{Some, None, Result, Ok, Err, Contains, slice_index}
use Rattle.wf_model.specs.declared.frame.Frame.{Frame}
use Rattle.wf_model.specs.declared.plan.Plan.{Plan}
use Rattle.wf_model.specs.Plans.{domain_of}
use Rattle.wf_model.specs.Grids.{Grids}
use Rattle.wf_model.specs.Letters.{Text}
use Rattle.wf_model.specs.Files.{Files, files_after_all}
use Rattle.wf_model.specs.Outcome.{RunData, Overflow, outcome_of}
use Rattle.wf_model.specs.Frames.{frames_written, variables_of, slab_of}
use Rattle.wf_model.specs.Writes.{frame_calls, writes_of}
use Rattle.wf_model.specs.Script.{restart_stream}
use Rattle.wf_model.specs.Sound.{IsDomain}
use Rattle.wf_model.specs.SoundRun.{IsSoundRun}
use Rattle.wf_model.specs.Continued.{place_after, IsRestartTime, HoldsLiveLevels, IsContinuedBy}

-- ---- frames

-- what a frame shows: of which domain and stream, its time, and its variables by level, each with
-- its numbers in file shape
pub record Shown : Type 0 where
  pub domain : ℕ
  pub stream : ℕ
  pub time : Text
  pub variables : List (ℕ × List ℤ)

abbrev pub shown : RunData → Frame → Shown
shown r frame = record {
  domain = frame.domain;
  stream = frame.stream;
  time = frame.time;
  variables = map (λ f. (f, slab_of r frame f)) (variables_of r frame);
}

-- the frames that a run writes after the restart frames of its m-th step
unfoldable pub later_frames : RunData → ℕ → List Frame
later_frames r m = filter (λ frame. nat_le (place_after r m) frame.place) (frames_written r)

-- the same frames from there on, restart frames too
abbrev pub ContinuedRunsShowTheSameFrames : Type 0
ContinuedRunsShowTheSameFrames =
    (r s : RunData) (m : ℕ) → IsSoundRun r → HoldsLiveLevels r.plan → IsRestartTime r m →
    IsContinuedBy r m s →
    map (shown s) (frames_written s) ≡ map (shown r) (later_frames r m)

-- ---- the first overflow

-- the overflow that ends a run, if one does, by the places of a script of which this one is a later
-- part
abbrev pub overflow_behind : ℕ → Result Grids Overflow → Option Overflow
overflow_behind n (Ok g) = None
overflow_behind n (Err o) = Some (record { place = n + o.place; point = o.point })

abbrev pub overflow_in_all : Result Grids Overflow → Option Overflow
overflow_in_all (Ok g) = None
overflow_in_all (Err o) = Some o

-- the same first overflow, at the same item of the script
abbrev pub ContinuedRunsOverflowAlike : Type 0
ContinuedRunsOverflowAlike =
    (r s : RunData) (m : ℕ) → IsSoundRun r → HoldsLiveLevels r.plan → IsRestartTime r m →
    IsContinuedBy r m s →
    overflow_behind (place_after r m) (outcome_of s) ≡ overflow_in_all (outcome_of r)

-- ---- files

-- each history and auxiliary file takes one frame
abbrev pub HasOneFrameFiles : Plan → Type 0
HasOneFrameFiles plan =
    (d stream : ℕ) → IsDomain plan d → stream < restart_stream →
    slice_index (domain_of plan d).frames stream ≡ 1

-- the plans of both runs have one frame to a file, and files of one version
pub record HaveFilesAlike (p q : Plan) : Type 0 where
  pub before : HasOneFrameFiles p
  pub after : HasOneFrameFiles q
  pub version : q.version ≡ p.version

-- then the calls are those of the later frames
abbrev pub ContinuedRunsWriteTheSameCalls : Type 0
ContinuedRunsWriteTheSameCalls =
    (r s : RunData) (m : ℕ) → IsSoundRun r → HoldsLiveLevels r.plan → IsRestartTime r m →
    IsContinuedBy r m s → HaveFilesAlike r.plan s.plan →
    writes_of s ≡ flat_map (frame_calls r) (later_frames r m)

-- and each file is the same byte for byte, whatever the stores held before
abbrev pub ContinuedRunsWriteTheSameFiles : Type 0
ContinuedRunsWriteTheSameFiles =
    (r s : RunData) (m : ℕ) (old new : Files) (frame : Frame) → IsSoundRun r →
    HoldsLiveLevels r.plan → IsRestartTime r m → IsContinuedBy r m s →
    HaveFilesAlike r.plan s.plan →
    Contains (frames_written s) frame →
    files_after_all new (writes_of s) frame.file ≡ files_after_all old (writes_of r) frame.file
