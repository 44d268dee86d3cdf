-- The law of restart as a whole: a run that is read from the restart files of another goes on as
-- that one did.
use Rattle.std.specs.Prelude.{◌≡◌, ℕ, map, flat_map, Ok, Contains}
use Rattle.wf_model.specs.declared.frame.Frame.{Frame}
use Rattle.wf_model.specs.declared.plan.Plan.{Plan}
use Rattle.wf_model.specs.declared.initial.Initial.{Initial}
use Rattle.wf_model.specs.Files.{Files, files_after_all}
use Rattle.wf_model.specs.Outcome.{RunData, outcome_of}
use Rattle.wf_model.specs.Frames.{frames_written}
use Rattle.wf_model.specs.Writes.{frame_calls, writes_of}
use Rattle.wf_model.specs.InputOf.{input_of}
use Rattle.wf_model.specs.Script.{restart_stream}
use Rattle.wf_model.specs.SoundRun.{IsSoundRun}
use Rattle.wf_model.specs.Continued.{place_after, IsRestartTime, HoldsLiveLevels, IsContinuedPlan}
use Rattle.wf_restart_laws.specs.SameFrames.{shown, later_frames, overflow_behind, overflow_in_all}
use Rattle.wf_restart_laws.specs.SameFrames.{HaveFilesAlike}
use Rattle.wf_cdf_laws.specs.FileNames.{HasFileNames}
use Rattle.wf_restart_laws.specs.ReadBack.{HasInts, HasFilesOf}

-- s goes on as r did from its m-th step on: the same frames, the same first overflow and, with one
-- frame to a file, the same calls and files
pub record GoesOnAs (r : RunData) (m : ℕ) (s : RunData) : Type 0 where
  pub frames : map (shown s) (frames_written s) ≡ map (shown r) (later_frames r m)
  pub overflow : overflow_behind (place_after r m) (outcome_of s) ≡ overflow_in_all (outcome_of r)
  pub calls : HaveFilesAlike r.plan s.plan →
      writes_of s ≡ flat_map (frame_calls r) (later_frames r m)
  pub files : HaveFilesAlike r.plan s.plan → (old new : Files) (frame : Frame) →
      Contains (frames_written s) frame →
      files_after_all new (writes_of s) frame.file ≡ files_after_all old (writes_of r) frame.file

-- the run of a plan, with the same functions
abbrev pub run_with : RunData → Plan → Initial → RunData
run_with r plan initial = record { plan = plan; initial = initial; answers = r.answers }

-- what a restart reads of these files is a run that goes on as r did
abbrev pub RestartedRunsGoOn : Type 0
RestartedRunsGoOn =
    (r : RunData) (m : ℕ) (plan : Plan) (old files : Files) → IsSoundRun r →
    HoldsLiveLevels r.plan → HasInts r.initial → HasFileNames r.plan restart_stream →
    input_of old r.plan ≡ Ok r.initial →
    IsRestartTime r m → IsContinuedPlan r m plan → HasFilesOf r m plan old files →
    (initial : Initial) × (input_of files plan ≡ Ok initial)
    × GoesOnAs r m (run_with r plan initial)
