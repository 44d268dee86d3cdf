-- The memory report tells of the split alone.
use Rattle.std.specs.Prelude.{◌≡◌, ℕ, Bool, List}
use Rattle.wf_model.specs.declared.layout.Layout.{Layout}
use Rattle.wf_model.specs.Outcome.{RunData}
use Rattle.wf_model.specs.Files.{Files}
use Rattle.wf_model.specs.Front.{front}
use Rattle.wf_model.specs.Lockstep.{memory_report}
use Rattle.wf_model.specs.Answer.{Outside, command_answer, serial, threads}

-- two layouts with as many patches in x and in y, whatever their tiles, groups, servers, depth
-- and workers
pub record CutAlike (a b : Layout) : Type 0 where
  pub in_x : a.nproc_x ≡ b.nproc_x
  pub in_y : a.nproc_y ≡ b.nproc_y

-- on both each patch stands alike before each place
abbrev pub FrontDependsOnTheSplit : Type 0
FrontDependsOnTheSplit =
    (r : RunData) (a b : Layout) (n d p : ℕ) → CutAlike a b → front r a n d p ≡ front r b n d p

-- and both have one memory report
abbrev pub ReportDependsOnTheSplit : Type 0
ReportDependsOnTheSplit =
    (r : RunData) (a b : Layout) → CutAlike a b → memory_report r a ≡ memory_report r b

-- so a run in threads answers as the serial run does: with its status, its text and its calls
abbrev pub ThreadsAnswerAsSerial : Type 0
ThreadsAnswerAsSerial =
    (outside : Outside) (files : Files) (workers : ℕ)
    (defines : List (List ℕ × List ℕ)) (each : Bool) →
    command_answer outside files (threads workers defines each)
    ≡ command_answer outside files (serial defines each)
