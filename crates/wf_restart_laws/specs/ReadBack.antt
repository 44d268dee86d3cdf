-- The restart files that a run wrote are read again to what the run that goes on begins with.
use Rattle.std.specs.Prelude.{◌≡◌, ℕ, ◌-◌, pos, ◌≤ℤ◌, true, false, All, IsTrue, FitsSigned, None}
use Rattle.std.specs.Prelude.{Ok, slice_index_or}
use Rattle.std.specs.Int.{w32}
use Rattle.wf_model.specs.declared.plan.Plan.{Plan}
use Rattle.wf_model.specs.declared.initial.Initial.{Initial}
use Rattle.wf_model.specs.Plans.{domain_of}
use Rattle.wf_model.specs.Script.{restart_stream}
use Rattle.wf_model.specs.Files.{Files, files_after_all}
use Rattle.wf_model.specs.Outcome.{RunData, no_list, no_lists}
use Rattle.wf_model.specs.Writes.{writes_of}
use Rattle.wf_model.specs.InputOf.{input_of, input_file, restart_file}
use Rattle.wf_model.specs.Sound.{IsDomain}
use Rattle.wf_model.specs.SoundRun.{IsSoundRun}
use Rattle.wf_model.specs.Continued.{goes_on, IsRestartTime, IsContinuedPlan, initial_after}
use Rattle.wf_cdf_laws.specs.FileNames.{HasFileNames}

-- the numbers of begin data have 32 bits
abbrev pub HasInts : Initial → Type 0
HasInts initial =
    (d f : ℕ) →
    All (FitsSigned w32) (slice_index_or (slice_index_or initial.grids (d - 1) no_lists) f no_list)

-- ---- the files that the run that goes on is given

-- its restart files are those that r wrote, and no others; a domain that doesn't go on has the
-- input file that it had. `old` are the files that r was given
pub record HasFilesOf (r : RunData) (m : ℕ) (plan : Plan) (old files : Files) : Type 0 where
  pub written : (d : ℕ) → IsDomain r.plan d → goes_on r m d ≡ true →
      files (restart_file plan d) ≡ files_after_all old (writes_of r) (restart_file plan d)
  pub others : (d : ℕ) → IsDomain r.plan d → goes_on r m d ≡ false →
      (domain_of plan d).begins ≤ℤ pos 0 → files (restart_file plan d) ≡ None
  pub inputs : (d : ℕ) → IsDomain r.plan d → goes_on r m d ≡ false →
      IsTrue (domain_of r.plan d).from_file → files (input_file d) ≡ old (input_file d)

-- then they are read to what it begins with
abbrev pub RestartFilesAreReadBack : Type 0
RestartFilesAreReadBack =
    (r : RunData) (m : ℕ) (plan : Plan) (old files : Files) → IsSoundRun r → HasInts r.initial →
    HasFileNames r.plan restart_stream → input_of old r.plan ≡ Ok r.initial →
    IsRestartTime r m → IsContinuedPlan r m plan → HasFilesOf r m plan old files →
    input_of files plan ≡ Ok (initial_after r m)

-- so it is in the store that r left, where no nest that starts at the restart time has a restart
-- file of another run
abbrev pub RestartFilesAreReadBackWhereWritten : Type 0
RestartFilesAreReadBackWhereWritten =
    (r : RunData) (m : ℕ) (plan : Plan) (old : Files) → IsSoundRun r → HasInts r.initial →
    HasFileNames r.plan restart_stream → input_of old r.plan ≡ Ok r.initial →
    IsRestartTime r m → IsContinuedPlan r m plan →
    ((d : ℕ) → IsDomain r.plan d → goes_on r m d ≡ false → (domain_of plan d).begins ≤ℤ pos 0 →
    old (restart_file plan d) ≡ None) →
    input_of (files_after_all old (writes_of r)) plan ≡ Ok (initial_after r m)
