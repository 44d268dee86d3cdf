-- What reading the input files of a run promises of its errors.
use Rattle.std.specs.Prelude.{◌≡◌, ℕ, ◌+◌, ◌≤◌, List, map, filter, Option, Some, None, Contains}
use Rattle.wf_io.specs.Files.{Rose}
use Rattle.wf_model.specs.declared.plan.Plan.{Plan}
use Rattle.wf_model.specs.declared.plan_fault.InputFault.{InputFault}
use Rattle.wf_model.specs.Calendar.{moment_of}
use Rattle.wf_model.specs.Dates.{last_moment, seconds_before}
use Rattle.wf_model.specs.InputOf.{input_file}
use Rattle.wf_model.specs.Letters.{Text}
use Rattle.wf_model.specs.Plans.{domain_of, domains_of}
use Rattle.wf_model.specs.Script.{not_before}
use Rattle.wf_model.specs.Sound.{IsDomain}
use Rattle.wf_stream.specs.declared.input.InputError.{InputError}
use Rattle.wf_stream.specs.declared.input.InputError.TheVariants as input

-- each domain starts within the years 1 to 9999
abbrev pub StartsInTime : Plan → Type 0
StartsInTime plan = (d : ℕ) → IsDomain plan d → seconds_before (moment_of plan.start)
    + not_before (domain_of plan d).begins ≤ seconds_before last_moment

-- a fault of the store and want of memory are no refusals
abbrev pub fault_of : InputError → Option InputFault
fault_of (input.Fault f) = Some f
fault_of (input.Store name) = None
fault_of input.Memory = None

-- what a store tells of a fault: its count rose, and the file is that of its last call,
-- which failed
pub record IsFault (before after : ℕ) (failed name : Text) : Type 0 where
  pub rose : Rose before after
  pub last : failed ≡ name

-- where the error is a fault of the store, the store counted it, and it is that of its last call
abbrev pub FaultTold : InputError → ℕ → ℕ → Text → Type 0
FaultTold (input.Fault f) before after failed = Unit {0}
FaultTold (input.Store name) before after failed = IsFault before after failed name
FaultTold input.Memory before after failed = Unit {0}

-- where the error is a fault of the store, its file is one of these
abbrev pub FaultAmong : InputError → List Text → Type 0
FaultAmong (input.Fault f) names = Unit {0}
FaultAmong (input.Store name) names = Contains names name
FaultAmong input.Memory names = Unit {0}

-- the input files of a plan, in order of domain
unfoldable pub input_names : Plan → List Text
input_names plan = map input_file (filter (λ d. (domain_of plan d).from_file) (domains_of plan))
