-- What the domains of a plan begin with, and what reading it leaves of a store.
use Rattle.std.specs.Prelude.{◌≡◌, ℕ, ◌+◌, ◌<◌, ◌≤◌, List, length, Option, Some, None, IsTrue}
use Rattle.std.specs.Prelude.{slice_index_or}
use Rattle.wf_io.specs.declared.store.IoError.{IoError}
use Rattle.wf_io.specs.declared.store.IoError.TheVariants as io
use Rattle.wf_io.specs.Files.{Told}
use Rattle.wf_model.specs.declared.plan.Plan.{Plan}
use Rattle.wf_model.specs.declared.plan_fault.InputFault.{InputFault}
use Rattle.wf_model.specs.declared.plan_fault.InputKind.{InputKind}
use Rattle.wf_model.specs.Dates.{is_stamp}
use Rattle.wf_model.specs.Files.{Files}
use Rattle.wf_model.specs.InputOf.{DomainBegin, fresh}
use Rattle.wf_model.specs.Letters.{Text}
use Rattle.wf_stream.specs.declared.input.InputError.{InputError}
use Rattle.wf_stream.specs.declared.input.InputError.TheVariants as input
use Rattle.wf_stream.specs.declared.input_file.FileError.{FileError}
use Rattle.wf_stream.specs.declared.input_file.FileError.TheVariants as file
use Rattle.wf_stream.specs.declared.input_file.DomainStart.{DomainStart}
use Rattle.wf_stream.specs.Levels.{HasLevels}

-- what a domain begins with
abbrev pub begin_in : DomainStart → DomainBegin
begin_in start = record { begin = start.begin; grids = start.grids }

-- it doesn't resume, its start is told by a text of a moment, and its lists fit the plan
pub record FitsDomain (plan : Plan) (d : ℕ) (start : DomainStart) : Type 0 where
  pub fresh : start.begin ≡ fresh plan d
  pub stamp : IsTrue (is_stamp start.begin.start_text)
  pub levels : HasLevels plan d start.grids

-- so does each of them, from domain 1 on
abbrev pub FitDomains : Plan → List DomainStart → Type 0
FitDomains plan starts = (k : ℕ) (none : DomainStart) → k < length starts →
    FitsDomain plan (k + 1) (slice_index_or starts k none)

-- ---- errors

-- want of memory is no fault of the file
abbrev pub kind_of : FileError → Option InputKind
kind_of (file.Fault k) = Some k
kind_of file.Memory = None

-- the error is this refusal, unless memory was wanting
abbrev pub Tells : InputError → InputFault → Type 0
Tells (input.Fault f) x = f ≡ x
Tells (input.Store name) x = ⊥
Tells input.Memory x = Unit {0}

-- the error is no fault of the store
abbrev pub NoFault : InputError → Type 0
NoFault (input.Fault f) = Unit {0}
NoFault (input.Store name) = ⊥
NoFault input.Memory = Unit {0}

-- where the error is a fault of the store, it names this file
abbrev pub FaultOn : InputError → Text → Type 0
FaultOn (input.Fault f) name = Unit {0}
FaultOn (input.Store other) name = other ≡ name
FaultOn input.Memory name = Unit {0}

-- the error of a call of a store: the name of the file, unless memory was wanting
abbrev pub IsIoError : IoError → Text → InputError → Type 0
IsIoError error name (input.Fault f) = ⊥
IsIoError error name (input.Store other) = (error ≡ io.Fault) × (other ≡ name)
IsIoError error name input.Memory = Unit {0}

-- a store from which only was read: its files stay, and its count of faults doesn't fall
pub record OnlyRead (old new : Option Files) (before after : ℕ) : Type 0 where
  pub same : Told old new (λ m n. n ≡ m)
  pub later : before ≤ after
