-- The refusal that an error tells of.
use Rattle.std.specs.Prelude.{◌≡◌, ℕ, Option, Some, None}
use Rattle.wf_io.specs.declared.store.IoError.{IoError}
use Rattle.wf_io.specs.declared.store.IoError.TheVariants as io
use Rattle.wf_io.specs.Files.{Rose}
use Rattle.wf_model.specs.Letters.{Text}
use Rattle.wf_model.specs.Refusals.{Refusal}
use Rattle.wf_setup.specs.declared.error.Refused.{Refused}
use Rattle.wf_setup.specs.declared.error.SetupError.{SetupError}
use Rattle.wf_setup.specs.declared.error.SetupError.TheVariants as setup

-- its status and its line
abbrev pub refusal_in : Refused → Refusal
refusal_in r = record { status = r.status; line = r.line }

-- a fault of the store and want of memory are no refusals
abbrev pub refusal_of : SetupError → Option Refusal
refusal_of (setup.Refused r) = Some (refusal_in r)
refusal_of (setup.Store name) = None
refusal_of setup.Memory = None

-- the error is this refusal, unless memory was wanting
abbrev pub Tells : SetupError → Refusal → Type 0
Tells (setup.Refused r) x = refusal_in r ≡ x
Tells (setup.Store name) x = ⊥
Tells setup.Memory x = Unit {0}

-- the error is no fault of the store
abbrev pub NoFault : SetupError → Type 0
NoFault (setup.Refused r) = Unit {0}
NoFault (setup.Store name) = ⊥
NoFault setup.Memory = Unit {0}

-- where the error is a fault of the store, it names this file
abbrev pub FaultOn : SetupError → Text → Type 0
FaultOn (setup.Refused r) file = Unit {0}
FaultOn (setup.Store name) file = name ≡ file
FaultOn setup.Memory file = Unit {0}

-- what a store tells of a fault: its count rose, and the file is that of its last call,
-- which failed
pub record IsFault (before after : ℕ) (failed name : Text) : Type 0 where
  pub rose : Rose before after
  pub last : failed ≡ name

-- where the error is a fault of the store, the store counted it, and it is that of its last call
abbrev pub FaultTold : SetupError → ℕ → ℕ → Text → Type 0
FaultTold (setup.Refused r) before after failed = Unit {0}
FaultTold (setup.Store name) before after failed = IsFault before after failed name
FaultTold setup.Memory before after failed = Unit {0}

-- the error of a call of a store: the name of the file, unless memory was wanting
abbrev pub IsIoError : IoError → Text → SetupError → Type 0
IsIoError error file (setup.Refused r) = ⊥
IsIoError error file (setup.Store name) = (error ≡ io.Fault) × (name ≡ file)
IsIoError error file setup.Memory = Unit {0}
