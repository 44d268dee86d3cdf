-- The case of a store is what its texts give together.
use Rattle.std.specs.Prelude.{◌≡◌, List, Ok, Err}
use Rattle.wf_model.specs.declared.table.HookName.{HookName}
use Rattle.wf_model.specs.KeptLines.{Defines}
use Rattle.wf_model.specs.Files.{Files}
use Rattle.wf_model.specs.Refusals.{Refusal}
use Rattle.wf_model.specs.FilesRead.{plan_read}
use Rattle.wf_setup.specs.declared.cases.Case.{Case}
use Rattle.wf_setup.specs.Cases.{case_read}

-- its config and plan
abbrev pub CaseIsPlanRead : List HookName → Files → Defines → Type 0
CaseIsPlanRead hooks files defines = (c : Case) → case_read hooks files defines ≡ Ok c →
    plan_read hooks files defines ≡ Ok (c.config, c.plan)

-- its refusal
abbrev pub RefusalIsPlanRead : List HookName → Files → Defines → Type 0
RefusalIsPlanRead hooks files defines =
    (x : Refusal) → case_read hooks files defines ≡ Err x → plan_read hooks files defines ≡ Err x

-- for all stored functions and files: the restart rule refuses no case, since none uses restart
abbrev pub CasesArePlansRead : Type 0
CasesArePlansRead = (hooks : List HookName) (files : Files) (defines : Defines) →
    CaseIsPlanRead hooks files defines × RefusalIsPlanRead hooks files defines
