-- The case of a store: what its Registry and namelist say, and the plan of that and of its table.
use Rattle.std.specs.Prelude.{List, Result, Ok}
use Rattle.wf_model.specs.declared.table.HookName.{HookName}
use Rattle.wf_model.specs.Reading.{◌>>=◌}
use Rattle.wf_model.specs.KeptLines.{Defines}
use Rattle.wf_model.specs.Files.{Files}
use Rattle.wf_model.specs.Refusals.{Refusal}
use Rattle.wf_model.specs.FilesRead.{config_read, plan_made}
use Rattle.wf_setup.specs.declared.cases.Case.{Case}

-- Registry, namelist, table and plan, where these functions are stored
unfoldable pub case_read : List HookName → Files → Defines → Result Case Refusal
case_read hooks files defines =
    config_read files defines >>= λ config.
    plan_made hooks files config >>= λ plan.
    Ok (record { config = config; plan = plan })
