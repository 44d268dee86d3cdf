-- In the files of each stream names tell variables and dimensions apart.
use Rattle.std.specs.Prelude.{◌≡◌, ℕ, List}
use Rattle.wf_model.specs.declared.config.Config.{Config}
use Rattle.wf_model.specs.declared.plan.Plan.{Plan}
use Rattle.wf_model.specs.declared.table.HookName.{HookName}
use Rattle.wf_cdf_laws.specs.FileNames.{HasFileNames}
use Rattle.wf_registry_laws.specs.ConfigLaws.{IsSoundConfig}
use Rattle.wf_registry_laws.specs.FieldLaws.{field_levels}

-- no two variables have one name, and dimensions of one name have one length
abbrev pub PlansHaveFileNames : Type 0
PlansHaveFileNames =
    (config : Config) (hooks : List HookName) (plan : Plan) → IsSoundConfig config →
    plan.fields ≡ field_levels config hooks → (stream : ℕ) → HasFileNames plan stream
