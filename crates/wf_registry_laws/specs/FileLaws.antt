-- In the files of each stream no two variables have one name.
use Rattle.std.specs.Prelude.{◌≡◌, ℕ, List, ◌∷◌, map, codes}
use Rattle.wf_model.specs.declared.config.Config.{Config}
use Rattle.wf_model.specs.declared.plan.Plan.{Plan}
use Rattle.wf_model.specs.declared.table.HookName.{HookName}
use Rattle.wf_model.specs.Streams.{stream_levels, variable_name}
use Rattle.wf_registry_laws.specs.RegistryLaws.{AreDistinct}
use Rattle.wf_registry_laws.specs.ConfigLaws.{IsSoundConfig}
use Rattle.wf_registry_laws.specs.FieldLaws.{field_levels}

-- of the levels that a stream holds, beside the variable of the times
abbrev pub FileVariablesAreDistinct : Type 0
FileVariablesAreDistinct =
    (config : Config) (hooks : List HookName) (plan : Plan) → IsSoundConfig config →
    plan.fields ≡ field_levels config hooks → (stream : ℕ) →
    AreDistinct (codes "Times" ∷ map (variable_name plan stream) (stream_levels plan stream))
