-- The functions of the field levels are stored functions of their kinds.
use Rattle.std.specs.Prelude.{◌≡◌, List, All}
use Rattle.wf_model.specs.declared.config.Config.{Config}
use Rattle.wf_model.specs.declared.table.HookName.{HookName}
use Rattle.wf_model.specs.declared.table.HookKind.TheVariants.{Interp, Average}
use Rattle.wf_model.specs.Sound.{UsesHooks}
use Rattle.wf_registry_laws.specs.FieldLaws.{field_levels}

-- a stored function takes as many numbers as its kind wants
pub record HasUsualArity (h : HookName) : Type 0 where
  pub interp : h.kind ≡ Interp → h.arity ≡ 7
  pub average : h.kind ≡ Average → h.arity ≡ 5

-- so does each that a level has
abbrev pub LevelsUseHooks : Type 0
LevelsUseHooks = (config : Config) (hooks : List HookName) → All HasUsualArity hooks →
    All (UsesHooks hooks) (field_levels config hooks)
