-- The plan of a case that was read.
use Rattle.std.specs.Prelude.{List}
use Rattle.std.specs.List.{All}
use Rattle.wf_model.specs.declared.config.Config.{Config}
use Rattle.wf_model.specs.declared.plan.Plan.{Plan}
use Rattle.wf_model.specs.declared.table.HookName.{HookName}
use Rattle.wf_model.specs.KeptLines.{Defines}
use Rattle.wf_model.specs.Sound.{CallsHooks}
use Rattle.wf_model.specs.Hooks.{HasFewArguments}
use Rattle.wf_plan_laws.specs.PlanLaws.{IsAcceptedPlan}
use Rattle.wf_plan_laws.proofs.Plans.{plans_with_hooks_are_sound}
use Rattle.wf_setup.specs.ReadTexts.{IsBoundConfig, IsPlanOf}
use Rattle.wf_setup.specs.SetUp.{IsSinglePlan, IsSetUp}
use Rattle.wf_setup.proofs.NoRestart.{UsesNoRestart, no_restart, starts_in_time}

module _ (hooks : List HookName) (defines : Defines) (config : Config) (plan : Plan) (ranged : All HasFewArguments hooks) (bound : IsBoundConfig defines config) (made : IsPlanOf hooks config plan) where
  accepted : IsAcceptedPlan hooks plan
  accepted = plans_with_hooks_are_sound bound.read.files defines bound.registry bound.namelist config hooks made.table.text made.items plan bound.read.read bound.bound ranged made.table.read made.planned

  single : IsSinglePlan plan
  single = record { sound = accepted.sound; ranged = accepted.ranged; files = accepted.files; single = accepted.single }

  pub is_set_up : IsSetUp plan
  is_set_up =
      let fresh : UsesNoRestart plan = no_restart bound.registry bound.namelist config hooks made.items plan bound.bound made.planned in
      record { single = single; no_restart = fresh.restart; no_restart_files = fresh.files; starts = starts_in_time plan single }

  -- each call is of one of these functions
  pub calls_hooks : All (CallsHooks hooks) plan.items
  calls_hooks = accepted.calls
