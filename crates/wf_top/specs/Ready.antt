-- What a run on whole domains needs before it is stepped.
use Rattle.std.specs.Prelude.{List, All}
use Rattle.wf_model.specs.declared.plan.Plan.{Plan}
use Rattle.wf_model.specs.declared.initial.Initial.{Initial}
use Rattle.wf_model.specs.declared.table.HookName.{HookName}
use Rattle.wf_model.specs.Sound.{CallsHooks, IsFittingInitial}
use Rattle.wf_setup.specs.SetUp.{IsSinglePlan}

-- a plan that was accepted, which calls these functions, and what fits it
pub record IsReady (hooks : List HookName) (plan : Plan) (initial : Initial) : Type 0 where
  pub single : IsSinglePlan plan
  pub calls : All (CallsHooks hooks) plan.items
  pub fitting : IsFittingInitial plan initial
