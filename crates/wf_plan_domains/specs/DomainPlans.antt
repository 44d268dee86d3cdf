-- The domains and times that a config asks for, and their first fault.
use Rattle.std.specs.Prelude.{◌*◌, ◌/◌, ◌==◌, ◌++◌, [], map, Result, codes}
use Rattle.wf_model.specs.declared.config.Config.{Config}
use Rattle.wf_model.specs.declared.plan.Plan.{Plan}
use Rattle.wf_model.specs.declared.plan_fault.PlanFault.{PlanFault}
use Rattle.wf_model.specs.Reading.{first_fault, unless_fault}
use Rattle.wf_model.specs.Calendar.{text_of}
use Rattle.wf_model.specs.PlanDomains.{amount, flag, domain_total, start_moment, run_seconds}
use Rattle.wf_model.specs.PlanDomains.{domains_to}
use Rattle.wf_model.specs.PlanTests.{unbuilt, unbuilt_fault, domain_faults}

-- what the config says of domains and times, sound or not: a plan without field levels and items
unfoldable pub domain_plan_from : Config → Plan
domain_plan_from config = record {
  domains = domains_to config (domain_total config);
  fields = [];
  items = [];
  start = text_of (start_moment config 1);
  steps = run_seconds config / amount config (codes "time_step") 1;
  restart_steps = amount config (codes "restart_interval") 1
      * 60 / amount config (codes "time_step") 1;
  restart = flag config (codes "restart") 1;
  feedback = amount config (codes "feedback") 1 == 1;
  bdy_width = amount config (codes "spec_bdy_width") 1;
  version = 1;
}

-- that plan, or the first fault of what isn't built, of its domains and of its times
unfoldable pub domain_plan_of : Config → Result Plan PlanFault
domain_plan_of config =
    unless_fault (first_fault (map (unbuilt_fault config) unbuilt
    ++ domain_faults config (domain_plan_from config))) (domain_plan_from config)
