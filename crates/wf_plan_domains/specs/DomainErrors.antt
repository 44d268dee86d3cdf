-- The fault that an error tells of.
use Rattle.std.specs.Prelude.{Option, Some, None}
use Rattle.wf_model.specs.declared.plan_fault.PlanFault.{PlanFault}
use Rattle.wf_plan_domains.specs.declared.error.PlanError.{PlanError}
use Rattle.wf_plan_domains.specs.declared.error.PlanError.TheVariants as plan

-- want of memory is no fault of a plan
abbrev pub fault_of : PlanError → Option PlanFault
fault_of plan.Memory = None
fault_of (plan.Fault f) = Some f
