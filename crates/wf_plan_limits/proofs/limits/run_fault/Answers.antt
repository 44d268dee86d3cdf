use Rattle.std.proofs.Common.{rules, ◌≡◌, ◌∙◌, ap, length, sym}
use Rattle.std.specs.Prelude.{flat_map}
use Rattle.wf_model.specs.Plans.{domains_of}
use Rattle.wf_model.specs.Reading.{first_fault}
use Rattle.wf_plan_limits.specs.LimitParts.{script_limit, files_of}
use Rattle.wf_plan_limits.proofs.Stages.{stays, goes_on, if_ok-along, run_faults-none, is_none}
use Rattle.wf_plan_limits.proofs.limits.run_fault.Goals as goal

pub returns-then-is_empty : goal.returns-then-is_empty
returns-then-is_empty c =
    sym (run_faults-none c.args.plan.now (is_none (length c.as_slice.result.now) (length c.args.plan.now.domains) (ap length c.as_slice.ensures) (sym c.if-is_empty.ensures)))

pub returns-then-is_some : goal.returns-then-is_some
returns-then-is_some c =
    let script : c.in_ok-fault.fault ≡ script_limit c.args.plan.now = search rules in
    stays c.in_ok-fault.fault (script_limit c.args.plan.now) (first_fault (flat_map (files_of c.args.plan.now) (domains_of c.args.plan.now))) script (sym c.if-is_some.ensures)

pub returns : goal.returns
returns c =
    let script : c.in_ok-fault.fault ≡ script_limit c.args.plan.now = search rules in
    if_ok-along c.files_fault.result _ _
    (λ f is. is ∙ goes_on c.in_ok-fault.fault (script_limit c.args.plan.now) (first_fault (flat_map (files_of c.args.plan.now) (domains_of c.args.plan.now))) script (sym c.if-is_some.ensures))
    c.files_fault.ensures
