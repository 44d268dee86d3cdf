use Rattle.wf_plan_limits.proofs.ScriptItems.{within, past}
use Rattle.wf_plan_limits.proofs.Stages.{if_ok-both}
use Rattle.wf_plan_limits.proofs.script.script_fault.Goals as goal

pub returns-then-items-le-SCRIPT_ITEMS : goal.returns-then-items-le-SCRIPT_ITEMS
returns-then-items-le-SCRIPT_ITEMS c = within c.args.plan.now c.script_items-items.result c.script_items-items.ensures c.if-items-le-SCRIPT_ITEMS.true

pub returns : goal.returns
returns c =
    if_ok-both c.as_limit.result _ _ _ (λ fits f is. past c.args.plan.now c.script_items-items.result f c.script_items-items.ensures c.if-items-le-SCRIPT_ITEMS.false fits is) c.as_limit.ensures.fits c.as_limit.ensures.limit
