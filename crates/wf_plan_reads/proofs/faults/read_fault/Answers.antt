use Rattle.std.proofs.Common.{sym, ◌∙◌}
use Rattle.wf_plan_reads.proofs.FirstFaults.{edges_then, levels_first}
use Rattle.wf_plan_reads.proofs.faults.read_fault.Goals as goal

pub returns-then-is_some : goal.returns-then-is_some
returns-then-is_some c = levels_first c.args.plan.now c.args.extents.now c.in_ok-levels.levels c.in_ok-levels.ensures (sym c.is_some.ensures ∙ c.if-is_some.true)

pub returns : goal.returns
returns c = edges_then c.args.plan.now c.args.extents.now c.in_ok-levels.levels c.in_ok-edges.edges c.in_ok-levels.ensures (sym c.is_some.ensures ∙ c.if-is_some.false) c.in_ok-edges.ensures
