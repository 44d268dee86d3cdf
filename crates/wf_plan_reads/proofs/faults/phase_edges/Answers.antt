use Rattle.std.proofs.Common.{sym, ◌∙◌}
use Rattle.wf_plan_reads.proofs.FirstFaults.{edges_found, edges_none}
use Rattle.wf_plan_reads.proofs.faults.phase_edges.Goals as goal

pub returns-in_ok-fault-in-Some : goal.returns-in_ok-fault-in-Some
returns-in_ok-fault-in-Some c =
    edges_found c.args.plan.now c.args.extents.now c.args.number c.args.domain.now c.args.phase.now (sym c.has_region.ensures ∙ c.if-not-has_region.false)
    c.in-Some.field c.in_ok-fault-in-Some.fault (sym c.first_past_edge.ensures ∙ c.in-Some.is) c.in_ok-fault-in-Some.ensures

pub returns-in-None : goal.returns-in-None
returns-in-None c =
    edges_none c.args.plan.now c.args.extents.now c.args.number c.args.domain.now c.args.phase.now (sym c.has_region.ensures ∙ c.if-not-has_region.false)
    (sym c.first_past_edge.ensures ∙ c.in-None.is)
