use Rattle.std.proofs.Common.{◌≡◌, ◌<◌, get_or, length, sym, subst, ◌∙◌}
use Rattle.wf_plan_reads.specs.Regions.{edges_in, of_item}
use Rattle.wf_plan_reads.proofs.FirstFaults.{met, none_is, passed}
use Rattle.wf_plan_reads.proofs.faults.domain_edges.Goals as goal

pub returns-then-is_some : goal.returns-then-is_some
returns-then-is_some c =
    met (of_item (edges_in c.args.plan.now c.args.extents.now c.args.number c.args.domain.now)) c.args.plan.now.items c.loop-item.item-index c.item-item.result c.in_ok-fault.fault _
    (subst (λ xs. c.loop-item.item-index < length xs) c.as_slice-item-items.ensures c.loop-item-test.true)
    (subst (λ xs. c.item-item.result ≡ get_or xs c.loop-item.item-index c.item-item.result) c.as_slice-item-items.ensures c.item-item.is)
    c.in_ok-fault.ensures (sym c.is_some.ensures ∙ c.if-is_some.true) c.loop-item.invariant

pub loop-item-preserved : goal.loop-item-preserved
loop-item-preserved c =
    passed (of_item (edges_in c.args.plan.now c.args.extents.now c.args.number c.args.domain.now)) c.args.plan.now.items c.loop-item.item-index c.item-item.result _
    (subst (λ xs. c.loop-item.item-index < length xs) c.as_slice-item-items.ensures c.loop-item-test.true)
    (subst (λ xs. c.item-item.result ≡ get_or xs c.loop-item.item-index c.item-item.result) c.as_slice-item-items.ensures c.item-item.is)
    (none_is c.in_ok-fault.fault (sym c.is_some.ensures ∙ c.if-is_some.false) ∙ c.in_ok-fault.ensures) c.loop-item.invariant
