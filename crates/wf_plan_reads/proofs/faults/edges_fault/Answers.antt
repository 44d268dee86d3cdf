use Rattle.std.proofs.Common.{◌≡◌, ◌<◌, ◌≤◌, ◌+◌, get_or, length, sym, ap₂, subst, ◌∙◌, rules}
use Rattle.std.specs.Prelude.{flat_map}
use Rattle.wf_model.specs.Plans.{domain_of, domains_of}
use Rattle.wf_model.specs.Reading.{first_fault}
use Rattle.wf_plan_reads.specs.Regions.{edges_in, of_item}
use Rattle.wf_plan_reads.proofs.FirstFaults.{all_passed, domain_at, met, none_is, number_at, number_end, number_within, passed}
use Rattle.wf_plan_reads.proofs.faults.edges_fault.Goals as goal

pub returns-then-is_some : goal.returns-then-is_some
returns-then-is_some c =
    let within : c.loop-i.i < length c.args.plan.now.domains = (subst (λ xs. c.loop-i.i < length xs) c.as_slice-domain-items.ensures c.loop-i-test.true) in
    let is : c.domain-item.result ≡ get_or c.args.plan.now.domains c.loop-i.i c.domain-item.result = (subst (λ xs. c.domain-item.result ≡ get_or xs c.loop-i.i c.domain-item.result) c.as_slice-domain-items.ensures c.domain-item.is) in
    let next : c.in-Ok.number ≡ c.loop-i.i + 1 = search rules in
    met (λ d. flat_map (of_item (edges_in c.args.plan.now c.args.extents.now d (domain_of c.args.plan.now d))) c.args.plan.now.items) (domains_of c.args.plan.now) c.loop-i.i (c.loop-i.i + 1) c.in_ok-fault.fault _
    (number_within c.args.plan.now c.loop-i.i within) (number_at c.args.plan.now c.loop-i.i within) (c.in_ok-fault.ensures ∙ ap₂ (λ n dom. first_fault (flat_map (of_item (edges_in c.args.plan.now c.args.extents.now n dom)) c.args.plan.now.items)) next (domain_at c.args.plan.now c.loop-i.i c.domain-item.result within is))
    (sym c.is_some.ensures ∙ c.if-is_some.true) c.loop-i.invariant

pub loop-i-preserved : goal.loop-i-preserved
loop-i-preserved c =
    let within : c.loop-i.i < length c.args.plan.now.domains = (subst (λ xs. c.loop-i.i < length xs) c.as_slice-domain-items.ensures c.loop-i-test.true) in
    let is : c.domain-item.result ≡ get_or c.args.plan.now.domains c.loop-i.i c.domain-item.result = (subst (λ xs. c.domain-item.result ≡ get_or xs c.loop-i.i c.domain-item.result) c.as_slice-domain-items.ensures c.domain-item.is) in
    let next : c.in-Ok.number ≡ c.loop-i.i + 1 = search rules in
    passed (λ d. flat_map (of_item (edges_in c.args.plan.now c.args.extents.now d (domain_of c.args.plan.now d))) c.args.plan.now.items) (domains_of c.args.plan.now) c.loop-i.i (c.loop-i.i + 1) _
    (number_within c.args.plan.now c.loop-i.i within) (number_at c.args.plan.now c.loop-i.i within)
    (none_is c.in_ok-fault.fault (sym c.is_some.ensures ∙ c.if-is_some.false) ∙ c.in_ok-fault.ensures ∙ ap₂ (λ n dom. first_fault (flat_map (of_item (edges_in c.args.plan.now c.args.extents.now n dom)) c.args.plan.now.items)) next (domain_at c.args.plan.now c.loop-i.i c.domain-item.result within is)) c.loop-i.invariant

pub returns : goal.returns
returns c =
    all_passed (λ d. flat_map (of_item (edges_in c.args.plan.now c.args.extents.now d (domain_of c.args.plan.now d))) c.args.plan.now.items) (domains_of c.args.plan.now) c.loop-i.i _
    (number_end c.args.plan.now c.loop-i.i (subst (λ xs. length xs ≤ c.loop-i.i) c.as_slice-domain-items.ensures c.loop-i-test.false)) c.loop-i.invariant
