use Rattle.std.proofs.Common.{◌≡◌, ◌<◌, ◌≤◌, ◌+◌, get_or, length, sym, ap, subst, ◌∙◌}
use Rattle.std.specs.Prelude.{flat_map}
use Rattle.wf_model.specs.Plans.{domain_of, domains_of}
use Rattle.wf_model.specs.Reading.{first_fault}
use Rattle.wf_plan_reads.specs.Regions.{levels_in, of_item}
use Rattle.wf_plan_reads.proofs.FirstFaults.{all_passed, domain_at, met, none_is, number_at, number_end, number_within, passed}
use Rattle.wf_plan_reads.proofs.faults.levels_fault.Goals as goal

pub returns-then-is_some : goal.returns-then-is_some
returns-then-is_some c =
    let within : c.loop-domain.domain-index < length c.args.plan.now.domains = (subst (λ xs. c.loop-domain.domain-index < length xs) c.as_slice-domain-items.ensures c.loop-domain-test.true) in
    let is : c.domain-item.result ≡ get_or c.args.plan.now.domains c.loop-domain.domain-index c.domain-item.result = (subst (λ xs. c.domain-item.result ≡ get_or xs c.loop-domain.domain-index c.domain-item.result) c.as_slice-domain-items.ensures c.domain-item.is) in
    met (λ d. flat_map (of_item (levels_in c.args.plan.now c.args.extents.now (domain_of c.args.plan.now d))) c.args.plan.now.items) (domains_of c.args.plan.now) c.loop-domain.domain-index (c.loop-domain.domain-index + 1) c.in_ok-fault.fault _
    (number_within c.args.plan.now c.loop-domain.domain-index within) (number_at c.args.plan.now c.loop-domain.domain-index within) (c.in_ok-fault.ensures ∙ ap (λ dom. first_fault (flat_map (of_item (levels_in c.args.plan.now c.args.extents.now dom)) c.args.plan.now.items)) (domain_at c.args.plan.now c.loop-domain.domain-index c.domain-item.result within is))
    (sym c.is_some.ensures ∙ c.if-is_some.true) c.loop-domain.invariant

pub loop-domain-preserved : goal.loop-domain-preserved
loop-domain-preserved c =
    let within : c.loop-domain.domain-index < length c.args.plan.now.domains = (subst (λ xs. c.loop-domain.domain-index < length xs) c.as_slice-domain-items.ensures c.loop-domain-test.true) in
    let is : c.domain-item.result ≡ get_or c.args.plan.now.domains c.loop-domain.domain-index c.domain-item.result = (subst (λ xs. c.domain-item.result ≡ get_or xs c.loop-domain.domain-index c.domain-item.result) c.as_slice-domain-items.ensures c.domain-item.is) in
    passed (λ d. flat_map (of_item (levels_in c.args.plan.now c.args.extents.now (domain_of c.args.plan.now d))) c.args.plan.now.items) (domains_of c.args.plan.now) c.loop-domain.domain-index (c.loop-domain.domain-index + 1) _
    (number_within c.args.plan.now c.loop-domain.domain-index within) (number_at c.args.plan.now c.loop-domain.domain-index within)
    (none_is c.in_ok-fault.fault (sym c.is_some.ensures ∙ c.if-is_some.false) ∙ c.in_ok-fault.ensures ∙ ap (λ dom. first_fault (flat_map (of_item (levels_in c.args.plan.now c.args.extents.now dom)) c.args.plan.now.items)) (domain_at c.args.plan.now c.loop-domain.domain-index c.domain-item.result within is)) c.loop-domain.invariant

pub returns : goal.returns
returns c =
    all_passed (λ d. flat_map (of_item (levels_in c.args.plan.now c.args.extents.now (domain_of c.args.plan.now d))) c.args.plan.now.items) (domains_of c.args.plan.now) c.loop-domain.domain-index _
    (number_end c.args.plan.now c.loop-domain.domain-index (subst (λ xs. length xs ≤ c.loop-domain.domain-index) c.as_slice-domain-items.ensures c.loop-domain-test.false)) c.loop-domain.invariant
