use Rattle.std.proofs.Common.{◌≡◌}
use Rattle.wf_model.specs.PlanDomains.{domains_to}
use Rattle.wf_plan_domains.proofs.domains.domains_to.Given as goal

abbrev pub invariant-loop-made : goal.invariant-loop-made
invariant-loop-made l = l.domains.items ≡ domains_to l.config l.made
