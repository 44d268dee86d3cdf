use Rattle.std.proofs.Common.{◌≡◌, ◌+◌}
use Rattle.wf_plan_domains.specs.DomainTests.{nest_fault, nests_fault}
use Rattle.wf_plan_domains.proofs.FirstFound.{first_from}
use Rattle.wf_plan_domains.proofs.nests.nests_fault.Given as goal

abbrev pub invariant-loop-nest : goal.invariant-loop-nest
invariant-loop-nest l = first_from (nest_fault l.test l.plan) l.nest (l.last + 1) ≡ nests_fault l.test l.plan
