use Rattle.std.proofs.Common.{◌≡◌, take}
use Rattle.std.specs.Prelude.{sum_by}
use Rattle.wf_plan_limits.specs.CellCount.{domain_cells}
use Rattle.wf_plan_limits.proofs.cells.all_cells.Given as goal

abbrev pub invariant-loop-domain : goal.invariant-loop-domain
invariant-loop-domain l = l.total ≡ sum_by (domain_cells l.plan.fields) (take l.domain-index l.domain-items)
