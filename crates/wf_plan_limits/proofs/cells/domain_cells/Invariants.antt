use Rattle.std.proofs.Common.{◌≡◌, take}
use Rattle.wf_plan_limits.specs.CellCount.{domain_cells}
use Rattle.wf_plan_limits.proofs.cells.domain_cells.Given as goal

abbrev pub invariant-loop-field : goal.invariant-loop-field
invariant-loop-field l = l.total ≡ domain_cells (take l.field-index l.fields) l.domain
