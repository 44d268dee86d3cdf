use Rattle.std.proofs.Common.{◌≡◌, [], drop}
use Rattle.wf_model.specs.Table.{items_from}
use Rattle.wf_table.proofs.table.items.Given as goal

abbrev pub invariant-loop-line : goal.invariant-loop-line
invariant-loop-line l = items_from l.names l.items.items (drop l.line-index l.lines) ≡ items_from l.names [] l.lines
