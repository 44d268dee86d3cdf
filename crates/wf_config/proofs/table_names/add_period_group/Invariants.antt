use Rattle.std.proofs.Common.{◌≡◌, ◌++◌, map, take}
use Rattle.wf_config.proofs.table_names.add_period_group.Given as goal

abbrev pub invariant-loop-field : goal.invariant-loop-field
invariant-loop-field l = l.made.items ≡ l.fn.made.items ++ map (λ f. record { field = f; width = l.width }) (take l.field-index l.field-items)
