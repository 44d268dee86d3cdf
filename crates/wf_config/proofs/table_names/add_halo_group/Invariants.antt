use Rattle.std.proofs.Common.{◌≡◌, ◌++◌, map, take}
use Rattle.wf_config.proofs.table_names.add_halo_group.Given as goal

abbrev pub invariant-loop-field : goal.invariant-loop-field
invariant-loop-field l = l.made.items ≡ l.fn.made.items ++ map (λ f. record { field = f; cross = l.cross; radius = l.radius }) (take l.field-index l.field-items)
