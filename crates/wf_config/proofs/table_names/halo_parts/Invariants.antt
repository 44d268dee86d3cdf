use Rattle.std.proofs.Common.{◌≡◌, take}
use Rattle.std.specs.List.{flat_map}
use Rattle.wf_model.specs.NamesOf.{group_parts, halo_part}
use Rattle.wf_config.proofs.table_names.halo_parts.Given as goal

abbrev pub invariant-loop-group : goal.invariant-loop-group
invariant-loop-group l = l.made.items ≡ flat_map (λ g. group_parts halo_part l.levels g.now) (take l.group-index l.group-items)
