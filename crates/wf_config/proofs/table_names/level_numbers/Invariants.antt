use Rattle.std.proofs.Common.{◌≡◌, take}
use Rattle.std.specs.List.{filter_map}
use Rattle.wf_model.specs.Letters.{lower}
use Rattle.wf_model.specs.NamesOf.{level_number}
use Rattle.wf_config.proofs.table_names.level_numbers.Given as goal

abbrev pub invariant-loop-name : goal.invariant-loop-name
invariant-loop-name l = l.numbers.items ≡ filter_map (λ w. level_number l.levels (lower w.now)) (take l.name-index l.name-items)
