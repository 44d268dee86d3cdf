use Rattle.std.proofs.Common.{◌≡◌, ℕ, suc, length, Option, Some, None}
use Rattle.std.specs.Prelude.{flat_map}
use Rattle.std.specs.Option.{option_copied}
use Rattle.wf_model.specs.Letters.{Text}
use Rattle.wf_model.specs.Reading.{first_fault}
use Rattle.wf_model.specs.Groups.{group_faults, groups_of, is_semicolon}
use Rattle.wf_registry_columns.specs.Heads.{head_rule, parts_left}
use Rattle.wf_registry_columns.proofs.groups.groups_fault.Given as goal

abbrev pub invariant-loop-rest : goal.invariant-loop-rest
invariant-loop-rest l = first_fault (flat_map (group_faults (head_rule l.head)) (parts_left is_semicolon (option_copied l.rest))) ≡ first_fault (flat_map (group_faults (head_rule l.head)) (groups_of l.fn.groups))

abbrev size : Option Text → ℕ
size None = 0
size (Some bytes) = suc (length bytes)

abbrev pub decreases-loop-rest : goal.decreases-loop-rest
decreases-loop-rest l = size (option_copied l.rest)
