use Rattle.std.proofs.Common.{◌≡◌, ℕ, suc, length, Option, Some, None}
use Rattle.std.specs.List.{list_all, slice_split}
use Rattle.std.specs.Option.{option_copied}
use Rattle.wf_model.specs.Letters.{Text, is_among, lower}
use Rattle.wf_model.specs.Groups.{is_comma}
use Rattle.wf_registry_columns.specs.Heads.{parts_left}
use Rattle.wf_registry.specs.Sorts.{declared_of}
use Rattle.wf_registry.proofs.unknown.are_declared.Given as goal

abbrev pub invariant-loop-rest : goal.invariant-loop-rest
invariant-loop-rest l =
    list_all (λ name. is_among (lower name) (declared_of l.listed l.all)) (parts_left is_comma (option_copied l.rest))
    ≡ list_all (λ name. is_among (lower name) (declared_of l.listed l.all)) (slice_split is_comma l.fn.names)

abbrev size : Option Text → ℕ
size None = 0
size (Some bytes) = suc (length bytes)

abbrev pub decreases-loop-rest : goal.decreases-loop-rest
decreases-loop-rest l = size (option_copied l.rest)
