-- What may stand before the colon of a group, and the groups that are left.
use Rattle.std.specs.Prelude.{ℕ, Bool, List, [], Option, Some, None}
use Rattle.std.specs.List.{slice_split}
use Rattle.wf_model.specs.declared.registry.RegistryKind.{RegistryKind}
use Rattle.wf_model.specs.Letters.{Text}
use Rattle.wf_model.specs.Groups.{state_head, points_head, width_head}
use Rattle.wf_registry_columns.specs.declared.groups.Head.{Head}
use Rattle.wf_registry_columns.specs.declared.groups.Head.TheVariants as heads

abbrev pub head_rule : Head → Text → Option RegistryKind
head_rule heads.State = state_head
head_rule heads.Points = points_head
head_rule heads.Width = width_head

-- the parts of what is left, if any
abbrev pub parts_left : (ℕ → Bool) → Option Text → List Text
parts_left separates None = []
parts_left separates (Some bytes) = slice_split separates bytes
