-- The axis of a letter that was found.
use Rattle.std.specs.Prelude.{ℕ, Option, Some, None}
use Rattle.wf_registry_columns.specs.declared.axes.Letter.{Letter}

abbrev pub found_axis : Option Letter → ℕ
found_axis None = 0
found_axis (Some l) = l.axis
