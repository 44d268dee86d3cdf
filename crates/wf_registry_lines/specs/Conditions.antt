-- Where the next line stands, or what is wrong.
use Rattle.std.specs.Prelude.{◌+◌, ◌-◌, ◌==◌, Bool, true, false, not, ◌&&◌, Option, Some, None}
use Rattle.std.specs.Prelude.{Result, Ok, Err, if◌then◌else◌}
use Rattle.std.specs.List.{list_any}
use Rattle.std.specs.Str.{bytes_eq}
use Rattle.wf_model.specs.declared.registry.RegistryKind.{RegistryKind}
use Rattle.wf_model.specs.declared.registry.RegistryKind.TheVariants.{Columns, UnclosedIf}
use Rattle.wf_model.specs.declared.registry.RegistryKind.TheVariants.{StrayEndif}
use Rattle.wf_model.specs.declared.text.Line.{Line}
use Rattle.wf_model.specs.Letters.{Text, lower}
use Rattle.wf_model.specs.KeptLines.{Defines, columns, first_column, holds, is_condition, texts}
use Rattle.wf_registry_lines.specs.declared.condition.Conditions.{Conditions}

-- the name, ignoring case, has this value
abbrev pub is_defined : Defines → Text → Text → Bool
is_defined defines name value =
    list_any (λ (d : Text × Text). bytes_eq (lower d.0) (lower name) && bytes_eq d.1 value) defines

-- whether the condition holds, if the word is one
abbrev pub condition_of : Defines → Text → Option Bool
condition_of defines word = if is_condition word then Some (holds defines word) else None

-- one ifdef more, whose lines are kept or dropped
abbrev pub with_condition : Conditions → Bool → Conditions
with_condition c true = record { keeping = c.keeping + 1; dropping = 0 }
with_condition c false = record { keeping = c.keeping; dropping = 1 }

abbrev pub judged : Conditions → Option Bool → Result Conditions RegistryKind
judged c None = Err Columns
judged c (Some holds) = Ok (with_condition c holds)

-- after an ifdef with this column, in lines that are kept
abbrev pub condition_kind : Defines → Conditions → Option Text → Result Conditions RegistryKind
condition_kind defines c None = Err Columns
condition_kind defines c (Some word) = judged c (condition_of defines word)

-- after an ifdef
abbrev pub deeper_kind : Defines → Line → Bool → Conditions → Result Conditions RegistryKind
deeper_kind defines l closed c =
    if not (c.dropping == 0) then Ok (record { keeping = c.keeping; dropping = c.dropping + 1 })
    else (if closed then condition_kind defines c (first_column (columns (texts l)))
    else Err UnclosedIf)

-- after an endif
abbrev pub shallower_kind : Conditions → Result Conditions RegistryKind
shallower_kind c =
    if not (c.dropping == 0) then Ok (record { keeping = c.keeping; dropping = c.dropping - 1 })
    else (if c.keeping == 0 then Err StrayEndif
    else Ok (record { keeping = c.keeping - 1; dropping = 0 }))
