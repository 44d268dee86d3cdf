-- The levels of a stream by their fields, and their dimensions.
use Rattle.std.specs.Prelude.{ℕ, ◌/◌, ◌%◌, ◌^◌, ◌==◌, Bool, ◌&&◌, min, List, [], ◌∷◌, ◌++◌}
use Rattle.std.specs.Prelude.{flat_map, fold, if◌then◌else◌, codes}
use Rattle.std.specs.List.{position_or_len}
use Rattle.std.specs.Str.{bytes_eq}
use Rattle.wf_model.specs.declared.plan.Plan.{Plan}
use Rattle.wf_model.specs.declared.plan.Field.{Field}
use Rattle.wf_model.specs.declared.header.Dim.{Dim}
use Rattle.wf_model.specs.declared.header.Att.{Att}
use Rattle.wf_model.specs.declared.header.Var.{Var}
use Rattle.wf_model.specs.Script.{restart_stream}
use Rattle.wf_model.specs.Headers.{text_att, int_att, dim, dim_name, add_dim, dims_of_level}
use Rattle.wf_model.specs.Headers.{level_atts}
use Rattle.wf_model.specs.Plans.{field_of}
use Rattle.wf_model.specs.Streams.{variable_name}

-- whether a stream holds the level
abbrev pub holds : ℕ → Field → Bool
holds stream field = if stream == restart_stream then field.restart
    else (field.last && ((field.streams / 2 ^ stream) % 2 == 1))

-- `Time`, which is the record dimension, and `DateStrLen`
abbrev pub first_dims : List Dim
first_dims = dim (codes "Time") 0 ∷ dim (codes "DateStrLen") 19 ∷ []

-- the dimensions of a file with these levels
unfoldable pub dims_of_levels : Plan → ℕ → List ℕ → List Dim
dims_of_levels plan d levels = fold add_dim first_dims (flat_map (dims_of_level plan d) levels)

-- the global attributes of a file
abbrev pub global_atts : ℕ → ℕ → List ℕ → ℕ → List Att
global_atts d stream start_text steps =
    text_att (codes "START_DATE") start_text ∷ int_att (codes "GRID_ID") d
    ∷ (if stream == restart_stream then int_att (codes "STEPS") (min steps 2147483647) ∷ [] else [])

-- the number of the dimension of this name, or the count of the dimensions where there is none
abbrev pub number_named : List Dim → List ℕ → ℕ
number_named dims name = position_or_len (λ (y : Dim). bytes_eq y.name name) dims

-- the numbers of a level's dimensions: Time, z where it has one, y and x
abbrev pub level_numbers : List Dim → Field → List ℕ
level_numbers dims field =
    0 ∷ (if field.z then number_named dims (dim_name field.z_name field.stag_z) ∷ [] else [])
    ++ number_named dims (dim_name field.y_name field.stag_y)
    ∷ number_named dims (dim_name field.x_name field.stag_x) ∷ []

-- a level as a variable over these dimensions
abbrev pub written_var : Plan → ℕ → List Dim → ℕ → Var
written_var plan stream dims f =
    record {
      name = variable_name plan stream f;
      dims = level_numbers dims (field_of plan f);
      atts = level_atts (field_of plan f);
      kind = 4;
      vsize = 0;
      begin = 0;
    }
