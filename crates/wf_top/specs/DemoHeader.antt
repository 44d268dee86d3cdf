-- The header of the demo's file, part by part.
use Rattle.std.specs.Prelude.{ℕ, List, [], ◌∷◌, codes}
use Rattle.wf_model.specs.declared.header.Header.{Header}
use Rattle.wf_model.specs.declared.header.Dim.{Dim}
use Rattle.wf_model.specs.declared.header.Att.{Att}
use Rattle.wf_model.specs.declared.header.Var.{Var}
use Rattle.wf_model.specs.Headers.{text_att, int_att, dim, times_var}
use Rattle.wf_model.specs.DemoCase.{case_start}

abbrev pub demo_dims : ℕ → ℕ → List Dim
demo_dims nx ny = dim (codes "Time") 0 ∷ dim (codes "DateStrLen") 19 ∷ dim (codes "west_east") nx
    ∷ dim (codes "south_north") ny ∷ []

abbrev pub demo_atts : List Att
demo_atts = text_att (codes "START_DATE") case_start ∷ int_att (codes "GRID_ID") 1 ∷ []

abbrev pub field_atts : List Att
field_atts =
    int_att (codes "FieldType") 106 ∷ text_att (codes "MemoryOrder") (codes "XY ")
    ∷ text_att (codes "description") [] ∷ text_att (codes "units") []
    ∷ text_att (codes "stagger") [] ∷ []

abbrev pub field_var : Var
field_var = record
    { name = codes "T"; dims = 0 ∷ 3 ∷ 2 ∷ []; atts = field_atts; kind = 4; vsize = 0; begin = 0 }

abbrev pub demo_vars : List Var
demo_vars = times_var ∷ field_var ∷ []

-- with no record, and nothing placed
abbrev pub unplaced : ℕ → ℕ → Header
unplaced nx ny =
    record { version = 1; numrecs = 0; dims = demo_dims nx ny; atts = demo_atts; vars = demo_vars }
