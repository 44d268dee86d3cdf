-- The headers of the files that this project writes.
use Rattle.std.specs.Prelude.{ℕ, ◌+◌, ◌==◌, Bool, nat_lt, min, List, [], ◌∷◌, ◌++◌, length, map}
use Rattle.std.specs.Prelude.{flat_map, fold, if◌then◌else◌, codes}
use Rattle.std.specs.List.{list_any, position_or_len}
use Rattle.std.specs.Str.{bytes_eq}
use Rattle.wf_model.specs.declared.plan.Plan.{Plan}
use Rattle.wf_model.specs.declared.plan.Field.{Field}
use Rattle.wf_model.specs.declared.header.Header.{Header}
use Rattle.wf_model.specs.declared.header.Dim.{Dim}
use Rattle.wf_model.specs.declared.header.Att.{Att}
use Rattle.wf_model.specs.declared.header.Var.{Var}
use Rattle.wf_model.specs.Plans.{field_of, nz}
use Rattle.wf_model.specs.Script.{restart_stream}
use Rattle.wf_model.specs.Streams.{file_x, file_y, stream_levels, variable_name}
use Rattle.wf_model.specs.Bytes.{four_bytes, header_bytes}
use Rattle.wf_model.specs.Sizes.{is_record_var, padded_size, fixed_size}

-- an attribute that is a text. An empty text has count 0
abbrev pub text_att : List ℕ → List ℕ → Att
text_att name text = record { name = name; kind = 2; count = length text; bytes = text }

-- an attribute that is one whole number
abbrev pub int_att : List ℕ → ℕ → Att
int_att name n = record { name = name; kind = 4; count = 1; bytes = four_bytes n }

-- the name of a dimension: a staggered one has its own
abbrev pub dim_name : List ℕ → Bool → List ℕ
dim_name name staggered = if staggered then name ++ codes "_stag" else name

-- a dimension of a name and a length
abbrev pub dim : List ℕ → ℕ → Dim
dim name len = record { name = name; len = len }

-- a level's dimension from west to east
abbrev pub dim_x : Plan → ℕ → ℕ → Dim
dim_x plan d f = dim (dim_name (field_of plan f).x_name (field_of plan f).stag_x) (file_x plan d f)

-- a level's dimension from south to north
abbrev pub dim_y : Plan → ℕ → ℕ → Dim
dim_y plan d f = dim (dim_name (field_of plan f).y_name (field_of plan f).stag_y) (file_y plan d f)

-- a level's dimension from bottom to top
abbrev pub dim_z : Plan → ℕ → Dim
dim_z plan f = dim (dim_name (field_of plan f).z_name (field_of plan f).stag_z) (nz plan f)

-- its dimensions in order x, y, z
abbrev pub dims_of_level : Plan → ℕ → ℕ → List Dim
dims_of_level plan d f =
    dim_x plan d f ∷ dim_y plan d f ∷ (if (field_of plan f).z then dim_z plan f ∷ [] else [])

-- a dimension more, but each name once, where it comes first
abbrev pub add_dim : List Dim → Dim → List Dim
add_dim known x =
    if list_any (λ (y : Dim). bytes_eq y.name x.name) known then known else (known ++ (x ∷ []))

-- `Time`, which is the record dimension, `DateStrLen`, and those of the levels of a stream, each at
-- its first use
unfoldable pub dims_of : Plan → ℕ → ℕ → List Dim
dims_of plan d stream = fold add_dim (dim (codes "Time") 0 ∷ dim (codes "DateStrLen") 19 ∷ [])
    (flat_map (dims_of_level plan d) (stream_levels plan stream))

-- the number of the dimension of this name, from 0
abbrev pub dim_number : List Dim → Dim → ℕ
dim_number dims x = position_or_len (λ (y : Dim). bytes_eq y.name x.name) dims

-- the letters of the directions in which it is staggered
abbrev pub letters : Field → List ℕ
letters field = (if field.stag_x then codes "X" else []) ++ (if field.stag_y then codes "Y" else [])
    ++ (if field.stag_z then codes "Z" else [])

-- the attributes of a level, in order
abbrev pub level_atts : Field → List Att
level_atts field =
    int_att (codes "FieldType") 106
    ∷ text_att (codes "MemoryOrder") (if field.z then codes "XYZ" else codes "XY ")
    ∷ text_att (codes "description") field.description ∷ text_att (codes "units") field.units
    ∷ text_att (codes "stagger") (letters field) ∷ []

-- a level as a variable: whole numbers, by Time, z where it has one, y and x
abbrev pub level_var : Plan → ℕ → ℕ → List Dim → ℕ → Var
level_var plan d stream dims f = record {
  name = variable_name plan stream f;
  dims = 0 ∷ (if (field_of plan f).z then dim_number dims (dim_z plan f) ∷ [] else [])
      ++ dim_number dims (dim_y plan d f) ∷ dim_number dims (dim_x plan d f) ∷ [];
  atts = level_atts (field_of plan f);
  kind = 4;
  vsize = 0;
  begin = 0;
}

-- the time texts as a variable, by Time and DateStrLen
abbrev pub times_var : Var
times_var =
    record { name = codes "Times"; dims = 0 ∷ 1 ∷ []; atts = []; kind = 2; vsize = 0; begin = 0 }

-- the header of a file, with no record and nothing placed
unfoldable pub file_header : Plan → ℕ → ℕ → List ℕ → ℕ → Header
file_header plan d stream start_text steps = record {
  version = plan.version;
  numrecs = 0;
  dims = dims_of plan d stream;
  atts = text_att (codes "START_DATE") start_text ∷ int_att (codes "GRID_ID") d
      ∷ (if stream == restart_stream
      then int_att (codes "STEPS") (min steps 2147483647) ∷ [] else []);
  vars = times_var
      ∷ map (level_var plan d stream (dims_of plan d stream)) (stream_levels plan stream);
}

-- ---- places: fixed variables stand first, and then the record variables, each of the two in order

-- vsize says sizes of up to 4,294,967,292 bytes, and has its greatest value for a larger one
abbrev pub vsize_of : ℕ → ℕ
vsize_of size = if nat_lt 4294967292 size then 4294967295 else size

-- the same variable with its size, and its begin at a place
abbrev pub placed_var : List Dim → ℕ → Var → Var
placed_var dims at v =
    record {
      name = v.name;
      dims = v.dims;
      atts = v.atts;
      kind = v.kind;
      vsize = vsize_of (padded_size dims v);
      begin = at;
    }

-- the variables, each placed: by the places of the next fixed and of the next record variable
abbrev pub placed_from : List Dim → ℕ → ℕ → List Var → List Var
placed_from dims fixed moving [] = []
placed_from dims fixed moving (v ∷ vs) =
    if is_record_var dims v
    then placed_var dims moving v ∷ placed_from dims fixed (moving + padded_size dims v) vs
    else placed_var dims fixed v ∷ placed_from dims (fixed + padded_size dims v) moving vs

-- a header with all its variables placed: data begins at the header's end
unfoldable pub placed : Header → Header
placed h = record {
  version = h.version;
  numrecs = h.numrecs;
  dims = h.dims;
  atts = h.atts;
  vars =
      placed_from h.dims (length (header_bytes h)) (length (header_bytes h) + fixed_size h) h.vars;
}
