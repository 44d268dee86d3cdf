-- Numbers, texts and headers in the netCDF classic format, as this project writes them.
use Rattle.std.specs.Prelude.{ℕ, ◌-◌, ◌%◌, ◌==◌, Bool, List, [], ◌∷◌, ◌++◌, length, replicate}
use Rattle.std.specs.Prelude.{flat_map, ℤ, if◌then◌else◌, codes}
use Rattle.std.specs.Int.{bytes_high_first, cast_unsigned, w32}
use Rattle.wf_model.specs.declared.header.Header.{Header}
use Rattle.wf_model.specs.declared.header.Dim.{Dim}
use Rattle.wf_model.specs.declared.header.Att.{Att}
use Rattle.wf_model.specs.declared.header.Var.{Var}

-- a number's lowest four bytes, the highest of them first
abbrev pub four_bytes : ℕ → List ℕ
four_bytes n = bytes_high_first 4 n

-- a number's lowest eight bytes, the highest of them first
abbrev pub eight_bytes : ℕ → List ℕ
eight_bytes n = bytes_high_first 8 n

-- a number below zero counts from 2 to the 32
abbrev pub int_bytes : ℤ → List ℕ
int_bytes z = four_bytes (cast_unsigned w32 z)

-- with zero bytes to a multiple of four
abbrev pub padded : List ℕ → List ℕ
padded bytes = bytes ++ replicate ((4 - length bytes % 4) % 4) 0

-- the numbers of a slab, one after another
unfoldable pub slab_bytes : List ℤ → List ℕ
slab_bytes values = flat_map int_bytes values

-- padded, but where it is the only variable
abbrev pub char_bytes : Bool → List ℕ → List ℕ
char_bytes pads text = if pads then padded text else text

-- a name: its length and its padded bytes
abbrev pub name_bytes : List ℕ → List ℕ
name_bytes name = four_bytes (length name) ++ padded name

-- eight zero bytes, or a tag, a count and the items
abbrev pub list_bytes : {A : Type 0} → ℕ → (A → List ℕ) → List A → List ℕ
list_bytes tag each [] = four_bytes 0 ++ four_bytes 0
list_bytes tag each (x ∷ xs) =
    four_bytes tag ++ four_bytes (length (x ∷ xs)) ++ flat_map each (x ∷ xs)

-- a dimension: name and length
abbrev pub dim_bytes : Dim → List ℕ
dim_bytes dim = name_bytes dim.name ++ four_bytes dim.len

-- an attribute: name, type, count and padded values
abbrev pub att_bytes : Att → List ℕ
att_bytes att = name_bytes att.name ++ four_bytes att.kind ++ four_bytes att.count
    ++ padded att.bytes

-- where a variable begins: four bytes in version 1, and eight in version 2
abbrev pub begin_bytes : ℕ → ℕ → List ℕ
begin_bytes version begin = if version == 1 then four_bytes begin else eight_bytes begin

-- a variable: name, rank, the numbers of its dimensions, attributes, type, size and begin
abbrev pub var_bytes : ℕ → Var → List ℕ
var_bytes version var =
    name_bytes var.name ++ four_bytes (length var.dims) ++ flat_map four_bytes var.dims
    ++ list_bytes 12 att_bytes var.atts
    ++ four_bytes var.kind ++ four_bytes var.vsize ++ begin_bytes version var.begin

-- a header: CDF, the version, the number of records, dimensions, attributes and variables
unfoldable pub header_bytes : Header → List ℕ
header_bytes h =
    codes "CDF" ++ h.version ∷ four_bytes h.numrecs ++ list_bytes 10 dim_bytes h.dims
    ++ list_bytes 12 att_bytes h.atts
    ++ list_bytes 11 (var_bytes h.version) h.vars
