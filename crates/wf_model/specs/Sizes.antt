-- How many bytes variables, records and files have in the netCDF classic format.
use Rattle.std.specs.Prelude.{ℕ, ◌+◌, ◌*◌, ◌/◌, ◌==◌, Bool, false, not, nat_lt, max, List, [], ◌∷◌}
use Rattle.std.specs.Prelude.{length, map, fold, filter, sum_by, if◌then◌else◌, slice_index}
use Rattle.std.specs.Prelude.{slice_index_or}
use Rattle.wf_model.specs.declared.header.Header.{Header}
use Rattle.wf_model.specs.declared.header.Dim.{Dim}
use Rattle.wf_model.specs.declared.header.Var.{Var}
use Rattle.wf_model.specs.Bytes.{header_bytes}

-- byte, char, short, int, float and double
abbrev pub type_size : ℕ → ℕ
type_size kind = slice_index (0 ∷ 1 ∷ 1 ∷ 2 ∷ 4 ∷ 4 ∷ 8 ∷ []) kind

-- up to a multiple of four
abbrev pub rounded : ℕ → ℕ
rounded n = (n + 3) / 4 * 4

-- the record dimension has length 0
abbrev pub is_record_dim : Dim → Bool
is_record_dim d = d.len == 0

-- the dimension of a number
abbrev pub dim_of : List Dim → ℕ → Dim
dim_of dims n = slice_index_or dims n (record { name = []; len = 1 })

-- a record variable has the record dimension first
abbrev pub begins_with_record : List Dim → List ℕ → Bool
begins_with_record dims [] = false
begins_with_record dims (n ∷ ns) = is_record_dim (dim_of dims n)

-- a variable of which each record has a slab
abbrev pub is_record_var : List Dim → Var → Bool
is_record_var dims v = begins_with_record dims v.dims

-- the lengths of the dimensions of these numbers
abbrev pub lengths : List Dim → List ℕ → List ℕ
lengths dims ns = map (λ n. (dim_of dims n).len) ns

-- all of them multiplied, and 1 of none
abbrev pub product : List ℕ → ℕ
product ns = fold (λ a n. a * n) 1 ns

-- all but the first
abbrev pub rest_of : List ℕ → List ℕ
rest_of [] = []
rest_of (x ∷ xs) = xs

-- the dimensions of a variable but for the record's
abbrev pub slab_dims : List Dim → Var → List ℕ
slab_dims dims v = if is_record_var dims v then rest_of v.dims else v.dims

-- the bytes of a variable, of one record of a record variable
abbrev pub slab_size : List Dim → Var → ℕ
slab_size dims v = product (lengths dims (slab_dims dims v)) * type_size v.kind

-- the same with its padding
abbrev pub padded_size : List Dim → Var → ℕ
padded_size dims v = rounded (slab_size dims v)

-- the variables with a slab in each record
abbrev pub record_vars : Header → List Var
record_vars h = filter (is_record_var h.dims) h.vars

-- the variables that stand once in a file
abbrev pub fixed_vars : Header → List Var
fixed_vars h = filter (λ v. not (is_record_var h.dims v)) h.vars

-- byte, char or short
abbrev pub is_narrow : Var → Bool
is_narrow v = nat_lt (type_size v.kind) 4

-- one record: the slabs of all record variables, each padded, but for a narrow one that is the
-- only one
abbrev pub size_of_slabs : List Dim → List Var → ℕ
size_of_slabs dims [] = 0
size_of_slabs dims (v ∷ []) = if is_narrow v then slab_size dims v else padded_size dims v
size_of_slabs dims (v ∷ w ∷ vs) = sum_by (padded_size dims) (v ∷ w ∷ vs)

-- the bytes of one record
abbrev pub record_size : Header → ℕ
record_size h = size_of_slabs h.dims (record_vars h)

-- the bytes of all fixed variables
abbrev pub fixed_size : Header → ℕ
fixed_size h = sum_by (padded_size h.dims) (fixed_vars h)

-- a file with so many records, counted as at least one
abbrev pub file_size : Header → ℕ → ℕ
file_size h records = length (header_bytes h) + fixed_size h + max 1 records * record_size h

-- the most that a file of a version may have
abbrev pub most_bytes : ℕ → ℕ
most_bytes version = if version == 1 then 2147483644 else 1099511627776
