-- Parts of a header, each of which is read by a call of its own.
use Rattle.std.specs.Prelude.{ℕ, ◌==◌, ◌+◌, Bool, false, ◌&&◌, nat_lt, List, [], ◌∷◌, length, take}
use Rattle.std.specs.Prelude.{drop, Result, Ok, Err, if◌then◌else◌}
use Rattle.wf_model.specs.declared.header.Header.{Header}
use Rattle.wf_model.specs.declared.header.Dim.{Dim}
use Rattle.wf_model.specs.declared.header.Att.{Att}
use Rattle.wf_model.specs.declared.header.Var.{Var}
use Rattle.wf_model.specs.declared.cdf_error.CdfError.TheVariants as cdf
use Rattle.wf_model.specs.declared.cdf_error.SlabError.{SlabError}
use Rattle.wf_model.specs.declared.cdf_error.SlabError.TheVariants as slab
use Rattle.wf_model.specs.CdfRead.{Reading, then_read, number, name, count, begin_size, letters}
use Rattle.wf_model.specs.CdfRead.{version_byte, record_count, list_size, dims, atts, items, var}

-- one dimension, of which a second one of the record is wrong
abbrev pub dim : Bool → Reading Dim
dim seen bytes at =
    then_read (name bytes at) λ m next.
    then_read (count bytes next) λ l last.
    if (l == 0) && seen then Err (cdf.BadDim next) else Ok (record { name = m; len = l }, last)

-- where a variable begins
abbrev pub begin_number : ℕ → Reading ℕ
begin_number version bytes at = number (begin_size version) bytes at

-- one letter of those at the front
abbrev pub letter : ℕ → Reading ℕ
letter c bytes at =
    then_read (number 1 bytes at) λ b next. if b == c then Ok (b, next) else Err cdf.NotCdf

-- C, D, F
abbrev pub magic : List ℕ
magic = 67 ∷ 68 ∷ 70 ∷ []

-- the version and the number of records, behind the letters
unfoldable pub front : Reading (ℕ × ℕ)
front bytes at =
    then_read (letters magic bytes at) λ magic a1.
    then_read (version_byte bytes a1) λ version a2.
    then_read (record_count bytes a2) λ numrecs a3.
    Ok ((version, numrecs), a3)

-- the list of dimensions
unfoldable pub dim_list : Reading (List Dim)
dim_list bytes at = then_read (list_size 10 bytes at) λ n next. dims n false bytes next

-- the list of the file's attributes
unfoldable pub att_list : Reading (List Att)
att_list bytes at = atts bytes at

-- the list of variables
unfoldable pub var_list : ℕ → List Dim → Reading (List Var)
var_list version ds bytes at =
    then_read (list_size 11 bytes at) λ n next. items (var version ds) n bytes next

-- a header from its parts
abbrev pub header_by_parts : Reading Header
header_by_parts bytes at =
    then_read (front bytes at) λ p a1.
    then_read (dim_list bytes a1) λ ds a2.
    then_read (att_list bytes a2) λ as_ a3.
    then_read (var_list p.0 ds bytes a3) λ vs a4.
    Ok (record { version = p.0; numrecs = p.1; dims = ds; atts = as_; vars = vs }, a4)

-- so many bytes of a file from a place on
abbrev pub part_at : List ℕ → ℕ → ℕ → Result (List ℕ) SlabError
part_at bytes at size = if nat_lt (length bytes) (at + size)
    then Err (slab.Truncated (length bytes)) else Ok (take size (drop at bytes))
