-- Which bytes are a header in the netCDF classic format, and which bytes of a file are a slab of
-- a record.
use Rattle.std.specs.Prelude.{◌≡◌, ℕ, zero, suc, ◌+◌, ◌*◌, ◌==◌, Bool, true, false, not, ◌&&◌, ◌||◌}
use Rattle.std.specs.Prelude.{nat_lt, nat_le, List, [], ◌∷◌, length, take, drop, map, find, ℤ}
use Rattle.std.specs.Prelude.{Option, Some, None, Result, Ok, Err, if◌then◌else◌}
use Rattle.std.specs.List.{range_with_len}
use Rattle.std.specs.Int.{cast_signed, w32}
use Rattle.std.specs.Str.{bytes_eq}
use Rattle.std.specs.Slice.Scan.{big_endian}
use Rattle.wf_model.specs.declared.header.Header.{Header}
use Rattle.wf_model.specs.declared.header.Dim.{Dim}
use Rattle.wf_model.specs.declared.header.Att.{Att}
use Rattle.wf_model.specs.declared.header.Var.{Var}
use Rattle.wf_model.specs.declared.cdf_error.CdfError.{CdfError}
use Rattle.wf_model.specs.declared.cdf_error.CdfError.TheVariants as cdf
use Rattle.wf_model.specs.declared.cdf_error.SlabError.{SlabError}
use Rattle.wf_model.specs.declared.cdf_error.SlabError.TheVariants as slab
use Rattle.wf_model.specs.Sizes.{type_size, rounded, is_record_dim, dim_of, is_record_var, lengths}
use Rattle.wf_model.specs.Sizes.{product, rest_of, record_size}

-- what is read from a place on, and the place behind it, or the first error
abbrev pub Reading : Type 0 → Type 0
Reading A = List ℕ → ℕ → Result (A × ℕ) CdfError

-- what is read next, from the place behind, unless there was an error
abbrev pub then_read : {A B : Type 0} → Result (A × ℕ) CdfError →
    (A → ℕ → Result (B × ℕ) CdfError) → Result (B × ℕ) CdfError
then_read (Ok p) next = next p.0 p.1
then_read (Err e) next = Err e

-- n bytes; a file that ends inside them is cut off
abbrev pub raw : ℕ → Reading (List ℕ)
raw n bytes at = if nat_le (at + n) (length bytes) then Ok (take n (drop at bytes), at + n)
    else Err (cdf.Truncated (length bytes))

-- a number of so many bytes, the highest of them first
abbrev pub number : ℕ → Reading ℕ
number size bytes at = then_read (raw size bytes at) λ bs next. Ok (big_endian 0 bs, next)

-- the greatest count, length or rank
abbrev pub most : ℕ
most = 2147483647

-- a count, a length or a rank
abbrev pub count : Reading ℕ
count bytes at = then_read (number 4 bytes at) λ n next.
    if nat_le n most then Ok (n, next) else Err (cdf.Overlong at)

-- n bytes, and what fills them up to a multiple of four, which may be anything
abbrev pub padded_bytes : ℕ → Reading (List ℕ)
padded_bytes n bytes at = then_read (raw (rounded n) bytes at) λ bs next. Ok (take n bs, next)

-- a name: its length and its bytes
abbrev pub name : Reading (List ℕ)
name bytes at = then_read (count bytes at) λ n next. padded_bytes n bytes next

-- n items one after another
abbrev pub items : {A : Type 0} → Reading A → ℕ → Reading (List A)
items each zero bytes at = Ok ([], at)
items each (suc n) bytes at =
    then_read (each bytes at) λ x next. then_read (items each n bytes next) λ xs last.
    Ok (x ∷ xs, last)

-- a tag and a count: no tag has no items
abbrev pub tagged : ℕ → ℕ → ℕ → Reading ℕ
tagged wanted tag start bytes at =
    if tag == wanted then count bytes at
    else (if tag == 0 then (then_read (number 4 bytes at) λ n next.
    if n == 0 then Ok (0, next) else Err (cdf.BadTag start)) else Err (cdf.BadTag start))

-- the number of items of a list whose tag is the wanted one
abbrev pub list_size : ℕ → Reading ℕ
list_size wanted bytes at =
    then_read (number 4 bytes at) λ tag next. tagged wanted tag at bytes next

-- dimensions, of which at most one is the record's: whether one was seen, and how many follow
abbrev pub dims : ℕ → Bool → Reading (List Dim)
dims zero seen bytes at = Ok ([], at)
dims (suc n) seen bytes at =
    then_read (name bytes at) λ m next.
    then_read (count bytes next) λ l last.
    if (l == 0) && seen then Err (cdf.BadDim next)
    else (then_read (dims n (seen || (l == 0)) bytes last) λ ds end.
    Ok (record { name = m; len = l } ∷ ds, end))

-- a type, which is 1 to 6
abbrev pub kind : Reading ℕ
kind bytes at = then_read (number 4 bytes at) λ n next. if nat_le 1 n
    && nat_le n 6 then Ok (n, next) else Err (cdf.BadType at)

-- an attribute: name, type, count and values
abbrev pub att : Reading Att
att bytes at =
    then_read (name bytes at) λ n a1.
    then_read (kind bytes a1) λ t a2.
    then_read (count bytes a2) λ c a3.
    then_read (padded_bytes (c * type_size t) bytes a3) λ bs a4.
    Ok (record { name = n; kind = t; count = c; bytes = bs }, a4)

-- a list of attributes
abbrev pub atts : Reading (List Att)
atts bytes at = then_read (list_size 12 bytes at) λ n next. items att n bytes next

-- a dimension's number: below their count, and the record's in first place alone
abbrev pub dim_number : List Dim → Bool → Reading ℕ
dim_number ds first bytes at =
    then_read (number 4 bytes at) λ n next.
    if nat_lt n (length ds) && (first || not (is_record_dim (dim_of ds n))) then Ok (n, next)
    else Err (cdf.BadDim at)

-- a variable's dimensions, the first of which may be the record's
abbrev pub dim_numbers : List Dim → Bool → ℕ → Reading (List ℕ)
dim_numbers ds first zero bytes at = Ok ([], at)
dim_numbers ds first (suc n) bytes at =
    then_read (dim_number ds first bytes at) λ x next.
    then_read (dim_numbers ds false n bytes next) λ xs last. Ok (x ∷ xs, last)

-- the bytes of a begin
abbrev pub begin_size : ℕ → ℕ
begin_size version = if version == 1 then 4 else 8

-- a variable: name, rank, dimensions, attributes, type, size and begin
abbrev pub var : ℕ → List Dim → Reading Var
var version ds bytes at =
    then_read (name bytes at) λ n a1.
    then_read (count bytes a1) λ rank a2.
    then_read (dim_numbers ds true rank bytes a2) λ ns a3.
    then_read (atts bytes a3) λ as_ a4.
    then_read (kind bytes a4) λ t a5.
    then_read (number 4 bytes a5) λ size a6.
    then_read (number (begin_size version) bytes a6) λ begin a7.
    Ok (record { name = n; dims = ns; atts = as_; kind = t; vsize = size; begin = begin }, a7)

-- C, D, F, one byte after another
abbrev pub letters : List ℕ → Reading (List ℕ)
letters [] bytes at = Ok ([], at)
letters (c ∷ cs) bytes at =
    then_read (number 1 bytes at) λ b next. if b == c then letters cs bytes next else Err cdf.NotCdf

-- version 1 or 2
abbrev pub version_byte : Reading ℕ
version_byte bytes at = then_read (number 1 bytes at) λ v next. if (v == 1)
    || (v == 2) then Ok (v, next) else Err cdf.Version

-- the number of records, which is no count: all ones is the streaming form
abbrev pub record_count : Reading ℕ
record_count bytes at = then_read (number 4 bytes at) λ n next.
    if n == 4294967295 then Err cdf.Streaming else Ok (n, next)

-- the header at the front of the bytes and its length, or the first error
unfoldable pub header_from : List ℕ → Result (Header × ℕ) CdfError
header_from bytes =
    then_read (letters (67 ∷ 68 ∷ 70 ∷ []) bytes 0) λ magic a1.
    then_read (version_byte bytes a1) λ version a2.
    then_read (record_count bytes a2) λ numrecs a3.
    then_read (list_size 10 bytes a3) λ n a4.
    then_read (dims n false bytes a4) λ ds a5.
    then_read (atts bytes a5) λ as_ a6.
    then_read (list_size 11 bytes a6) λ m a7.
    then_read (items (var version ds) m bytes a7) λ vs a8.
    Ok (record { version = version; numrecs = numrecs; dims = ds; atts = as_; vars = vs }, a8)

-- without its length
abbrev pub only_header : Result (Header × ℕ) CdfError → Result Header CdfError
only_header (Ok p) = Ok p.0
only_header (Err e) = Err e

-- the header at the front of the bytes, or why there is none
unfoldable pub header_at : List ℕ → Result Header CdfError
header_at bytes = only_header (header_from bytes)

-- the bytes begin with the header
abbrev pub HeaderAt : List ℕ → Header → Type 0
HeaderAt bytes h = header_at bytes ≡ Ok h

-- ---- slabs

-- a variable's bytes in a record: they are of this type and shape, or why there are none
abbrev pub slab_bytes_of : List ℕ → Header → Option Var → ℕ → List ℕ → ℕ → Result (List ℕ) SlabError
slab_bytes_of bytes h None type shape rec = Err slab.NoVariable
slab_bytes_of bytes h (Some v) type shape rec =
    let at = v.begin + rec * record_size h in
    let size = product shape * type_size type in
    if not (v.kind == type) then Err slab.WrongType
    else (if not (is_record_var h.dims v && (bytes_eq (lengths h.dims (rest_of v.dims)) shape
    && nat_lt rec h.numrecs)) then Err slab.WrongShape
    else (if nat_lt (length bytes) (at + size) then Err (slab.Truncated (length bytes))
    else Ok (take size (drop at bytes))))

-- the variable has this name
abbrev pub has_name : List ℕ → Var → Bool
has_name n v = bytes_eq v.name n

-- the characters of a variable's slab in a record, or why there are none
unfoldable pub chars_at : List ℕ → Header → List ℕ → ℕ → ℕ → Result (List ℕ) SlabError
chars_at bytes h n len rec = slab_bytes_of bytes h (find (has_name n) h.vars) 2 (len ∷ []) rec

-- whole numbers of four bytes, n of them
abbrev pub ints : ℕ → List ℕ → List ℤ
ints n bytes =
    map (λ m. cast_signed w32 (big_endian 0 (take 4 (drop (4 * m) bytes)))) (range_with_len 0 n)

-- the same of bytes that were found
abbrev pub ints_of : ℕ → Result (List ℕ) SlabError → Result (List ℤ) SlabError
ints_of n (Ok bs) = Ok (ints n bs)
ints_of n (Err e) = Err e

-- the numbers of a variable's slab in a record, or why there are none
unfoldable pub slab_at : List ℕ → Header → List ℕ → List ℕ → ℕ → Result (List ℤ) SlabError
slab_at bytes h n shape rec =
    ints_of (product shape) (slab_bytes_of bytes h (find (has_name n) h.vars) 4 shape rec)
