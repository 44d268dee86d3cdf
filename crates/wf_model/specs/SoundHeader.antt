-- What a header keeps that can be placed and written.
use Rattle.std.specs.Prelude.{◌≡◌, ◌⊎◌, ℕ, ◌-◌, ◌*◌, ◌^◌, ◌<◌, ◌≤◌, List, length, filter, All}
use Rattle.std.specs.Prelude.{IsTrue, not}
use Rattle.wf_model.specs.declared.header.Header.{Header}
use Rattle.wf_model.specs.declared.header.Dim.{Dim}
use Rattle.wf_model.specs.declared.header.Att.{Att}
use Rattle.wf_model.specs.declared.header.Var.{Var}
use Rattle.wf_model.specs.Sizes.{type_size, is_record_dim, dim_of, rest_of}

-- a count, a length or a rank
abbrev pub IsCount : ℕ → Type 0
IsCount n = n < 2 ^ 31

-- byte, char, short, int, float and double
abbrev pub IsKind : ℕ → Type 0
IsKind kind = (1 ≤ kind) × (kind ≤ 6)

-- its name and its length are counts
pub record IsSoundDim (d : Dim) : Type 0 where
  pub name : IsCount (length d.name)
  pub len : IsCount d.len

-- its bytes are as long as its type and count say
pub record IsSoundAtt (a : Att) : Type 0 where
  pub name : IsCount (length a.name)
  pub kind : IsKind a.kind
  pub count : IsCount a.count
  pub bytes : length a.bytes ≡ a.count * type_size a.kind

-- its dimensions are there, and the record dimension may only be the first
pub record IsSoundVar (dims : List Dim) (v : Var) : Type 0 where
  pub name : IsCount (length v.name)
  pub kind : IsKind v.kind
  pub rank : IsCount (length v.dims)
  pub dims_are : All (λ n. n < length dims) v.dims
  pub record_first : All (λ n. IsTrue (not (is_record_dim (dim_of dims n)))) (rest_of v.dims)
  pub count : IsCount (length v.atts)
  pub atts : All IsSoundAtt v.atts

-- version 1 or 2, not of streaming form, at most one record dimension, and all its parts sound
pub record IsSoundHeader (h : Header) : Type 0 where
  pub version : (h.version ≡ 1) ⊎ (h.version ≡ 2)
  pub numrecs : h.numrecs < 2 ^ 32 - 1
  pub dim_count : IsCount (length h.dims)
  pub dims : All IsSoundDim h.dims
  pub one_record : length (filter is_record_dim h.dims) ≤ 1
  pub att_count : IsCount (length h.atts)
  pub atts : All IsSoundAtt h.atts
  pub var_count : IsCount (length h.vars)
  pub vars : All (IsSoundVar h.dims) h.vars

-- a begin has four bytes in version 1, and eight in version 2
abbrev pub BeginsFit : Header → Type 0
BeginsFit h = h.version ≡ 1 → All (λ v. v.begin < 2 ^ 32) h.vars
