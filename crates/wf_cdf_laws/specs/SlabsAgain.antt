-- The numbers and texts of a record are read again from where they are written.
use Rattle.std.specs.Prelude.{◌≡◌, ℕ, ◌+◌, ◌*◌, ◌<◌, Bool, List, [], ◌∷◌, ◌++◌, length, find, ℤ}
use Rattle.std.specs.Prelude.{All, IsTrue, FitsSigned, Some, Ok}
use Rattle.std.specs.Int.{w32}
use Rattle.wf_model.specs.declared.header.Header.{Header}
use Rattle.wf_model.specs.declared.header.Var.{Var}
use Rattle.wf_model.specs.Bytes.{slab_bytes, char_bytes}
use Rattle.wf_model.specs.Sizes.{is_record_var, lengths, product, rest_of, record_size}
use Rattle.wf_model.specs.CdfRead.{has_name, slab_at, chars_at}

-- the variable is the first of its name, is of this type, and has slabs of this shape, also in
-- this record
pub record IsRecorded (h : Header) (v : Var) (type : ℕ) (shape : List ℕ) (rec : ℕ) : Type 0 where
  pub found : find (has_name v.name) h.vars ≡ Some v
  pub kind : v.kind ≡ type
  pub recorded : IsTrue (is_record_var h.dims v)
  pub shaped : lengths h.dims (rest_of v.dims) ≡ shape
  pub within : rec < h.numrecs

-- where the slab of a record begins
abbrev pub slab_place : Header → Var → ℕ → ℕ
slab_place h v rec = v.begin + rec * record_size h

-- numbers of 32 bits that are written at the place of their slab are read again, whatever stands
-- before and behind them
abbrev pub SlabsAreReadAgain : Type 0
SlabsAreReadAgain =
    (h : Header) (v : Var) (shape : List ℕ) (rec : ℕ) (values : List ℤ) (front rest : List ℕ) →
    IsRecorded h v 4 shape rec → product shape ≡ length values → All (FitsSigned w32) values →
    length front ≡ slab_place h v rec →
    slab_at (front ++ (slab_bytes values ++ rest)) h v.name shape rec ≡ Ok values

-- and so is a text, padded or not
abbrev pub TextsAreReadAgain : Type 0
TextsAreReadAgain =
    (h : Header) (v : Var) (rec : ℕ) (pads : Bool) (text front rest : List ℕ) →
    IsRecorded h v 2 (length text ∷ []) rec → length front ≡ slab_place h v rec →
    chars_at (front ++ (char_bytes pads text ++ rest)) h v.name (length text) rec ≡ Ok text
