-- Names in the stencil table: of fields, of levels and of stored functions.
use Rattle.std.specs.Prelude.{ℕ, Bool, true, false, ◌&&◌, List, [], ◌∷◌, find, Option, Some, None}
use Rattle.std.specs.Prelude.{Result, Ok, if◌then◌else◌, codes}
use Rattle.std.specs.List.{position, slice_get}
use Rattle.std.specs.Str.{bytes_eq}
use Rattle.wf_model.specs.declared.table.Names.{Names}
use Rattle.wf_model.specs.declared.table.HookName.{HookName}
use Rattle.wf_model.specs.declared.table.HookKind.{HookKind}
use Rattle.wf_model.specs.declared.table.HookKind.TheVariants as hook
use Rattle.wf_model.specs.declared.table.TableKind.{TableKind}
use Rattle.wf_model.specs.declared.table.TableKind.TheVariants.{UnknownField}
use Rattle.wf_model.specs.Reading.{◌>>=◌, or_fault}
use Rattle.wf_model.specs.Letters.{Text, is_among}
use Rattle.wf_model.specs.Tokens.{At, Reader, keyword, past, syntax, name_next}

-- words of the language, which are no field names
abbrev pub reserved : List Text
reserved = codes "i" ∷ codes "j" ∷ codes "k" ∷ codes "step" ∷ codes "min" ∷ codes "max" ∷ codes "if"
    ∷ codes "then" ∷ codes "else" ∷ codes "call" ∷ codes "div" ∷ codes "mod" ∷ []

-- the name of a field or a level, which is no word of the language
abbrev pub field_name : At → Result Text TableKind
field_name at = if is_among (keyword at) reserved then syntax at else name_next at

abbrev pub is_level : Text → Text × Bool → Bool
is_level name l = bytes_eq l.0 name

-- a level's number
abbrev pub level : Names → Reader ℕ
level names at = field_name at >>= λ name.
    or_fault (position (is_level name) names.levels) UnknownField >>= λ f. Ok (f, past at)

-- a level that has a z letter
abbrev pub has_z : Option (Text × Bool) → Bool
has_z None = false
has_z (Some l) = l.1

-- how far a read may go in k: a field without a z letter has one level
abbrev pub most_dk : Names → ℕ → ℕ
most_dk names f = if has_z (slice_get names.levels f) then 127 else 0

-- of kind Call
abbrev pub is_called : HookKind → Bool
is_called hook.Call = true
is_called other = false

-- the stored function that a table may call by this name
abbrev pub called_hook : Names → Text → Option HookName
called_hook names name =
    find (λ (h : HookName). bytes_eq h.name name && is_called h.kind) names.hooks
