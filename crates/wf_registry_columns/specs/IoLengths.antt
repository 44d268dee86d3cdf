-- How many bytes a part of the IO column has after its first, or why there is none.
use Rattle.std.specs.Prelude.{ℕ, ◌+◌, ◌==◌, ◌&&◌, ◌||◌, [], ◌∷◌, length, Result, Ok, Err}
use Rattle.std.specs.Prelude.{if◌then◌else◌}
use Rattle.std.specs.List.{before_first, take_while}
use Rattle.std.specs.Char.{is_ascii_digit}
use Rattle.wf_model.specs.declared.registry.RegistryKind.{RegistryKind}
use Rattle.wf_model.specs.declared.registry.RegistryKind.TheVariants.{Unsupported, Columns}
use Rattle.wf_model.specs.Letters.{Text, is_name}
use Rattle.wf_model.specs.ValueForms.{has}
use Rattle.wf_model.specs.Io.{is_closing, is_colon}

-- behind the `=`: `(` is 40
abbrev pub function_len : Text → Result ℕ RegistryKind
function_len [] = Err Columns
function_len (b ∷ bs) =
    if (b == 40) && has is_closing bs
    && is_name (before_first is_colon (before_first is_closing bs))
    then Ok (length (before_first is_closing bs) + 3)
    else Err Columns

-- behind the letter: `=` is 61
abbrev pub letter_len : Text → Result ℕ RegistryKind
letter_len [] = Ok 0
letter_len (b ∷ bs) = if b == 61 then function_len bs else Ok 0

-- of the part that begins with this byte
abbrev pub part_len : ℕ → Text → Result ℕ RegistryKind
part_len b bs =
    if (b == 105) || (b == 104) then Ok (length (take_while is_ascii_digit bs))
    else (if (b == 114) || (b == 115) then Ok 0
    else (if (b == 117) || (b == 100) || (b == 102) then letter_len bs
    else (if b == 123 then Err Unsupported else Err Columns)))
