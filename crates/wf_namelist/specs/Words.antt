-- Words that are values.
use Rattle.std.specs.Prelude.{true, false, Result, Ok, if◌then◌else◌}
use Rattle.wf_model.specs.declared.namelist.Value.{Value}
use Rattle.wf_model.specs.declared.namelist.Value.TheVariants as value
use Rattle.wf_model.specs.declared.namelist.NamelistKind.TheVariants.{BadValue}
use Rattle.wf_model.specs.declared.namelist.NamelistFault.{NamelistFault}
use Rattle.wf_model.specs.Letters.{Text}
use Rattle.wf_model.specs.Namelist.{Tokens, refuse}
use Rattle.wf_model.specs.ValueForms.{is_decimal, is_true_word, is_false_word}

-- the value of a word that is no whole number
abbrev pub other_value : Text → Tokens → Result Value NamelistFault
other_value w from =
    if is_decimal w then Ok (value.Decimal w)
    else (if is_true_word w then Ok (value.Logical true)
    else (if is_false_word w then Ok (value.Logical false) else refuse from BadValue))
