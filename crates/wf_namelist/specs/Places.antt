-- What is read at a place of the tokens.
use Rattle.std.specs.Prelude.{Option, Some, None}
use Rattle.wf_model.specs.declared.namelist.NamelistFault.{NamelistFault}
use Rattle.wf_model.specs.declared.namelist.NamelistKind.{NamelistKind}
use Rattle.wf_model.specs.declared.namelist.Sort.{Sort}
use Rattle.wf_model.specs.declared.namelist.Sort.TheVariants.{EndOfText}
use Rattle.wf_model.specs.Namelist.{Tokens, here}

-- what is refused here
abbrev pub refusal : Tokens → NamelistKind → NamelistFault
refusal ts kind = record { line = (here ts).line; kind = kind }

-- past the last token stands the end of the text
abbrev pub sort_of : Option Sort → Sort
sort_of None = EndOfText
sort_of (Some s) = s
