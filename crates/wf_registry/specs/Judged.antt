-- The entries of lines, or the first that breaks a rule.
use Rattle.std.specs.Prelude.{◌≡◌, List, [], ◌∷◌, ◌++◌, Option, Some, None, Result, Ok}
use Rattle.wf_model.specs.declared.registry.Entry.{Entry}
use Rattle.wf_model.specs.declared.registry.RegistryFault.{RegistryFault}
use Rattle.wf_model.specs.declared.registry.RegistryKind.{RegistryKind}
use Rattle.wf_model.specs.Reading.{◌>>=◌, told_as}
use Rattle.wf_model.specs.Letters.{Text}
use Rattle.wf_model.specs.KeptLines.{Kept}
use Rattle.wf_model.specs.Registry.{fault_at}
use Rattle.wf_registry.specs.Lines.{line_entry}

-- a line of these words behind others
abbrev pub words_judged : List Entry → List Entry → List Text → Result (List Entry) RegistryKind
words_judged all before words = line_entry all before words >>= λ e. Ok (before ++ e ∷ [])

-- line after line
unfoldable pub lines_judged : List Entry → List Entry → List Kept →
    Result (List Entry) RegistryFault
lines_judged all before [] = Ok before
lines_judged all before (l ∷ ls) =
    told_as (fault_at l) (words_judged all before l.words) >>= λ es. lines_judged all es ls

-- a rule that is broken is told with its line; where none is told, memory ran out
abbrev pub TellsAt : Kept → Option RegistryKind → Option RegistryFault → Type 0
TellsAt l None told = told ≡ None
TellsAt l (Some k) None = Unit {0}
TellsAt l (Some k) (Some f) = f ≡ fault_at l k
