-- What the first word of a line says.
use Rattle.std.specs.Prelude.{Bool, true, false, if◌then◌else◌, codes}
use Rattle.std.specs.Str.{bytes_eq}
use Rattle.wf_model.specs.Letters.{Text}
use Rattle.wf_registry_lines.specs.declared.kind.Kind.{Kind}
use Rattle.wf_registry_lines.specs.declared.kind.Kind.TheVariants.{Ifdef, Endif, Include, Dimspec}
use Rattle.wf_registry_lines.specs.declared.kind.Kind.TheVariants.{Other}

-- the word is in lower case
abbrev pub kind_of : Text → Kind
kind_of word = if bytes_eq word (codes "ifdef") then Ifdef
    else (if bytes_eq word (codes "endif") then Endif
    else (if bytes_eq word (codes "include") then Include
    else (if bytes_eq word (codes "dimspec") then Dimspec else Other)))

abbrev pub is_dimspec : Kind → Bool
is_dimspec Ifdef = false
is_dimspec Endif = false
is_dimspec Include = false
is_dimspec Dimspec = true
is_dimspec Other = false
