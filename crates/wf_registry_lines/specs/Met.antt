-- What was read so far, as the definitions see it.
use Rattle.std.specs.Prelude.{◌≡◌, ℕ, List, Option, Some, None, map}
use Rattle.std.specs.List.{All}
use Rattle.wf_model.specs.declared.registry.SourceFile.{SourceFile}
use Rattle.wf_model.specs.declared.registry.RegistryKind.{RegistryKind}
use Rattle.wf_model.specs.Letters.{Text}
use Rattle.wf_model.specs.KeptLines.{Met, Stop, Within, Defines, Includes, include_met}
use Rattle.wf_registry_lines.specs.declared.condition.Conditions.{Conditions}
use Rattle.wf_registry_lines.specs.declared.progress.Progress.{Progress}
use Rattle.wf_registry_lines.specs.declared.progress.ReadingError.{ReadingError}
use Rattle.wf_registry_lines.specs.declared.progress.ReadingError.TheVariants.{Memory, Stopped}
use Rattle.wf_registry_lines.specs.Kept.{IsPlaced, kept_in, name_at}

abbrev pub met_in : List SourceFile → Progress → Met
met_in files p =
    record { kept = map (kept_in files) p.kept.items; lines = p.lines; files = p.files }

-- want of memory is no stop
abbrev pub seen_in : List SourceFile → ReadingError → Option Stop
seen_in files Memory = None
seen_in files (Stopped s) = Some (record { met = met_in files s.progress; fault = s.fault })

-- where a line stands
abbrev pub within_in : Conditions → Within
within_in c = record { keeping = c.keeping; dropping = c.dropping }

-- what is met, and where the next line stands
abbrev pub entered_in : List SourceFile → Progress × Conditions → Met × Within
entered_in files x = (met_in files x.0, within_in x.1)

-- reading stops at this fault, where this was read, or memory runs out
abbrev pub IsStop : Progress → Text → ℕ → RegistryKind → ReadingError → Type 0
IsStop p file line kind Memory = Unit {0}
IsStop p file line kind (Stopped s) =
    s ≡ record { progress = p; fault = record { file = file; line = line; kind = kind } }

-- each line that counts is one of these files
abbrev pub ArePlaced : List SourceFile → Progress → Type 0
ArePlaced files p = All (IsPlaced files) p.kept.items

-- the same of those that were read when reading stops
abbrev pub AreLeftPlaced : List SourceFile → ReadingError → Type 0
AreLeftPlaced files Memory = Unit {0}
AreLeftPlaced files (Stopped s) = ArePlaced files s.progress

-- how a file is read where those at these places are being read
abbrev pub includes_at : ℕ → List SourceFile → Defines → List ℕ → Includes
includes_at depth files defines reading =
    include_met depth files defines (map (name_at files) reading)
