-- The lines of a file, and whether an endif that would be a line's own follows it.
use Rattle.std.specs.Prelude.{ℕ, ◌+◌, ◌-◌, Bool, ◌||◌, nat_le, List, [], ◌∷◌, Option, Some, None}
use Rattle.std.specs.Prelude.{Result, Ok, Err, if◌then◌else◌, codes}
use Rattle.wf_model.specs.declared.registry.RegistryKind.{RegistryKind}
use Rattle.wf_model.specs.declared.registry.RegistryKind.TheVariants.{TooLong}
use Rattle.wf_model.specs.declared.registry.SourceFile.{SourceFile}
use Rattle.wf_model.specs.declared.text.Line.{Line}
use Rattle.wf_model.specs.Letters.{Text}
use Rattle.wf_model.specs.Reading.{◌>>=◌}
use Rattle.wf_model.specs.KeptLines.{Defines, Includes, Met, Stop, Within, file_met, has_endif}
use Rattle.wf_model.specs.KeptLines.{is_kind, line_met, most_lines, one_line, stop}
use Rattle.wf_registry_lines.specs.declared.ahead.AheadLine.{AheadLine}
use Rattle.wf_registry_lines.specs.declared.condition.Conditions.{Conditions}
use Rattle.wf_registry_lines.specs.declared.kind.Kind.{Kind}
use Rattle.wf_registry_lines.specs.declared.kind.Kind.TheVariants as kinds
use Rattle.wf_registry_lines.specs.FileLines.{held}
use Rattle.wf_registry_lines.specs.Met.{within_in}

-- how many endifs close no ifdef among the lines, where this line stands in front of some with
-- so many
abbrev pub spare_with : Line → ℕ → ℕ
spare_with l n =
    if is_kind (codes "ifdef") l then n - 1 else (if is_kind (codes "endif") l then n + 1 else n)

abbrev pub spare_of : List Line → ℕ
spare_of [] = 0
spare_of (l ∷ ls) = spare_with l (spare_of ls)

-- the same, by the line's kind
abbrev pub kind_spare : Kind → ℕ → ℕ
kind_spare kinds.Ifdef n = n - 1
kind_spare kinds.Endif n = n + 1
kind_spare kinds.Include n = n
kind_spare kinds.Dimspec n = n
kind_spare kinds.Other n = n

-- a line, and whether an endif that would be its own follows
pub record Marked : Type 0 where
  pub line : Line
  pub closed : Bool

-- the line and its mark, as they are held
abbrev pub seen : List ℕ → AheadLine → Marked
seen text a = record { line = held text a.line; closed = a.closed }

-- each line with its mark
abbrev pub marks : Bool → List Line → List Marked
marks faulty [] = []
marks faulty (l ∷ ls) = record { line = l; closed = faulty || has_endif 0 ls } ∷ marks faulty ls

-- one line more, unless there are too many
abbrev pub next_met : Defines → Includes → Text → Met → Within → Marked → Result (Met × Within) Stop
next_met defines include file met w a =
    if nat_le most_lines met.lines then stop met file a.line.number TooLong
    else line_met defines include file a.closed (one_line met) w a.line

-- after an ifdef or an endif, if nothing is wrong with it
abbrev pub entered_met : Met → Text → ℕ → Result Conditions RegistryKind →
    Result (Met × Within) Stop
entered_met met file line (Ok c) = Ok (met, within_in c)
entered_met met file line (Err kind) = stop met file line kind

-- the lines that are still to be read
unfoldable pub ahead_met : Defines → Includes → Text → Met → Within → List Marked → Result Met Stop
ahead_met defines include file met w [] = Ok met
ahead_met defines include file met w (a ∷ ls) =
    next_met defines include file met w a >>= λ p. ahead_met defines include file p.0 p.1 ls

-- the file at a place
abbrev pub file_at_met : Defines → Includes → Met → Option SourceFile → Result Met Stop
file_at_met defines include met None = Ok met
file_at_met defines include met (Some f) = file_met defines include met f
