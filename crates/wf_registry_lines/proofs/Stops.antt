-- A stop that is told, or want of memory.
use Rattle.std.proofs.Common.{◌≡◌, ◌∙◌, ℕ, List, Result, Err, ap, subst, sym}
use Rattle.wf_model.specs.declared.registry.SourceFile.{SourceFile}
use Rattle.wf_model.specs.declared.registry.RegistryKind.{RegistryKind}
use Rattle.wf_model.specs.KeptLines.{Stop, stop}
use Rattle.wf_model.specs.Letters.{Text}
use Rattle.wf_model.specs.Reading.{Fails}
use Rattle.wf_registry_lines.specs.declared.progress.Progress.{Progress}
use Rattle.wf_registry_lines.specs.declared.progress.Stopped.{Stopped}
use Rattle.wf_registry_lines.specs.declared.progress.ReadingError.{ReadingError}
use Rattle.wf_registry_lines.specs.declared.progress.ReadingError.TheVariants as errors
use Rattle.wf_registry_lines.specs.Met.{ArePlaced, AreLeftPlaced, IsStop, met_in, seen_in}

-- what stops there is told
pub stop_fails : {A : Type 0} (files : List SourceFile) (p : Progress) (file : Text) (line : ℕ) (kind : RegistryKind) (e : ReadingError) (read : Result A Stop)
    → IsStop p file line kind e → read ≡ stop (met_in files p) file line kind → Fails (seen_in files e) read
stop_fails files p file line kind errors.Memory read h is = tt
stop_fails {A} files p file line kind (errors.Stopped s) read h is =
    let told : Stopped → Result A Stop = λ (t : Stopped). Err (record { met = met_in files t.progress; fault = t.fault }) in
    is ∙ sym (ap told h)

-- what was read when reading stops is placed
pub stop_placed : (files : List SourceFile) (p : Progress) (file : Text) (line : ℕ) (kind : RegistryKind) (e : ReadingError) → IsStop p file line kind e → ArePlaced files p → AreLeftPlaced files e
stop_placed files p file line kind errors.Memory h placed = tt
stop_placed files p file line kind (errors.Stopped s) h placed = subst (λ (t : Stopped). ArePlaced files t.progress) (sym h) placed
