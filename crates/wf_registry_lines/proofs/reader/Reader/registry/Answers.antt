use Rattle.std.proofs.Common.{◌∙◌, List, ◌∷◌, [], Result, ap, map, sym}
use Rattle.std.specs.Prelude.{slice_get}
use Rattle.wf_model.proofs.ReadingLemmas.{Gives-along}
use Rattle.wf_model.specs.declared.registry.RegistryKind.TheVariants.{MissingFile}
use Rattle.wf_model.specs.KeptLines.{Kept, Met, Stop, main_file, most_files, stop}
use Rattle.wf_registry_lines.specs.Ahead.{file_at_met}
use Rattle.wf_registry_lines.specs.Kept.{kept_in}
use Rattle.wf_registry_lines.specs.Met.{includes_at, met_in, seen_in}
use Rattle.wf_registry_lines.specs.declared.progress.Progress.{Progress}
use Rattle.wf_registry_lines.proofs.Includes.{no_registry, registry_read}
use Rattle.wf_registry_lines.proofs.Stops.{stop_fails}
use Rattle.wf_registry_lines.proofs.reader.Reader.registry.Goals as goal

pub returns-in-None-clause-read : goal.returns-in-None-clause-read
returns-in-None-clause-read c =
    let files = c.args.self.now.files.now in
    let begun : Progress = record { kept = c.new.result; lines = 0; files = 1 } in
    stop_fails files begun main_file 0 MissingFile c.stop.result _ c.stop.ensures
    (no_registry files c.args.self.now.defines.now (sym c.place_of.ensures.place ∙ c.in-None.is)
    ∙ ap (λ (ls : List Kept). let r : Result Met Stop = stop (record { kept = ls; lines = 0; files = 1 }) main_file 0 MissingFile in r) (sym (ap (map (kept_in files)) c.new.ensures.items)))

pub returns-in-Some-clause-read : goal.returns-in-Some-clause-read
returns-in-Some-clause-read c =
    let files = c.args.self.now.files.now in
    let defines = c.args.self.now.defines.now in
    Gives-along (met_in files) (seen_in files) c.file.result _ _
    (ap (λ (ls : List Kept). file_at_met defines (includes_at most_files files defines (c.in-Some.place ∷ [])) (record { kept = ls; lines = 0; files = 1 }) (slice_get files c.in-Some.place)) (ap (map (kept_in files)) c.new.ensures.items)
    ∙ sym (registry_read files defines c.in-Some.place (sym c.place_of.ensures.place ∙ c.in-Some.is) c.in-Some.ensures.bound))
    c.file.ensures.read
