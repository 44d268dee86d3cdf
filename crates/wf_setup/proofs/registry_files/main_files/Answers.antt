use Rattle.std.proofs.Common.{sym, ◌∙◌}
use Rattle.wf_model.specs.KeptLines.{main_file}
use Rattle.wf_setup.proofs.Steps.{main_none, main_some}
use Rattle.wf_setup.proofs.registry_files.main_files.Goals as goal

pub returns-in-None-clause-files : goal.returns-in-None-clause-files
returns-in-None-clause-files g c = λ m told. c.new.ensures.items ∙ main_none (m main_file) (sym c.in-None.is ∙ c.in-Ok.ensures.found m told)

pub returns-in-Ok-vec-clause-files : goal.returns-in-Ok-vec-clause-files
returns-in-Ok-vec-clause-files g c = λ m told. c.in-Ok-vec.ensures.items ∙ main_some (m main_file) c.in-Some.file (sym c.in-Some.is ∙ c.in-Ok.ensures.found m told)
