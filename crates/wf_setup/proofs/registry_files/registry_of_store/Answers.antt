use Rattle.std.proofs.Common.{refl}
use Rattle.wf_model.specs.Reading.{told_as}
use Rattle.wf_model.specs.KeptLines.{main_file, most_files}
use Rattle.wf_model.specs.Refusals.{registry_refusal}
use Rattle.wf_model.specs.FilesRead.{registry_with, registry_read}
use Rattle.wf_model.proofs.ReadingLemmas.{Gives-along}
use Rattle.wf_setup.specs.Errors.{refusal_of}
use Rattle.wf_setup.specs.Asked.{registry_names}
use Rattle.wf_setup.proofs.Steps.{registry_is, main_asked}
use Rattle.wf_setup.proofs.Stores.{told_still}
use Rattle.wf_setup.proofs.Faults.{among_on, asked_includes}
use Rattle.wf_setup.proofs.registry_files.registry_of_store.Goals as goal

pub returns-in-Ok-clause-registry : goal.returns-in-Ok-clause-registry
returns-in-Ok-clause-registry g c = λ m told.
    let still = told_still (g.S.Store.files c.args.store.now) (g.S.Store.files c.main_files.new.store) (g.S.Store.faults c.args.store.now) (g.S.Store.faults c.main_files.new.store) c.in-Ok.ensures.only m told in
    Gives-along (λ r. r) refusal_of c.registry_with.result (told_as registry_refusal (registry_with most_files m c.args.defines.now c.in-Ok.files.items)) (registry_read m c.args.defines.now)
    (registry_is m c.args.defines.now c.in-Ok.files.items (c.in-Ok.ensures.files m told)) (c.registry_with.ensures.registry m still)

pub returns-in-Ok-clause-asked : goal.returns-in-Ok-clause-asked
returns-in-Ok-clause-asked g c =
    asked_includes (g.S.Store.files c.args.store.now) (g.S.Store.files c.main_files.new.store) c.registry_with.result c.args.defines.now c.in-Ok.files.items
    (told_still (g.S.Store.files c.args.store.now) (g.S.Store.files c.main_files.new.store) (g.S.Store.faults c.args.store.now) (g.S.Store.faults c.main_files.new.store) c.in-Ok.ensures.only)
    c.in-Ok.ensures.files c.registry_with.ensures.asked

pub returns-in-Err-clause-asked : goal.returns-in-Err-clause-asked
returns-in-Err-clause-asked g c = λ m told.
    among_on c.in-Err.error main_file (registry_names m c.args.defines.now) (main_asked m c.args.defines.now main_file refl) c.in-Err.ensures.on
