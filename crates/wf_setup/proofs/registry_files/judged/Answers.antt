use Rattle.wf_model.specs.Reading.{told_as}
use Rattle.wf_model.specs.Refusals.{registry_refusal}
use Rattle.wf_model.specs.FilesRead.{registry_with}
use Rattle.wf_setup.proofs.Steps.{Fails-tells, judged_ok, judged_err}
use Rattle.wf_setup.proofs.registry_files.judged.Goals as goal

pub returns-in-Ok-clause-registry : goal.returns-in-Ok-clause-registry
returns-in-Ok-clause-registry c = λ m. judged_ok m c.args.defines.now c.args.files.now c.in-Ok.registry c.in-Ok.ensures

pub returns-in-Err-Fault-clause-registry : goal.returns-in-Err-Fault-clause-registry
returns-in-Err-Fault-clause-registry c = λ m.
    Fails-tells c.registry_refusal.result (registry_refusal c.in-Err-Fault.fault) (told_as registry_refusal (registry_with 0 m c.args.defines.now c.args.files.now))
    (judged_err m c.args.defines.now c.args.files.now c.in-Err-Fault.fault (rw c.in-Err-Fault.field-0-is at c.in-Err-Fault.ensures)) c.registry_refusal.ensures
