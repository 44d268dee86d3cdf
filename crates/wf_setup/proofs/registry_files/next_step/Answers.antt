use Rattle.std.proofs.Common.{sym, ◌∙◌}
use Rattle.wf_model.specs.Refusals.{registry_refusal}
use Rattle.wf_setup.specs.Steps.{step_of}
use Rattle.wf_setup.proofs.Steps.{Fails-tells, step_read, step_wants, step_refused}
use Rattle.wf_setup.proofs.registry_files.next_step.Goals as goal

pub returns-in-Ok-clause-next : goal.returns-in-Ok-clause-next
returns-in-Ok-clause-next g c = λ m told. step_read m c.args.defines.now c.args.files.now c.in-Ok.registry c.in-Ok.ensures

pub returns-in-Ok-Some-clause-next : goal.returns-in-Ok-Some-clause-next
returns-in-Ok-Some-clause-next g c = λ m told.
    step_wants m c.args.defines.now c.args.files.now c.in-Err-Fault.fault c.in-Ok-Some.file (rw c.in-Err-Fault.field-0-is at c.in-Err-Fault.ensures)
    (sym c.in-Ok-Some.field-0-is ∙ c.in-Ok-Some.ensures.found m told)

pub returns-in-Ok-None-clause-next : goal.returns-in-Ok-None-clause-next
returns-in-Ok-None-clause-next g c = λ m told.
    Fails-tells c.registry_refusal.result (registry_refusal c.in-Err-Fault.fault) (step_of m c.args.defines.now c.args.files.now)
    (step_refused m c.args.defines.now c.args.files.now c.in-Err-Fault.fault (rw c.in-Err-Fault.field-0-is at c.in-Err-Fault.ensures)
    (sym c.in-Ok-None.field-0-is ∙ c.in-Ok-None.ensures.found m told))
    c.registry_refusal.ensures
