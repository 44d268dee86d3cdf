use Rattle.std.proofs.Common.{◌∙◌, sym, ap, ℕ, List, Some, Result, codes}
use Rattle.wf_model.specs.declared.namelist.Namelist.{Namelist}
use Rattle.wf_model.specs.declared.namelist.NamelistFault.{NamelistFault}
use Rattle.wf_model.specs.Reading.{told_as}
use Rattle.wf_model.specs.Namelist.{namelist_of}
use Rattle.wf_model.specs.Refusals.{numbered, namelist_refusal}
use Rattle.wf_model.specs.FilesRead.{namelist_text}
use Rattle.wf_setup.proofs.Steps.{Fails-tells}
use Rattle.wf_setup.proofs.ConfigChain.{namelist_of_utf8, namelist_of_other}
use Rattle.wf_setup.proofs.configs.namelist_of_text.Goals as goal

pub returns-in-Err-clause-namelist : goal.returns-in-Err-clause-namelist
returns-in-Err-clause-namelist c =
    Fails-tells c.numbered.result (numbered 3 (codes "namelist") 0 (codes "NotText")) (namelist_text (Some c.args.text.now)) (namelist_of_other c.args.text.now c.in-Err.ensures.cases.0) c.numbered.ensures

pub returns-in-Ok-read_namelist-clause-namelist : goal.returns-in-Ok-read_namelist-clause-namelist
returns-in-Ok-read_namelist-clause-namelist c =
    sym (namelist_of_utf8 c.args.text.now c.in-Ok.ensures.cases.1)
    ∙ ap (λ (t : List ℕ). told_as namelist_refusal (namelist_of t)) (sym c.in-Ok.ensures.cases.0)
    ∙ ap (λ (r : Result Namelist NamelistFault). told_as namelist_refusal r) c.in-Ok-read_namelist.ensures

pub returns-in-Err-Fault-clause-namelist : goal.returns-in-Err-Fault-clause-namelist
returns-in-Err-Fault-clause-namelist c =
    Fails-tells c.namelist_refusal.result (namelist_refusal c.in-Err-Fault.fault) (namelist_text (Some c.args.text.now))
    (sym (namelist_of_utf8 c.args.text.now c.in-Ok.ensures.cases.1)
    ∙ ap (λ (t : List ℕ). told_as namelist_refusal (namelist_of t)) (sym c.in-Ok.ensures.cases.0)
    ∙ ap (λ (r : Result Namelist NamelistFault). told_as namelist_refusal r) (rw c.in-Err-Fault.field-0-is at c.in-Err-Fault.ensures))
    c.namelist_refusal.ensures
