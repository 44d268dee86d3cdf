use Rattle.std.proofs.Common.{◌∙◌, ap, ℕ, List, Some, codes}
use Rattle.wf_model.specs.FilesRead.{table_text}
use Rattle.wf_model.proofs.ReadingLemmas.{Gives-along}
use Rattle.wf_setup.specs.Errors.{refusal_of}
use Rattle.wf_setup.proofs.cases.items_of_store.Goals as goal

pub returns-in-Ok-Some-clause-items : goal.returns-in-Ok-Some-clause-items
returns-in-Ok-Some-clause-items g c = λ m told.
    let found = rw c.in-Ok-Some.field-0-is at (c.in-Ok-Some.ensures.found m told) in
    Gives-along (λ i. i) refusal_of c.items_of_text.result
    (table_text c.args.config.now c.args.hooks.now (Some c.deref.result.now)) (table_text c.args.config.now c.args.hooks.now (m (codes "stencil.table")))
    (ap (λ (t : List ℕ). table_text c.args.config.now c.args.hooks.now (Some t)) c.deref.ensures.value ∙ ap (table_text c.args.config.now c.args.hooks.now) found)
    c.items_of_text.ensures.items
