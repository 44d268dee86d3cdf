use Rattle.std.proofs.Common.{refl, ◌∙◌}
use Rattle.std.proofs.lemmas.Bool.{false≢true}
use Rattle.wf_plan_limits.proofs.FileSizes.{within-fits, past-told}
use Rattle.wf_plan_limits.proofs.Stages.{if_ok-both}
use Rattle.wf_plan_limits.proofs.files.file_fault.Goals as goal

pub returns-in-Ok : goal.returns-in-Ok
returns-in-Ok c = within-fits c.args.plan.now c.args.number c.args.stream c.in_ok-header.header c.file_records.result c.in_ok-header.ensures c.file_records.ensures (λ past. false≢true (c.in-Ok.ensures.too_long.1 past))

pub returns : goal.returns
returns c =
    if_ok-both c.as_limit.result _ _ _
    (λ fits f is. is ∙ past-told c.args.plan.now c.args.number c.args.stream c.in_ok-header.header c.file_records.result c.in_ok-header.ensures c.file_records.ensures c.in-Err.too_long.bytes (c.in-Err.ensures.too_long.0 refl) c.in-Err.ensures.bytes fits)
    c.as_limit.ensures.fits c.as_limit.ensures.limit
