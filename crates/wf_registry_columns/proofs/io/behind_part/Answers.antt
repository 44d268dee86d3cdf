use Rattle.std.proofs.Common.{◌∙◌, sym}
use Rattle.wf_registry_columns.proofs.IoParts.{behind_read, behind_wrong}
use Rattle.wf_registry_columns.proofs.io.behind_part.Goals as goal

pub returns-in-Ok-clause-read : goal.returns-in-Ok-clause-read
returns-in-Ok-clause-read c = behind_read c.args.bytes.now c.split_at.result.1.now c.in-Ok.len c.in-len1-up.len_at_least (sym c.part_len.ensures.len ∙ c.in-Ok.is) c.split_at.ensures.back

pub returns-in-Err-clause-fault : goal.returns-in-Err-clause-fault
returns-in-Err-clause-fault c = behind_wrong c.args.bytes.now c.in-Err.kind c.in-len1-up.len_at_least (sym c.part_len.ensures.len ∙ c.in-Err.is)
