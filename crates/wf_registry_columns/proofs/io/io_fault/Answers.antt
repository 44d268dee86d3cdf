use Rattle.std.proofs.Common.{◌∙◌, sym}
use Rattle.wf_registry_columns.proofs.IoParts.{all_read}
use Rattle.wf_registry_columns.proofs.io.io_fault.Goals as goal

pub returns : goal.returns
returns c = all_read c.loop-rest.rest.now c.args.word.now (sym c.is_empty.ensures ∙ c.loop-rest-test.false) c.loop-rest.invariant (sym c.is_dash.ensures ∙ c.if-is_dash.false)
