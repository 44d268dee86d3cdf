use Rattle.std.proofs.Common.{◌∙◌}
use Rattle.wf_model.specs.Letters.{lower}
use Rattle.wf_table.proofs.ItemParts.{is_named_among}
use Rattle.wf_table.proofs.item.is_repeated.Goals as goal

pub returns : goal.returns
returns c = c.has_phase_named.ensures ∙ is_named_among (lower c.args.word.now) c.args.before.now
