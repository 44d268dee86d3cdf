use Rattle.std.proofs.Common.{◌∙◌, ap}
use Rattle.wf_model.specs.Letters.{is_among}
use Rattle.wf_registry.proofs.IndexLemmas.{among-texts}
use Rattle.wf_registry.proofs.names.Names.contains.Goals as goal

pub returns : goal.returns
returns c = c.contains.ensures ∙ among-texts c.args.word.now c.self.inside.names.keys ∙ ap (is_among c.args.word.now) c.self.view_is
