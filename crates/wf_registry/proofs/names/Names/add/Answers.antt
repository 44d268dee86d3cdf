use Rattle.std.proofs.Common.{◌∙◌, ap}
use Rattle.std.specs.Prelude.{◌||◌, [], ◌∷◌}
use Rattle.wf_model.specs.Letters.{is_among}
use Rattle.wf_registry_columns.specs.Texts.{texts}
use Rattle.wf_registry.proofs.IndexLemmas.{inserted}
use Rattle.wf_registry.proofs.names.Names.add.Goals as goal

pub returns : goal.returns
returns c w =
    ap (λ ks. is_among w (texts ks)) c.in_ok-insert.ensures.keys
    ∙ inserted c.self.inside.names.keys c.args.name w
    ∙ ap (λ ns. is_among w ns || is_among w (c.args.name.items ∷ [])) c.self.view_is
