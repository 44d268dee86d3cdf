use Rattle.std.proofs.Common.{◌∙◌, sym, ℕ, rules, ◌∷◌}
use Rattle.std.specs.Prelude.{codes, flat_map}
use Rattle.std.specs.Global.{Vec}
use Rattle.std.proofs.lemmas.Iterator.{YieldsList-from_slice}
use Rattle.std.proofs.lemmas.Iterator.Search.{any_from_yields_List}
use Rattle.wf_model.specs.Letters.{is_among}
use Rattle.wf_model.specs.Entries.{entry_variables}
use Rattle.wf_registry.proofs.Sharing.{shares}
use Rattle.wf_registry.proofs.state.shares_variables.Goals as goal

pub returns : goal.returns
returns c =
    any_from_yields_List (λ (w : Vec ℕ). is_among w.items (codes "Times" ∷ flat_map entry_variables c.args.before.now)) _ _ c.any.result c.any.ensures.ran
    (YieldsList-from_slice c.args.names.now c.iter.ensures.rest) (λ x b q k. search rules)
    ∙ sym (shares c.args.names.now (codes "Times" ∷ flat_map entry_variables c.args.before.now))
