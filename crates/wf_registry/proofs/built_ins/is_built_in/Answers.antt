use Rattle.std.proofs.Common.{◌∙◌, rules, ℕ}
use Rattle.std.specs.Prelude.{◌==◌}
use Rattle.std.specs.Str.{bytes_eq}
use Rattle.std.proofs.lemmas.Iterator.Search.{any_from_yields_List}
use Rattle.std.proofs.lemmas.Iterator.Splits.{YieldsList-from_slice_split}
use Rattle.wf_model.specs.Letters.{Text}
use Rattle.wf_registry.proofs.BuiltInNames.{all_names, built_in_is}
use Rattle.wf_registry.proofs.built_ins.is_built_in.Goals as goal

pub returns : goal.returns
returns c =
    any_from_yields_List (λ (w : Text). bytes_eq w c.args.name.now) _ _ c.any.result c.any.ensures.ran
    (YieldsList-from_slice_split _ (λ (b : ℕ). b == 32) all_names c.split.ensures.rest c.split.ensures.done c.split.ensures.closure (λ x b q k. search rules))
    (λ x b q k. search rules)
    ∙ built_in_is c.args.name.now
