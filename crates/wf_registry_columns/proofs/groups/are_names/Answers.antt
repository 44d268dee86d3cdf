use Rattle.std.proofs.Common.{rules}
use Rattle.std.proofs.lemmas.Iterator.Search.{all_from_yields_List}
use Rattle.std.proofs.lemmas.Iterator.Splits.{YieldsList-from_slice_split}
use Rattle.wf_model.specs.Letters.{is_name}
use Rattle.wf_model.specs.Groups.{is_comma}
use Rattle.wf_registry_columns.proofs.groups.are_names.Goals as goal

pub returns : goal.returns
returns c = all_from_yields_List is_name _ _ c.all.result c.all.ensures.ran
    (YieldsList-from_slice_split _ is_comma c.args.bytes.now c.split.ensures.rest c.split.ensures.done c.split.ensures.closure (λ x b q k. search rules))
    (λ x b q k. search rules)
